use Rattle.std.specs.Prelude.{ℕ, List, [], ◌∷◌, ◌++◌, decimal}
use Rattle.nvm_model.specs.declared.script.Head.{Head}
use Rattle.script.specs.declared.key.Key.{Key}
use Rattle.script.specs.Keys.{key_word, number}

-- the line of a number
abbrev pub key_text : Head → Key → List ℕ
key_text h key = key_word key ++ 32 ∷ (decimal (number key h) ++ 10 ∷ [])
