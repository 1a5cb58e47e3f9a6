use Rattle.std.specs.Prelude.{◌≡◌, ℕ, List, [], ◌∷◌, ◌++◌, None}
use Rattle.script.specs.Words.{cut_at}

-- a text that ends at its first line feed
pub record IsEnded (text : List ℕ) : Type 0 where
  pub front : List ℕ
  pub text_is : text ≡ front ++ 10 ∷ []
  pub free : cut_at 10 front ≡ None

-- a text begins with such a text
pub record BeginsWith (text line after : List ℕ) : Type 0 where
  pub text_is : text ≡ line ++ after
  pub ended : IsEnded line
