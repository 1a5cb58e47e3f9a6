use Rattle.std.specs.Prelude.{◌≡◌, ◌≢◌, ◌⊎◌, ℕ, ◌*◌, ◌≤◌, List, [], ◌∷◌, codes, decimal}
use Rattle.engine.specs.declared.words.Form.{Form}
use Rattle.engine.specs.declared.words.Form.TheVariants.{RunSerial, Show, Check}

-- two different words that aren't empty
pub record IsPair (from to : List ℕ) : Type 0 where
  pub from_some : from ≢ []
  pub to_some : to ≢ []
  pub differ : from ≢ to

-- The words that may stand behind the sizes: none, or two that name the files of both hosts.
abbrev pub AreFiles : List (List ℕ) → Type 0
AreFiles [] = Unit {0}
AreFiles (from ∷ []) = ⊥
AreFiles (from ∷ to ∷ []) = IsPair from to
AreFiles (from ∷ to ∷ more ∷ rest) = ⊥

-- The words `run serial BLOCKS SHELF` or `run serial BLOCKS SHELF FROM TO`, with a namespace of so many blocks in at most
-- 64 shelves of so many.
pub record IsRunSerial (words : List (List ℕ)) (blocks shelf : ℕ) : Type 0 where
  pub files : List (List ℕ)
  pub files_are : AreFiles files
  pub words_are : words ≡ codes "run" ∷ codes "serial" ∷ decimal blocks ∷ decimal shelf ∷ files
  pub blocks_fit : (1 ≤ blocks) × (blocks ≤ 131072)
  pub shelf_fits : (1 ≤ shelf) × (shelf ≤ 65536)
  pub shelves : (n : ℕ) × (n ≤ 64) × (blocks ≡ n * shelf)

-- The words run a script over so many blocks in shelves of so many, and the hosts are kept in these files.
abbrev pub IsRunOver : List (List ℕ) → ℕ → ℕ → List ℕ → List ℕ → Type 0
IsRunOver words blocks shelf from to = (is : IsRunSerial words blocks shelf) × (is.files ≡ from ∷ to ∷ [])

-- two words spell the sizes of such a namespace
pub record AreSizes (blocks_word shelf_word : List ℕ) (blocks shelf : ℕ) : Type 0 where
  pub blocks_is : blocks_word ≡ decimal blocks
  pub shelf_is : shelf_word ≡ decimal shelf
  pub blocks_fit : (1 ≤ blocks) × (blocks ≤ 131072)
  pub shelf_fits : (1 ≤ shelf) × (shelf ≤ 65536)
  pub shelves : (n : ℕ) × (n ≤ 64) × (blocks ≡ n * shelf)

-- the word `show`
abbrev pub IsShow : List (List ℕ) → Type 0
IsShow words = words ≡ codes "show" ∷ []

-- the word `check`
abbrev pub IsCheck : List (List ℕ) → Type 0
IsCheck words = words ≡ codes "check" ∷ []

-- words of a form
abbrev pub IsForm : List (List ℕ) → Type 0
IsForm words = ((blocks : ℕ) × (shelf : ℕ) × IsRunSerial words blocks shelf) ⊎ (IsShow words ⊎ IsCheck words)

-- the words are no form
abbrev pub IsNoForm : List (List ℕ) → Type 0
IsNoForm words = ((blocks shelf : ℕ) → IsRunSerial words blocks shelf → ⊥) × (IsShow words → ⊥) × (IsCheck words → ⊥)

-- what holds of a call whose words run a script
abbrev pub IfRuns : List (List ℕ) → Type 0 → Type 0
IfRuns words claim = (blocks shelf : ℕ) → IsRunSerial words blocks shelf → claim

-- of a call whose words ask to show
abbrev pub IfShows : List (List ℕ) → Type 0 → Type 0
IfShows words claim = IsShow words → claim

-- of a call whose words ask to check
abbrev pub IfChecks : List (List ℕ) → Type 0 → Type 0
IfChecks words claim = IsCheck words → claim

-- of a call whose words don't ask to check
abbrev pub UnlessChecks : List (List ℕ) → Type 0 → Type 0
UnlessChecks words claim = (IsCheck words → ⊥) → claim

-- what the words are, by what they ask for
abbrev pub HasForm : Form → List (List ℕ) → Type 0
HasForm RunSerial words = ((blocks : ℕ) × (shelf : ℕ) × IsRunSerial words blocks shelf) × (IsShow words → ⊥) × (IsCheck words → ⊥)
HasForm Show words = IsShow words × ((blocks shelf : ℕ) → IsRunSerial words blocks shelf → ⊥) × (IsCheck words → ⊥)
HasForm Check words = IsCheck words × ((blocks shelf : ℕ) → IsRunSerial words blocks shelf → ⊥) × (IsShow words → ⊥)
