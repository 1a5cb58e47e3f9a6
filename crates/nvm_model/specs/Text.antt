use Rattle.std.specs.Prelude.{◌≡◌, ℕ, ◌<◌, ◌≤◌, ◌^◌, Bool, true, false, List, [], ◌∷◌, ◌++◌, Option, Some, None, All, length, codes, decimal}
use Rattle.std.specs.List.{flat_map, AllByRecursion}
use Rattle.hex.specs.Hex.{encode_lower}
use Rattle.nvm_values.specs.Status.{StatusPair}
use Rattle.nvm_model.specs.declared.command.Outcome.{Outcome}
use Rattle.nvm_model.specs.declared.command.Outcome.TheVariants.{Done, Faulted, Differs}
use Rattle.nvm_model.specs.declared.line.Line.{Line}
use Rattle.nvm_model.specs.declared.line.Line.TheVariants as line

-- A transcript's text. Each line has one text, and ends with a line feed.

-- a number in decimal and what comes after it
abbrev pub field : ℕ → List ℕ
field n = decimal n ++ 32 ∷ []

-- a number in decimal, and a line feed
abbrev pub last_field : ℕ → List ℕ
last_field n = decimal n ++ 10 ∷ []

-- a status: its type, and its code in two hexadecimal digits
abbrev pub status_text : StatusPair → List ℕ
status_text status = field status.0 ++ encode_lower (status.1 ∷ [])

-- a phase tag
abbrev pub bit : Bool → ℕ
bit true = 1
bit false = 0

-- an outcome: `ok`, `fault J` or `differs J`
abbrev pub outcome_text : Outcome → List ℕ
outcome_text Done = codes "ok"
outcome_text (Faulted at) = codes "fault " ++ decimal at
outcome_text (Differs at) = codes "differs " ++ decimal at

-- a digest as 64 hexadecimal digits, or nothing
abbrev pub digest_text : Option (List ℕ) → List ℕ
digest_text None = 10 ∷ []
digest_text (Some digest) = 32 ∷ encode_lower digest ++ 10 ∷ []

-- the one text of a line
abbrev pub line_text : Line → List ℕ
line_text line.Title = codes "nvmigrate transcript 1\n"
line_text line.Ready = codes "ready\n"
line_text (line.Act k n) = codes "act " ++ field k ++ last_field n
line_text (line.Reap k cid status head phase) = codes "reap " ++ field k ++ field cid ++ status_text status ++ codes " " ++ field head ++ last_field (bit phase)
line_text (line.Fetch k cid status pieces) = codes "fetch " ++ field k ++ field cid ++ status_text status ++ codes " " ++ last_field pieces
line_text (line.Piece k cid first count outcome digest) = codes "piece " ++ field k ++ field cid ++ field first ++ field count ++ outcome_text outcome ++ digest_text digest
line_text (line.Post k cid status) = codes "post " ++ field k ++ field cid ++ status_text status ++ codes "\n"
line_text line.Migrate = codes "migrate\n"
line_text line.Restart = codes "restart\n"
line_text (line.Round owed pages) = codes "round " ++ field owed ++ last_field pages
line_text line.Suspend = codes "suspend\n"
line_text (line.Pause blocks pages) = codes "pause " ++ field blocks ++ last_field pages
line_text line.ResumeTo = codes "resume to\n"
line_text line.GiveUp = codes "give up\n"
line_text line.End = codes "end\n"

-- what the numbers of a line may be
abbrev pub IsEventOf : ℕ → ℕ → Type 0
IsEventOf k cid = (1 ≤ k) × (k ≤ 8) × (cid < 2 ^ 16)

-- a type up to 7 and a code of 8 bits
abbrev pub IsStatus : StatusPair → Type 0
IsStatus status = (status.0 ≤ 7) × (status.1 < 2 ^ 8)

-- its place has 32 bits
abbrev pub IsOutcome : Outcome → Type 0
IsOutcome Done = Unit {0}
IsOutcome (Faulted at) = at < 2 ^ 32
IsOutcome (Differs at) = at < 2 ^ 32

-- it has 32 bytes
abbrev pub IsDigest : Option (List ℕ) → Type 0
IsDigest None = Unit {0}
IsDigest (Some digest) = (length digest ≡ 32) × All (λ byte. byte < 2 ^ 8) digest

-- no digest stands after `differs`
abbrev pub DigestMayStand : Outcome → Option (List ℕ) → Type 0
DigestMayStand (Differs at) (Some digest) = ⊥
DigestMayStand (Differs at) None = Unit {0}
DigestMayStand Done digest = Unit {0}
DigestMayStand (Faulted at) digest = Unit {0}

-- every number of a line is in its range, and it has the form
abbrev pub IsLine : Line → Type 0
IsLine (line.Act k n) = (1 ≤ k) × (k ≤ 8) × (n < 2 ^ 32)
IsLine (line.Reap k cid status head phase) = IsEventOf k cid × IsStatus status × (head < 2 ^ 32)
IsLine (line.Fetch k cid status pieces) = IsEventOf k cid × IsStatus status × (pieces < 2 ^ 32)
IsLine (line.Piece k cid first count outcome digest) = IsEventOf k cid × (first < 2 ^ 32) × (count < 2 ^ 32) × IsOutcome outcome × IsDigest digest × DigestMayStand outcome digest
IsLine (line.Post k cid status) = IsEventOf k cid × IsStatus status
IsLine (line.Round owed pages) = (owed < 2 ^ 32) × (pages < 2 ^ 32)
IsLine (line.Pause blocks pages) = (blocks < 2 ^ 32) × (pages < 2 ^ 32)
IsLine line.Title = Unit {0}
IsLine line.Ready = Unit {0}
IsLine line.Migrate = Unit {0}
IsLine line.Restart = Unit {0}
IsLine line.Suspend = Unit {0}
IsLine line.ResumeTo = Unit {0}
IsLine line.GiveUp = Unit {0}
IsLine line.End = Unit {0}

-- the texts of lines, one after another
abbrev pub text_of : List Line → List ℕ
text_of lines = flat_map line_text lines

-- these lines have this text
pub record IsTranscript (text : List ℕ) (lines : List Line) : Type 0 where
  pub text_is : text ≡ text_of lines
  pub are_lines : AllByRecursion IsLine lines

-- what a line needs to have a text of its form
abbrev pub HasForm : Line → Type 0
HasForm (line.Piece k cid first count outcome digest) = DigestMayStand outcome digest
HasForm (line.Act k n) = Unit {0}
HasForm (line.Reap k cid status head phase) = Unit {0}
HasForm (line.Fetch k cid status pieces) = Unit {0}
HasForm (line.Post k cid status) = Unit {0}
HasForm (line.Round owed pages) = Unit {0}
HasForm (line.Pause blocks pages) = Unit {0}
HasForm line.Title = Unit {0}
HasForm line.Ready = Unit {0}
HasForm line.Migrate = Unit {0}
HasForm line.Restart = Unit {0}
HasForm line.Suspend = Unit {0}
HasForm line.ResumeTo = Unit {0}
HasForm line.GiveUp = Unit {0}
HasForm line.End = Unit {0}
