use Rattle.std.specs.Prelude.{◌≡◌, ℕ, ◌+◌, ◌*◌, ◌/◌, ◌%◌, ◌≤◌, List, [], ◌∷◌, ◌++◌, length, map, Bool, true, false, Option, Some, None}
use Rattle.std.specs.List.{flat_map, range_with_len}
use Rattle.nvm_model.specs.Chain.{Chain}
use Rattle.adm_values.specs.declared.command.AdminCmd.{AdminCmd}
use Rattle.adm_values.specs.declared.command.What.{What}
use Rattle.adm_values.specs.declared.command.What.TheVariants.{Suspend, Resume, SetState, GetState, LogUserData, CreateQueue, DeleteQueue}
use Rattle.data_queue.specs.declared.change.Change.{Change}
use Rattle.manager.specs.declared.side.CopyAnswer.{CopyAnswer}
use Rattle.manager.specs.declared.side.CopyAnswer.TheVariants.{Copied, Fault}
use Rattle.manager.specs.declared.side.Side.{Side}
use Rattle.manager.specs.declared.side.Side.TheVariants.{From, To}
use Rattle.manager.specs.Port.{IsPortCall, PortCall, PortState}
use Rattle.manager.specs.Port.PortCall.{Copy as Copying, Take as Taking, Admin as Commanding, CopyPage as CopyingPage, Mark as Marking}

-- What a manager asks of a port: its calls without the bytes, of a copy with how it ended.

pub data Ask : Type 0 where
  Copy : ℕ → CopyAnswer → Ask
  Take : Option Change → Ask
  Admin : Side → AdminCmd → Ask
  CopyPage : ℕ → Ask
  Mark : ℕ → Ask

abbrev pub asked : PortCall → Ask
asked (Copying b bytes answer) = Copy b answer
asked (Taking answer) = Take answer
asked (Commanding side cmd bytes cpl new_bytes) = Admin side cmd
asked (CopyingPage page) = CopyPage page
asked (Marking n) = Mark n

-- This was asked, in this order, and nothing else; the port's own meaning went by its relation through these calls. Both
-- sides have as many blocks as before, and a call is spent for each at most.
pub record Asked {I : Type 0} (moves : I → PortCall → I → Type 0) (asks : List Ask) (old new : PortState I) : Type 0 where
  pub calls : List PortCall
  pub run : Chain (IsPortCall moves) old calls new
  pub inside : Chain moves old.inside calls new.inside
  pub asks_are : map asked calls ≡ asks
  pub count : new.count ≡ old.count
  pub left : old.left ≤ new.left + length asks

-- one command after another, so all have one identifier
abbrev pub command : What → AdminCmd
command what = record { cid = 0; what = what }

-- The suspension of the source, after turn t.
abbrev pub suspend_asks : ℕ → List Ask
suspend_asks t = Admin From (command Suspend) ∷ Mark (3 * t + 1) ∷ []

abbrev pub copy_asks : List ℕ → List Ask
copy_asks blocks = map (λ (b : ℕ). Copy b Copied) blocks

-- copies up to one that failed
abbrev pub stop_asks : List ℕ → ℕ → Side → List Ask
stop_asks front last side = copy_asks front ++ Copy last (Fault side) ∷ []

abbrev pub page_asks : List ℕ → List Ask
page_asks pages = map CopyPage pages

-- The state in parts of 64 bytes, and a last one of those that are left: each is read at the source and set at the
-- destination.
abbrev pub part_asks : ℕ → ℕ → List Ask
part_asks i length = Admin From (command (GetState (64 * i) 64)) ∷ Admin To (command (SetState (64 * i) length)) ∷ []

abbrev pub whole_parts : ℕ → List Ask
whole_parts n = flat_map (λ (i : ℕ). part_asks i 64) (range_with_len 0 n)

abbrev pub state_asks : ℕ → List Ask
state_asks size = whole_parts (size / 64) ++ part_asks (size / 64) (size % 64)

-- The resumption at a side, after turn t.
abbrev pub resume_asks : Side → ℕ → List Ask
resume_asks side t = Admin side (command Resume) ∷ Mark (3 * t + 2) ∷ []

-- A whole cutover, and one that stopped at a copy.
abbrev pub cut_over_asks : ℕ → List ℕ → List ℕ → ℕ → List Ask
cut_over_asks t blocks pages size = suspend_asks t ++ (copy_asks blocks ++ (page_asks pages ++ (state_asks size ++ resume_asks To t)))

abbrev pub stopped_asks : ℕ → List ℕ → ℕ → Side → List Ask
stopped_asks t front last side = suspend_asks t ++ stop_asks front last side

-- After a turn: all changes are taken, until there is none;
abbrev pub take_asks : List Change → List Ask
take_asks changes = map (λ (c : Change). Take (Some c)) changes ++ Take None ∷ []

-- logging is started, which says whether one was lost, and then the queue is made anew;
abbrev pub start_ask : Ask
start_ask = Admin From (command (LogUserData true 1))

abbrev pub create_asks : ℕ → List Ask
create_asks cells = Admin From (command (CreateQueue cells)) ∷ start_ask ∷ []

abbrev pub log_asks : Bool → ℕ → List Ask
log_asks false cells = start_ask ∷ []
log_asks true cells = start_ask ∷ Admin From (command (DeleteQueue 1)) ∷ create_asks cells

-- logging ends, and with it the queue, where the move is given up;
abbrev pub end_log_asks : List Ask
end_log_asks = Admin From (command (LogUserData false 1)) ∷ Admin From (command (DeleteQueue 1)) ∷ []

-- and all these pages are copied.
abbrev pub round_asks : List Change → Bool → ℕ → List ℕ → List Ask
round_asks changes restarted cells pages = take_asks changes ++ (log_asks restarted cells ++ page_asks pages)
