use Rattle.std.specs.Prelude.{ℕ, ◌+◌, ◌^◌, ◌<◌, ◌≤◌, List, All, IfSome}
use Rattle.std.specs.List.{AllByRecursion}
use Rattle.nvm_values.specs.declared.sqe.Sqe.{Sqe}
use Rattle.nvm_model.specs.declared.command.Command.{Command}
use Rattle.nvm_model.specs.declared.command.Completion.{Completion}
use Rattle.nvm_model.specs.declared.command.Work.{Work}
use Rattle.nvm_model.specs.declared.script.Script.{Script}
use Rattle.nvm_model.specs.Text.{IsStatus}
use Rattle.nvm_model.specs.World.{Lane}

-- What the numbers of a lane's queues may be: each event of such a lane is a line.

-- a range of blocks that a command of a namespace of so many blocks may have
abbrev pub IsWorkOf : ℕ → Work → Type 0
IsWorkOf blocks w = (1 ≤ w.span.count) × (w.span.count ≤ 64) × (w.span.first + w.span.count ≤ blocks)

-- a command whose numbers are those of a command of a namespace of so many blocks
pub record IsCommandOf (blocks : ℕ) (c : Command) : Type 0 where
  pub cid : c.cid < 2 ^ 16
  pub status : IsStatus c.status
  pub work : IfSome c.work (IsWorkOf blocks)

abbrev pub IsEntry : Sqe → Type 0
IsEntry e = e.cid < 2 ^ 16

abbrev pub IsCompletion : Completion → Type 0
IsCompletion c = (c.cid < 2 ^ 16) × IsStatus c.status × (c.head < 2 ^ 32)

-- the numbers of what is in a lane's queues are those of entries, commands and completions
pub record IsInRange (s : Script) (lane : Lane) : Type 0 where
  pub entries : All IsEntry lane.submitted
  pub running : All (IsCommandOf s.head.blocks) lane.running
  pub posted : All IsCompletion lane.posted

-- the same of every lane
abbrev pub AreInRange : Script → List Lane → Type 0
AreInRange s lanes = AllByRecursion (IsInRange s) lanes
