use Rattle.std.specs.Prelude.{◌≡◌, ◌+◌, ◌≤◌, ℕ, List, Option, Some, None, IsTrue}
use Rattle.nvm_values.specs.declared.op.Op.{Op}
use Rattle.nvm_values.specs.declared.op.Op.TheVariants.{Flush}
use Rattle.nvm_values.specs.declared.sqe.Sqe.{Sqe}
use Rattle.nvm_values.specs.Op.{op_of, moves_data}
use Rattle.nvm_values.specs.Status.{StatusPair, success}
use Rattle.nvm_model.specs.declared.command.Command.{Command}
use Rattle.nvm_model.specs.declared.command.Work.{Work}
use Rattle.nvm_model.specs.Check.{pages_needed, work_of}
use Rattle.guest_ram.specs.Span.{IsWithin}
use Rattle.guest_ram.specs.Window.{WindowState}
use Rattle.nvm_cmd.specs.declared.job.Checked.{Checked}
use Rattle.nvm_cmd.specs.declared.job.Checked.TheVariants.{Refused, Run}
use Rattle.nvm_cmd.specs.declared.job.Job.{Job}

-- a command's work, as its job
abbrev pub job_of : ℕ → Work → Job
job_of cid work = record { op = work.op; cid = cid; span = work.span; pages = work.pages }

-- the answer to a verdict: refused with its status, or the job of an entry that no test stops
abbrev pub IsAnswer : Option StatusPair → ℕ → List (List ℕ) → Sqe → Checked → Type 0
IsAnswer (Some status) lane memory e checked = checked ≡ Refused status
IsAnswer None lane memory e checked = (op : Op) × (op_of e.opcode ≡ Some op) × (checked ≡ Run (job_of e.cid (work_of lane memory e op)))

-- the fetched command that an answer stands for
abbrev pub command_of : ℕ → Checked → Command
command_of cid (Refused status) = record { cid = cid; status = status; work = None }
command_of cid (Run job) = record { cid = job.cid; status = success; work = Some (record { op = job.op; span = job.span; pages = job.pages; done = 0 }) }

-- a job on blocks of the namespace and, where it moves data, on a data page of the window for each eight of them
pub record IsJob (blocks : ℕ) (w : WindowState) (job : Job) : Type 0 where
  pub op : job.op ≡ Flush → ⊥
  pub some : 1 ≤ job.span.count
  pub few : job.span.count ≤ 64
  pub within : job.span.first + job.span.count ≤ blocks
  pub there : IsTrue (moves_data job.op) → IsWithin w (pages_needed job.span.count) job.pages

abbrev pub IsRunnable : ℕ → WindowState → Checked → Type 0
IsRunnable blocks w (Refused status) = Unit {0}
IsRunnable blocks w (Run job) = IsJob blocks w job
