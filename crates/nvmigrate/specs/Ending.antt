use Rattle.std.specs.Prelude.{◌≡◌, ◌⊎◌, ℕ, List, Option, Result}
use Rattle.mig_base.specs.Stream.{Writes}
use Rattle.mig_base.specs.declared.fault.Failed.{Failed}
use Rattle.nvm_model.specs.Run.{SinkState}
use Rattle.engine.specs.Claims.{IsReadFault, IsWriteFault, OnRun}
use Rattle.engine.specs.Headline.{IsRun, hosts}
use Rattle.engine.specs.Words.{IfRuns, IsRunSerial}
use Rattle.engine.specs.declared.status.Status.{Status}
use Rattle.engine.specs.declared.status.Status.TheVariants.{OutOfMemory, Usage}
use Rattle.guest_ram.specs.declared.host.Host.{Host}
use Rattle.mig_medium.specs.Memory.{Memory, no_moves, state_of}
use Rattle.file_medium.specs.FaultText.{IsFaultOf}
use Rattle.file_medium.specs.Part as part
use Rattle.file_medium.specs.Part.{Part}
use Rattle.file_medium.specs.declared.fault.OpenFault.{OpenFault}
use Rattle.nvmigrate.specs.EndText.{end_code, end_text}
use Rattle.nvmigrate.specs.Hosts.{AreFresh, IsFileHost, NameNoFiles}
use Rattle.nvmigrate.specs.declared.ended.Ended.{Ended}
use Rattle.nvmigrate.specs.declared.ended.Ended.TheVariants.{Answered, NotOpened, NotSynced}

-- What the program does, and how it ends.

-- why there are no words
abbrev pub IsNoWords : Status → Type 0
IsNoWords status = (status ≡ Usage) ⊎ (status ≡ OutOfMemory)

-- one run over hosts in memory as the words ask for them
pub record HasMemoryRun (words : List (List ℕ)) (left : Option (List ℕ)) (old : SinkState) (status : Status) (new : SinkState) : Type 0 where
  pub from : Host Memory
  pub to : Host Memory
  pub new_from : Host Memory
  pub new_to : Host Memory
  pub no_files : NameNoFiles words
  pub fresh : AreFresh words from to
  pub run : IsRun state_of no_moves left (hosts from to old) status (hosts new_from new_to new)

-- one run over two hosts in the files that the words name
pub record HasFileRun (words : List (List ℕ)) (left : Option (List ℕ)) (old : SinkState) (status : Status) (new : SinkState) : Type 0 where
  pub blocks : ℕ
  pub shelf : ℕ
  pub is_run : IsRunSerial words blocks shelf
  pub from : Host Part
  pub to : Host Part
  pub new_from : Host Part
  pub new_to : Host Part
  pub from_is : IsFileHost blocks shelf from
  pub to_is : IsFileHost blocks shelf to
  pub run : IsRun part.state_of no_moves left (hosts from to old) status (hosts new_from new_to new)

-- one run
abbrev pub HasRun : List (List ℕ) → Option (List ℕ) → SinkState → Status → SinkState → Type 0
HasRun words left old status new = HasMemoryRun words left old status new ⊎ HasFileRun words left old status new

-- The answer to these words: where they ask for a run, there was one; and an input or an output has failed exactly where the
-- answer says so.
pub record IsAnswered (words : List (List ℕ)) (left : Option (List ℕ)) (reads reads_now : ℕ) (old new : SinkState) (status : Status) : Type 0 where
  pub ran : IfRuns words (OnRun status (HasRun words left old status new))
  pub read_fault : IsReadFault reads reads_now status
  pub write_fault : IsWriteFault old.faults new.faults status

-- A host's file wasn't opened: the words name files, its fault has its cause, and nothing was read or written.
pub record IsNotOpened (words : List (List ℕ)) (reads reads_now : ℕ) (old new : SinkState) (f : OpenFault) : Type 0 where
  pub blocks : ℕ
  pub shelf : ℕ
  pub is_run : IsRunSerial words blocks shelf
  pub fault : IsFaultOf blocks f
  pub unread : reads_now ≡ reads
  pub unwritten : new ≡ old

-- how the program ended
abbrev pub IsEnded : List (List ℕ) → Option (List ℕ) → ℕ → ℕ → SinkState → SinkState → Ended → Type 0
IsEnded words left reads reads_now old new (Answered status) = IsAnswered words left reads reads_now old new status
IsEnded words left reads reads_now old new (NotSynced status) = IsAnswered words left reads reads_now old new status
IsEnded words left reads reads_now old new (NotOpened f) = IsNotOpened words reads reads_now old new f

-- The program ends with the code of how it ended, and standard error took its text, or a front of it where that failed.
pub record EndsWith (ended : Ended) (old new : SinkState) (code : ℕ) : Type 0 where
  pub code_is : code ≡ end_code ended
  pub result : Result (Unit {0}) Failed
  pub written : Writes (end_text ended) old.taken new.taken old.faults new.faults result
