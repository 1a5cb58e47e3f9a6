use Rattle.std.specs.Prelude.{ℕ, List, codes}
use Rattle.engine.specs.StatusText.{code_of, status_text}
use Rattle.file_medium.specs.FaultText as fault
use Rattle.nvmigrate.specs.declared.ended.Ended.{Ended}
use Rattle.nvmigrate.specs.declared.ended.Ended.TheVariants.{Answered, NotOpened, NotSynced}

-- the exit status of the program
abbrev pub end_code : Ended → ℕ
end_code (Answered status) = code_of status
end_code (NotOpened f) = fault.code_of f
end_code (NotSynced status) = 9

-- what it says on standard error
abbrev pub end_text : Ended → List ℕ
end_text (Answered status) = status_text status
end_text (NotOpened f) = fault.fault_text f
end_text (NotSynced status) = codes "host not synced\n"
