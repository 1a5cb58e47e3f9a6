use Rattle.std.specs.Prelude.{ℕ, List, [], ◌++◌, codes, decimal}
use Rattle.judge.specs.declared.verdict.Fault.{Fault}
use Rattle.judge.specs.declared.verdict.Fault.TheVariants as fault
use Rattle.script.specs.declared.refusal.Why.{Why}
use Rattle.script.specs.declared.refusal.Why.TheVariants.{Form, Range, Cut, More}
use Rattle.engine.specs.declared.status.Status.{Status}
use Rattle.engine.specs.declared.status.Status.TheVariants.{Done, Usage, BadScript, TooLong, OutOfMemory, HostSize, ReadFault, WriteFault, GaveUp, Refused}

-- the exit status of the program
abbrev pub code_of : Status → ℕ
code_of Done = 0
code_of Usage = 1
code_of (BadScript line why) = 2
code_of TooLong = 2
code_of OutOfMemory = 3
code_of (HostSize kept asked) = 4
code_of ReadFault = 5
code_of WriteFault = 6
code_of GaveUp = 7
code_of (Refused line why) = 8

-- the word of a cause
abbrev pub why_text : Why → List ℕ
why_text Form = codes ": form\n"
why_text Range = codes ": range\n"
why_text Cut = codes ": cut\n"
why_text More = codes ": more\n"

-- what is wrong with a line of a transcript
abbrev pub fault_text : Fault → List ℕ
fault_text fault.Form = codes "form\n"
fault_text fault.Legal = codes "legal\n"
fault_text fault.Complete = codes "complete\n"

-- what the program says of it on standard error
abbrev pub status_text : Status → List ℕ
status_text Done = []
status_text Usage = codes "usage\n"
status_text (BadScript line why) = codes "bad script line " ++ decimal line ++ why_text why
status_text TooLong = codes "too long\n"
status_text OutOfMemory = codes "out of memory\n"
status_text (HostSize kept asked) = codes "host size: kept " ++ decimal kept ++ codes " asked " ++ decimal asked ++ codes "\n"
status_text ReadFault = codes "read fault\n"
status_text WriteFault = codes "write fault\n"
status_text GaveUp = codes "gave up\n"
status_text (Refused line why) = codes "refused line " ++ decimal line ++ codes ": " ++ fault_text why
