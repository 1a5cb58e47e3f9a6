use Rattle.std.specs.Prelude.{◌≢◌, ℕ, ◌*◌, List, ◌++◌, codes, decimal}
use Rattle.file_medium.specs.declared.fault.OpenFault.{OpenFault}
use Rattle.file_medium.specs.declared.fault.OpenFault.TheVariants.{Failed, WrongLength, OutOfMemory}

-- the exit status of a program that ends with the fault
abbrev pub code_of : OpenFault → ℕ
code_of Failed = 9
code_of (WrongLength got) = 9
code_of OutOfMemory = 3

-- what it says of it
abbrev pub fault_text : OpenFault → List ℕ
fault_text Failed = codes "host not opened\n"
fault_text (WrongLength got) = codes "host length: got " ++ decimal got ++ codes "\n"
fault_text OutOfMemory = codes "out of memory\n"

-- A length that is told isn't that of so many blocks.
abbrev pub IsFaultOf : ℕ → OpenFault → Type 0
IsFaultOf blocks (WrongLength got) = got ≢ blocks * 512
IsFaultOf blocks Failed = Unit {0}
IsFaultOf blocks OutOfMemory = Unit {0}
