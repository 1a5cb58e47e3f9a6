use Rattle.std.specs.Prelude.{ℕ, Bool, true, false, Option, Some, None, if◌then◌else◌, ◌==◌}
use Rattle.nvm_values.specs.declared.op.Op.{Op}
use Rattle.nvm_values.specs.declared.op.Op.TheVariants.{Flush, Write, Read, Compare, WriteZeroes, Verify}

-- The command of an opcode. (NVM Command Set, figure of the I/O command opcodes; Flush: Base 2.1.)
abbrev pub op_of : ℕ → Option Op
op_of opcode =
    if opcode == 0x00 then Some Flush else (if opcode == 0x01 then Some Write else (if opcode == 0x02 then Some Read else (
    if opcode == 0x05 then Some Compare else (if opcode == 0x08 then Some WriteZeroes else (if opcode == 0x0c then Some Verify else None)))))

-- the opcode of a command
abbrev pub opcode_of : Op → ℕ
opcode_of Flush = 0x00
opcode_of Write = 0x01
opcode_of Read = 0x02
opcode_of Compare = 0x05
opcode_of WriteZeroes = 0x08
opcode_of Verify = 0x0c

-- Write, Read and Compare move data between the namespace and the guest's pages
abbrev pub moves_data : Op → Bool
moves_data Write = true
moves_data Read = true
moves_data Compare = true
moves_data Flush = false
moves_data WriteZeroes = false
moves_data Verify = false
