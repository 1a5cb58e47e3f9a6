use Rattle.std.specs.Prelude.{ℕ}

-- A status is its type and its code. (Base 2.1, status field; media errors: NVM Command Set.)
abbrev pub StatusPair : Type 0
StatusPair = ℕ × ℕ

-- Successful Completion
abbrev pub success : StatusPair
success = (0, 0x00)

-- Invalid Command Opcode
abbrev pub invalid_opcode : StatusPair
invalid_opcode = (0, 0x01)

-- Invalid Field in Command
abbrev pub invalid_field : StatusPair
invalid_field = (0, 0x02)

-- Command ID Conflict
abbrev pub id_conflict : StatusPair
id_conflict = (0, 0x03)

-- Invalid Namespace or Format
abbrev pub invalid_namespace : StatusPair
invalid_namespace = (0, 0x0b)

-- LBA Out of Range
abbrev pub out_of_range : StatusPair
out_of_range = (0, 0x80)

-- Write Fault
abbrev pub write_fault : StatusPair
write_fault = (2, 0x80)

-- Unrecovered Read Error
abbrev pub read_error : StatusPair
read_error = (2, 0x81)

-- Compare Failure
abbrev pub compare_failure : StatusPair
compare_failure = (2, 0x85)
