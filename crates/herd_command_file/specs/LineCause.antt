-- The causes of line faults.
use Rattle.std.specs.Prelude.{ℕ, Bool, true, false, List, codes}
use Rattle.herd_command_file.specs.declared.line_fault.LineCause.{LineCause}
use Rattle.csv_records.specs.declared.interruption.Interruption.{Interruption}
use Rattle.csv_records.specs.declared.interruption.Interruption.TheVariants as interruption
use Rattle.herd_command_file.specs.declared.line_fault.LineCause.TheVariants.{Header, Fields, Kind, Animal, Day, Sire, Dam, FromHerd, ToHerd, FieldNotUsed, Read, TooMany, Memory, Embryo}

-- the number that the program prints
abbrev pub cause_number : LineCause → ℕ
cause_number Header = 1
cause_number Fields = 2
cause_number Kind = 3
cause_number Animal = 4
cause_number Day = 5
cause_number Sire = 6
cause_number Dam = 7
cause_number FromHerd = 8
cause_number ToHerd = 9
cause_number FieldNotUsed = 10
cause_number Read = 11
cause_number TooMany = 12
cause_number Memory = 13
cause_number Embryo = 14

-- the name that the program prints
abbrev pub cause_name : LineCause → List ℕ
cause_name Header = codes "Header"
cause_name Fields = codes "Fields"
cause_name Kind = codes "Kind"
cause_name Animal = codes "Animal"
cause_name Day = codes "Day"
cause_name Sire = codes "Sire"
cause_name Dam = codes "Dam"
cause_name FromHerd = codes "FromHerd"
cause_name ToHerd = codes "ToHerd"
cause_name FieldNotUsed = codes "FieldNotUsed"
cause_name Read = codes "Read"
cause_name TooMany = codes "TooMany"
cause_name Memory = codes "Memory"
cause_name Embryo = codes "Embryo"

-- a cause that the bytes don't show: the reader failed, or memory ran out
abbrev pub is_interruption : LineCause → Bool
is_interruption Header = false
is_interruption Fields = false
is_interruption Kind = false
is_interruption Animal = false
is_interruption Day = false
is_interruption Sire = false
is_interruption Dam = false
is_interruption FromHerd = false
is_interruption ToHerd = false
is_interruption FieldNotUsed = false
is_interruption Read = true
is_interruption TooMany = false
is_interruption Memory = true
is_interruption Embryo = false

-- the cause that an interruption is
abbrev pub interrupted : Interruption → LineCause
interrupted interruption.Read = Read
interrupted interruption.Memory = Memory
