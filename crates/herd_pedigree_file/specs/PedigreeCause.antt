-- The causes of faults of a pedigree file.
use Rattle.std.specs.Prelude.{ℕ, Bool, true, false, List, codes}
use Rattle.csv_records.specs.declared.interruption.Interruption.{Interruption}
use Rattle.csv_records.specs.declared.interruption.Interruption.TheVariants as interruption
use Rattle.herd_lineage.specs.declared.lineage_fault.LineageFault.{LineageFault}
use Rattle.herd_lineage.specs.declared.lineage_fault.LineageFault.TheVariants as lineage
use Rattle.herd_pedigree_file.specs.declared.pedigree_fault.PedigreeCause.{PedigreeCause}
use Rattle.herd_pedigree_file.specs.declared.pedigree_fault.PedigreeCause.TheVariants.{Header, Read, Memory, TooMany, Fields, Sire, Dam, TooDeep}

-- the number that the program prints
abbrev pub cause_number : PedigreeCause → ℕ
cause_number Header = 1
cause_number Read = 2
cause_number Memory = 3
cause_number TooMany = 4
cause_number Fields = 5
cause_number Sire = 6
cause_number Dam = 7
cause_number TooDeep = 8

-- the name that the program prints
abbrev pub cause_name : PedigreeCause → List ℕ
cause_name Header = codes "Header"
cause_name Read = codes "Read"
cause_name Memory = codes "Memory"
cause_name TooMany = codes "TooMany"
cause_name Fields = codes "Fields"
cause_name Sire = codes "Sire"
cause_name Dam = codes "Dam"
cause_name TooDeep = codes "TooDeep"

-- a cause that the bytes don't show: the reader failed, or memory ran out
abbrev pub is_interruption : PedigreeCause → Bool
is_interruption Header = false
is_interruption Read = true
is_interruption Memory = true
is_interruption TooMany = false
is_interruption Fields = false
is_interruption Sire = false
is_interruption Dam = false
is_interruption TooDeep = false

-- the cause that a lineage's fault is
abbrev pub cause_of : LineageFault → PedigreeCause
cause_of lineage.Full = TooMany
cause_of lineage.Sire = Sire
cause_of lineage.Dam = Dam
cause_of lineage.TooDeep = TooDeep
cause_of lineage.Memory = Memory

-- the cause that an interruption is
abbrev pub interrupted : Interruption → PedigreeCause
interrupted interruption.Read = Read
interrupted interruption.Memory = Memory
