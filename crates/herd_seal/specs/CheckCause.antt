-- The names of what is wrong with a certificate.
use Rattle.std.specs.Prelude.{ℕ, List, codes}
use Rattle.herd_seal.specs.declared.check_fault.CheckCause.{CheckCause}
use Rattle.herd_seal.specs.declared.check_fault.CheckCause.TheVariants.{Read, TooMany, Memory, Header, Row, Digests, Order, ParentLacks, ParentNumber, TooDeep, Number, Seal, Coefficient}
use Rattle.herd_seal.specs.declared.check_fault.CheckFault.{CheckFault}

-- the name that is printed
abbrev pub cause_name : CheckCause → List ℕ
cause_name Read = codes "Read"
cause_name TooMany = codes "TooMany"
cause_name Memory = codes "Memory"
cause_name Header = codes "Header"
cause_name Row = codes "Row"
cause_name Digests = codes "Digests"
cause_name Order = codes "Order"
cause_name ParentLacks = codes "ParentLacks"
cause_name ParentNumber = codes "ParentNumber"
cause_name TooDeep = codes "TooDeep"
cause_name Number = codes "Number"
cause_name Seal = codes "Seal"
cause_name Coefficient = codes "Coefficient"

-- there is no memory
abbrev pub no_memory : CheckFault
no_memory = record { cause = Memory; line = 0 }
