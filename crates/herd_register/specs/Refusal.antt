-- The numbers of refusals, and the refusals that faults of parents are.
use Rattle.std.specs.Prelude.{ℕ}
use Rattle.herd_frozen.specs.declared.rules.parent_fault.ParentFault.{ParentFault}
use Rattle.herd_frozen.specs.declared.rules.parent_fault.ParentFault.TheVariants as parent
use Rattle.herd_register.specs.declared.reply.Refusal.{Refusal}
use Rattle.herd_register.specs.declared.reply.Refusal.TheVariants.{AlreadyThere, BookFull, SireMissing, DamMissing, SireNotMale, DamNotFemale, SireNotOlder, DamNotOlder, DamGone, TooDeep, NotRegistered, Gone, NotOwner, DayTooEarly, SameHerd, CalvedLater}

-- the number that replies print
abbrev pub refusal_number : Refusal → ℕ
refusal_number AlreadyThere = 1
refusal_number BookFull = 2
refusal_number SireMissing = 3
refusal_number DamMissing = 4
refusal_number SireNotMale = 5
refusal_number DamNotFemale = 6
refusal_number SireNotOlder = 7
refusal_number DamNotOlder = 8
refusal_number DamGone = 9
refusal_number TooDeep = 10
refusal_number NotRegistered = 11
refusal_number Gone = 12
refusal_number NotOwner = 13
refusal_number DayTooEarly = 14
refusal_number SameHerd = 15
refusal_number CalvedLater = 16

-- a fault of parents as a refusal
abbrev pub refusal_of : ParentFault → Refusal
refusal_of parent.SireMissing = SireMissing
refusal_of parent.DamMissing = DamMissing
refusal_of parent.SireNotMale = SireNotMale
refusal_of parent.DamNotFemale = DamNotFemale
refusal_of parent.SireNotOlder = SireNotOlder
refusal_of parent.DamNotOlder = DamNotOlder
refusal_of parent.DamGone = DamGone
refusal_of parent.TooDeep = TooDeep
