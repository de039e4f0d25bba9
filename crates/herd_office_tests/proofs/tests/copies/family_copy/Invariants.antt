use Rattle.std.proofs.Common.{◌≡◌}
use Rattle.herd_register.specs.Copybook.{copy_of}
use Rattle.herd_office_tests.proofs.tests.copies.family_copy.Given as goal

-- the copy is that of the register
abbrev pub invariant-loop-command : goal.invariant-loop-command
invariant-loop-command l = l.copybook ≡ copy_of l.register.limits l.register.journal
