-- `pass_to`: what `with_parent` requires, that nothing overflows, and its result.
use Rattle.std.proofs.Common.{arith}
use Rattle.herd_kinship.proofs.columns.pass_to.Goals as goal

pub with_parent-requires : goal.with_parent-requires
with_parent-requires c = c.requires.sire

pub with_parent-requires-2 : goal.with_parent-requires-2
with_parent-requires-2 c = c.requires.dam

pub overflow_add-both : goal.overflow_add-both
overflow_add-both c = let both = c.requires.both in rw (c.with_parent.ensures, c.with_parent-2.ensures) (omega (arith, both))

pub overflow_add-column : goal.overflow_add-column
overflow_add-column c = let sum = c.requires.sum in rw (c.with_parent.ensures, c.with_parent-2.ensures) (omega (arith, sum))
