-- A count for each desk so far.
use Rattle.std.proofs.Common.{◌≡◌, map, take}
use Rattle.herd_clerks.specs.Summary.{count_of}
use Rattle.herd_clerks.proofs.desks.counts_of.Given as goal

abbrev pub invariant-loop-desk : goal.invariant-loop-desk
invariant-loop-desk g l = l.counts.items ≡ map (λ d. count_of d.number d.answered) (take l.desk-index l.desks)
