-- `Pending::with_room`: each chunk is 0, and there are enough.
use Rattle.std.proofs.Common.{◌≡◌, ℕ, List, arith, subst, sym}
use Rattle.herd_kinship.specs.Pending.{mark}
use Rattle.herd_kinship.proofs.lemmas.numbers.PendingFacts.{none-marked}
use Rattle.herd_kinship.proofs.pending.Pending.with_room.Goals as goal

pub returns-clause-empty : goal.returns-clause-empty
returns-clause-empty g c = λ distance.
    subst (λ (chunks : List ℕ). mark chunks distance ≡ 0) (sym (c.in_ok-chunks.ensures.items_if_clones_equal (λ y e. e)))
    (none-marked c.div_ceil.result distance)

pub returns-clause-room : goal.returns-clause-room
returns-clause-room g c =
    let long = c.in_ok-chunks.ensures.len in let ok = c.in_ok-chunks.chunks.ok in let up = c.div_ceil.ensures in grind arith
