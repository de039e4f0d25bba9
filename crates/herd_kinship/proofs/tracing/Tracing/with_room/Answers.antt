-- `Tracing::with_room`: its result.
use Rattle.std.proofs.Common.{List, ℕ, sym, subst}
use Rattle.herd_kinship.specs.Tracing.{AreIdle}
use Rattle.herd_kinship.proofs.lemmas.tracing.UnderWayFacts.{idle-start}
use Rattle.herd_kinship.proofs.tracing.Tracing.with_room.Goals as goal

pub returns : goal.returns
returns g c =
    let chunks = c.in_ok-pending.pending.chunks.items in
    let P : List ℕ → Type 0 = λ items. AreIdle c.args.animals items chunks in
    subst P (sym (c.in_ok-shares.ensures.items_if_clones_equal (λ y e. e)))
    (idle-start c.args.animals chunks c.in_ok-pending.ensures.room c.in_ok-pending.ensures.empty)
