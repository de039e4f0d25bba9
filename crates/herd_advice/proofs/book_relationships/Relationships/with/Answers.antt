-- `Relationships::with`: it is that of the lineage's animal.
use Rattle.std.proofs.Common.{◌<◌, ◌∙◌, length, subst, sym}
use Rattle.herd_advice.specs.BookRelationships.{RankInBook}
use Rattle.herd_advice.proofs.book_relationships.Relationships.with.Goals as goal

pub with-requires : goal.with-requires
with-requires g c =
    rw c.self.invariant.1.each
    (subst (λ (its : RankInBook). c.args.rank < length its.rows) (sym c.self.view_is) c.requires)

pub returns-clause-value : goal.returns-clause-value
returns-clause-value g c =
    let within : c.args.rank < length c.self.inside.frozen.now =
    subst (λ (its : RankInBook). c.args.rank < length its.rows) (sym c.self.view_is) c.requires in
    rw (← c.self.view_is) (c.with.ensures.value ∙ c.self.invariant.1.right c.args.rank within)
