-- `Relationships::number`: the number at a rank.
use Rattle.std.proofs.Common.{[], sym}
use Rattle.std.proofs.lemmas.Option.{get_or_from_slice_get}
use Rattle.herd_frozen.specs.freezing.Frozen.{numbers_of}
use Rattle.herd_advice.proofs.book_relationships.Relationships.number.Goals as goal

pub returns : goal.returns
returns g c =
    rw (← c.self.view_is)
    (sym
    (get_or_from_slice_get (numbers_of c.self.inside.frozen.now) c.self.inside.rank c.number.result []
    c.number.ensures.number))
