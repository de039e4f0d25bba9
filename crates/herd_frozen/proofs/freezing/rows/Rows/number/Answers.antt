-- `Rows::number`: what `index` requires and its result.
use Rattle.std.proofs.Common.{subst, ◌≡◌, List, Some, slice_get}
use Rattle.std.proofs.lemmas.Option.{slice_get_read}
use Rattle.herd_frozen.specs.declared.freezing.frozen.Row.{Row}
use Rattle.herd_frozen.specs.freezing.Frozen.{numbers_of}
use Rattle.herd_frozen.proofs.lemmas.freezing.RowsFacts.{number-told, rank-within}
use Rattle.herd_frozen.proofs.freezing.rows.Rows.number.Goals as goal

pub index-requires : goal.index-requires
index-requires g c = (rank-within c.self.inside c.self.invariant c.self.view_is c.args.rank c.requires).0

pub returns : goal.returns
returns g c =
    let rs = c.self.inside.records.items in
    let ps = c.self.inside.lineage in
    let here = rank-within c.self.inside c.self.invariant c.self.view_is c.args.rank c.requires in
    let at = slice_get_read rs c.self.inside.records.len c.args.rank c.index.result.now c.self.inside.records.ok.0 here.0 c.index.ensures in
    subst (λ (rows : List Row). slice_get (numbers_of rows) c.args.rank ≡ Some c.index.result.now.number) c.self.view_is (number-told rs ps c.self.invariant c.args.rank c.index.result.now at)
