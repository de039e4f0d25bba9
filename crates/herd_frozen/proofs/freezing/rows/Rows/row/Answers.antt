-- `Rows::row`: what `kept` requires and its result.
use Rattle.std.proofs.Common.{sym, ap, ◌∙◌, subst, ◌≡◌, List, Some, map, slice_get}
use Rattle.std.proofs.lemmas.Option.{slice_get_read}
use Rattle.herd_frozen.specs.declared.freezing.frozen.Row.{Row}
use Rattle.herd_frozen.specs.freezing.Frozen.{numbers_of, parents_of}
use Rattle.herd_frozen.specs.places.Places.{number_at}
use Rattle.herd_frozen.proofs.lemmas.freezing.RowsFacts.{rank-within, row-told}
use Rattle.herd_frozen.proofs.freezing.rows.Rows.row.Goals as goal

pub index-kept-requires : goal.index-kept-requires
index-kept-requires g c = (rank-within c.self.inside c.self.invariant c.self.view_is c.args.rank c.requires).0

pub returns : goal.returns
returns g c =
    let rs = c.self.inside.records.items in
    let ps = c.self.inside.lineage in
    let here = rank-within c.self.inside c.self.invariant c.self.view_is c.args.rank c.requires in
    let kept = c.index-kept.result.now in
    let parents = c.parents-parents.result in
    let at = slice_get_read rs c.self.inside.records.len c.args.rank kept c.self.inside.records.ok.0 here.0 c.index-kept.ensures in
    let told = subst (λ (rows : List Row). slice_get (map parents_of rows) c.args.rank ≡ Some parents) (sym c.self.view_is) c.parents-parents.ensures in
    let sire = subst (λ (rows : List Row). c.number_at.result ≡ number_at (numbers_of rows) parents.sire) (sym c.self.view_is) c.number_at.ensures in
    let dam = subst (λ (rows : List Row). c.number_at-2.result ≡ number_at (numbers_of rows) parents.dam) (sym c.self.view_is) c.number_at-2.ensures in
    ap (λ (rows : List Row). slice_get rows c.args.rank) (sym c.self.view_is) ∙ row-told rs ps c.self.invariant c.args.rank kept at parents told c.number_at.result c.number_at-2.result sire dam
