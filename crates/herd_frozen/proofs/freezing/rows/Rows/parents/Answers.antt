-- `Rows::parents`: what it requires and its result.
use Rattle.std.proofs.Common.{subst, ◌≡◌, List, Some, slice_get}
use Rattle.herd_lineage.specs.declared.lineage.Parents.{Parents}
use Rattle.herd_frozen.proofs.lemmas.freezing.RowsFacts.{lineage-told, rank-within}
use Rattle.herd_frozen.proofs.freezing.rows.Rows.parents.Goals as goal

pub parents-requires : goal.parents-requires
parents-requires g c = (rank-within c.self.inside c.self.invariant c.self.view_is c.args.rank c.requires).1

pub returns : goal.returns
returns g c =
    let rs = c.self.inside.records.items in
    let same = lineage-told rs c.self.inside.lineage c.self.invariant c.self.view_is in
    subst (λ (l : List Parents). slice_get l c.args.rank ≡ Some c.parents.result) same c.parents.ensures.parents
