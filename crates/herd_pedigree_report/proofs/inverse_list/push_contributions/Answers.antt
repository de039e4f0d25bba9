-- The elements that are listed are the first of those that the call gives.
use Rattle.std.proofs.Common.{refl}
use Rattle.std.proofs.lemmas.Result.{IfOk-equal}
use Rattle.herd_pedigree_report.proofs.lemmas.ListFacts.{length-contributions-le, listed_part}
use Rattle.herd_pedigree_report.proofs.inverse_list.push_contributions.Goals as goal

pub shared_ref_as_front-elements : goal.shared_ref_as_front-elements
shared_ref_as_front-elements g c = rw c.contributions-listed.ensures.count (length-contributions-le c.args.lineage.now c.args.rank)

pub returns : goal.returns
returns g c =
    let listed = c.contributions-listed in
    let part = listed_part c.args.lineage.now c.args.rank listed.result listed.ensures.count listed.ensures.list in
    IfOk-equal c.push_elements.result _ _ _ c.push_elements.ensures (rw part refl)
