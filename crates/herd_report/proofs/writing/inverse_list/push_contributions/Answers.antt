-- The elements that are listed are the first of those that the call gives.
use Rattle.std.proofs.Common.{All, refl, subst, sym}
use Rattle.std.proofs.lemmas.Result.{IfOk-equal}
use Rattle.herd_report.proofs.lemmas.writing.CertificateFacts.{number_at_rank}
use Rattle.herd_report.proofs.lemmas.writing.ContributionFacts.{contributions_within, length-contributions-le, listed_part}
use Rattle.herd_report.specs.writing.InverseList.{IsWithin}
use Rattle.herd_report.proofs.writing.inverse_list.push_contributions.Goals as goal

pub shared_ref_as_front-elements : goal.shared_ref_as_front-elements
shared_ref_as_front-elements g c = rw c.contributions-listed.ensures.count (length-contributions-le c.args.frozen.now c.args.rank)

pub push_elements-requires : goal.push_elements-requires
push_elements-requires g c =
    let rows = c.args.frozen.now in
    let listed = c.contributions-listed in
    subst (All (IsWithin rows)) (sym (listed_part rows c.args.rank listed.result listed.ensures.count listed.ensures.list))
    (contributions_within rows c.number-number.ensures.frozen c.args.rank c.requires.rank)

pub returns : goal.returns
returns g c =
    let rows = c.args.frozen.now in
    let listed = c.contributions-listed in
    let own = number_at_rank rows c.args.rank c.number-number.result c.number-number.ensures.number in
    let part = listed_part rows c.args.rank listed.result listed.ensures.count listed.ensures.list in
    IfOk-equal c.push_elements.result _ _ _ c.push_elements.ensures (rw (own, part) refl)
