-- `ancestor`: its loop and its result.
use Rattle.std.proofs.Common.{◌∙◌, ◌+◌, ap, drop, get_or, subst, sym, Some}
use Rattle.std.proofs.lemmas.List.{drop_more, drop_all}
use Rattle.herd_report.proofs.lemmas.writing.AncestorFacts.{LeadsFrom, leads_on, leads_nowhere}
use Rattle.herd_report.proofs.lemmas.writing.CertificateFacts.{number_at_rank}
use Rattle.herd_report.specs.declared.writing.ancestors.Parent.TheVariants.{Sire}
use Rattle.herd_report.proofs.writing.ancestors.ancestor.Goals as goal

pub returns-in_err-rank : goal.returns-in_err-rank
returns-in_err-rank g c =
    let path = c.args.path.now in
    let i = c.loop-parent.parent-index in
    let leads = subst (LeadsFrom c.args.frozen.now c.args.start path c.loop-parent.rank) (drop_more path i Sire c.loop-parent-test.true) c.loop-parent.invariant in
    c.from_residual.ensures
    ∙ sym (leads_nowhere (get_or path i Sire) (drop (i + 1) path) c.parents.result c.parents.ensures.frozen leads c.parents.ensures.parents (sym c.rank_in.ensures ∙ c.in_err-rank.was))

pub loop-parent-preserved : goal.loop-parent-preserved
loop-parent-preserved g c =
    let path = c.args.path.now in
    let i = c.loop-parent.parent-index in
    let leads = subst (LeadsFrom c.args.frozen.now c.args.start path c.loop-parent.rank) (drop_more path i Sire c.loop-parent-test.true) c.loop-parent.invariant in
    leads_on (get_or path i Sire) (drop (i + 1) path) c.parents.result c.in_ok-rank.rank c.parents.ensures.frozen leads c.parents.ensures.parents (sym c.rank_in.ensures ∙ c.in_ok-rank.was)

pub returns : goal.returns
returns g c =
    let rows = c.args.frozen.now in
    let leads = subst (LeadsFrom rows c.args.start c.args.path.now c.loop-parent.rank) (drop_all c.loop-parent.parent-index c.args.path.now c.loop-parent-test.false) c.loop-parent.invariant in
    ap Some (sym (number_at_rank rows c.loop-parent.rank c.number.result c.number.ensures.number)) ∙ sym leads.same
