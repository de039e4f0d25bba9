-- The report of a file's lineage is that of the file.
use Rattle.std.proofs.Common.{refl}
use Rattle.std.proofs.lemmas.Option.{IfSome_then}
use Rattle.std.proofs.lemmas.Result.{IfErr-weaker, on_ok_weaker}
use Rattle.herd_text.proofs.lemmas.Exits.{if_err}
use Rattle.herd_pedigree_report.proofs.lemmas.ReportFacts.{answer_can_end, answer_ends}
use Rattle.herd_pedigree_report.proofs.report.answer_pedigree.Goals as goal

pub returns-in_err-lineage-clause-err : goal.returns-in_err-lineage-clause-err
returns-in_err-lineage-clause-err g c =
    if_err c.from_residual.result _ _ c.from_residual.ensures.1
    (IfSome_then (g.R.Read.remaining c.args.reader) c.in_err-lineage.ensures.fault (λ bytes told. (told, refl)))

pub returns-clause-ok : goal.returns-clause-ok
returns-clause-ok g c =
    on_ok_weaker c.write_report.result
    (λ reported. IfSome_then (g.R.Read.remaining c.args.reader) c.in_ok-lineage.ensures.lineage
    (λ bytes read. record { lineage = c.in_ok-lineage.lineage; read = read; reported = reported }))
    c.write_report.ensures.ok

pub returns-clause-err : goal.returns-clause-err
returns-clause-err g c =
    IfErr-weaker c.write_report.result _ _
    (λ fault ends. IfSome_then (g.R.Read.remaining c.args.reader) c.in_ok-lineage.ensures.lineage
    (λ bytes read. answer_ends c.args.most c.args.order.now bytes c.in_ok-lineage.lineage _ _ fault read ends))
    c.write_report.ensures.err

pub returns-clause-fault : goal.returns-clause-fault
returns-clause-fault g c = answer_can_end c.args.order.now c.in_ok-lineage.lineage _ _ c.write_report.result c.write_report.ensures.err
