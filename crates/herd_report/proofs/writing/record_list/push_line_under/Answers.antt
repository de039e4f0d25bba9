-- The line at the rank of a number is that of the number, and isn't empty; a number that isn't there has none.
use Rattle.std.proofs.Common.{ℕ, ◌<◌, List, length, subst}
use Rattle.herd_frozen.specs.freezing.Frozen.{book_of}
use Rattle.herd_text.proofs.lemmas.Exits.{on_err}
use Rattle.herd_report.proofs.lemmas.writing.RecordFacts.{line_at_rank, no_line, some_record_line}
use Rattle.herd_report.proofs.writing.record_list.push_line_under.Goals as goal

pub returns-in-Some-clause-made : goal.returns-in-Some-clause-made
returns-in-Some-clause-made g c =
    let line = line_at_rank c.args.frozen.now c.row.ensures.frozen c.in-Some.rank c.row.result c.args.number c.row.ensures.row c.in-Some.ensures.rank in
    rw line at c.push_record_line.ensures

pub returns-in-Some-clause-some : goal.returns-in-Some-clause-some
returns-in-Some-clause-some g c =
    let line = line_at_rank c.args.frozen.now c.row.ensures.frozen c.in-Some.rank c.row.result c.args.number c.row.ensures.row c.in-Some.ensures.rank in
    on_err c.push_record_line.result (subst (λ (text : List ℕ). 0 < length text) line (some_record_line c.args.number c.row.result.animal))

pub returns-in-None-clause-made : goal.returns-in-None-clause-made
returns-in-None-clause-made g c = no_line (book_of c.args.frozen.now) c.args.number c.args.text.now c.in-None.ensures.absent
