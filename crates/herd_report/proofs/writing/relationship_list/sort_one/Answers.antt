-- `sort_one`: a number that is there is listed, and has no line.
use Rattle.herd_frozen.specs.freezing.Frozen.{book_of}
use Rattle.herd_report.proofs.lemmas.writing.CertificateFacts.{number_is_there}
use Rattle.herd_report.proofs.lemmas.writing.RelationshipFacts.{absent_line-there, asked_more}
use Rattle.herd_report.proofs.writing.relationship_list.sort_one.Goals as goal

pub returns-in_ok-push-in-Some-clause-text : goal.returns-in_ok-push-in-Some-clause-text
returns-in_ok-push-in-Some-clause-text g c =
    absent_line-there (book_of c.args.frozen.now) c.args.number c.args.text.now (number_is_there c.args.frozen.now c.in-Some.rank c.args.number c.in-Some.ensures.rank)

pub returns-in_ok-push-in-Some-clause-asked : goal.returns-in_ok-push-in-Some-clause-asked
returns-in_ok-push-in-Some-clause-asked g c = λ numbers are.
    rw c.in_ok-push-in-Some.ensures.items
    (asked_more c.args.frozen.now numbers c.args.asked.now.items (record { number = c.args.number; rank = c.in-Some.rank }) c.in-Some.ensures.rank are)
