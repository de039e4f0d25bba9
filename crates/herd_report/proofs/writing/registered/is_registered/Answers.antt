-- The number at a rank is in the book.
use Rattle.std.proofs.Common.{sym}
use Rattle.herd_report.proofs.lemmas.writing.CertificateFacts.{number_is_there}
use Rattle.herd_report.proofs.writing.registered.is_registered.Goals as goal

pub returns-in-Some : goal.returns-in-Some
returns-in-Some g c = sym (number_is_there c.args.frozen.now c.in-Some.field-0 c.args.number.now c.in-Some.ensures.rank)
