-- A session's name is that of its office's parts, its input and its writer.
use Rattle.herd_requests.specs.Requests.{records_in}
use Rattle.herd_session.proofs.running.run_with.Given as goal

abbrev pub ghosts-run_under_name-N-OfficeName : goal.ghosts-run_under_name-N-OfficeName
ghosts-run_under_name-N-OfficeName g a = record { book = a.given.parts.book; limits = a.given.parts.limits }

abbrev pub ghosts-run_under_name-N-Ledger : goal.ghosts-run_under_name-N-Ledger
ghosts-run_under_name-N-Ledger g a = record { name = a.given.parts.ledger; parts = a.given.parts.desks }

abbrev pub ghosts-run_under_name-N-SessionName : goal.ghosts-run_under_name-N-SessionName
ghosts-run_under_name-N-SessionName g a =
    record { records = records_in (g.I.Read.remaining a.given.reader); before = g.W.Write.contents a.writer }
