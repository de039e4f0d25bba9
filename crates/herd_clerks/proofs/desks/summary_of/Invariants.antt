-- The office's name is that of its parts.
use Rattle.herd_clerks.proofs.desks.summary_of.Given as goal

abbrev pub ghosts-filed_in-N-OfficeName : goal.ghosts-filed_in-N-OfficeName
ghosts-filed_in-N-OfficeName g a = record { book = a.parts.book; limits = a.parts.limits }

abbrev pub ghosts-filed_in-N-Ledger : goal.ghosts-filed_in-N-Ledger
ghosts-filed_in-N-Ledger g a = record { name = a.parts.ledger; parts = a.parts.desks }
