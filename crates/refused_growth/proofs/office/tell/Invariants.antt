use Rattle.refused_growth.proofs.office.tell.Given as goal

abbrev pub ghosts-tell_opened-N-OfficeName : goal.ghosts-tell_opened-N-OfficeName
ghosts-tell_opened-N-OfficeName g a = record { book = a.parts.book; limits = a.parts.limits }

abbrev pub ghosts-tell_opened-N-Ledger : goal.ghosts-tell_opened-N-Ledger
ghosts-tell_opened-N-Ledger g a = record { name = a.parts.ledger; parts = a.parts.desks }
