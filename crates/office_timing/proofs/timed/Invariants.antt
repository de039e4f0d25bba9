-- The office is named by its parts.
use Rattle.office_timing.proofs.timed.Given as goal

abbrev pub ghosts-file_beside-N-OfficeName : goal.ghosts-file_beside-N-OfficeName
ghosts-file_beside-N-OfficeName g a = record { book = a.parts.book; limits = a.parts.limits }

abbrev pub ghosts-file_beside-N-Ledger : goal.ghosts-file_beside-N-Ledger
ghosts-file_beside-N-Ledger g a = record { name = a.parts.ledger; parts = a.parts.desks }
