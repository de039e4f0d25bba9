-- The office is named by its parts.
use Rattle.office_timing.proofs.crowded.Given as goal

abbrev pub ghosts-file_crowded-N-OfficeName : goal.ghosts-file_crowded-N-OfficeName
ghosts-file_crowded-N-OfficeName g a = record { book = a.parts.book; limits = a.parts.limits }

abbrev pub ghosts-file_crowded-N-Ledger : goal.ghosts-file_crowded-N-Ledger
ghosts-file_crowded-N-Ledger g a = record { name = a.parts.ledger; parts = a.parts.desks }
