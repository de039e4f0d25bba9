-- The office is named by its parts.
use Rattle.office_example.proofs.main.Given as goal

abbrev pub ghosts-keep_office-N-OfficeName : goal.ghosts-keep_office-N-OfficeName
ghosts-keep_office-N-OfficeName g a = record { book = a.parts.book; limits = a.parts.limits }

abbrev pub ghosts-keep_office-N-Ledger : goal.ghosts-keep_office-N-Ledger
ghosts-keep_office-N-Ledger g a = record { name = a.parts.ledger; parts = a.parts.desks }
