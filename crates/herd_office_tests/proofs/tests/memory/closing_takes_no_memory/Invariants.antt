use Rattle.herd_office_tests.proofs.tests.memory.closing_takes_no_memory.Given as goal

abbrev pub ghosts-fill_and_close-N-OfficeName : goal.ghosts-fill_and_close-N-OfficeName
ghosts-fill_and_close-N-OfficeName g a = record { book = a.parts.book; limits = a.parts.limits }

abbrev pub ghosts-fill_and_close-N-Ledger : goal.ghosts-fill_and_close-N-Ledger
ghosts-fill_and_close-N-Ledger g a = record { name = a.parts.ledger; parts = a.parts.desks }
