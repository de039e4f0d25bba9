use Rattle.herd_office_tests.proofs.tests.readings.an_inspector_sees_what_it_was_not_told.Given as goal

abbrev pub ghosts-see_and_outlive-N-OfficeName : goal.ghosts-see_and_outlive-N-OfficeName
ghosts-see_and_outlive-N-OfficeName g a = record { book = a.parts.book; limits = a.parts.limits }

abbrev pub ghosts-see_and_outlive-N-Ledger : goal.ghosts-see_and_outlive-N-Ledger
ghosts-see_and_outlive-N-Ledger g a = record { name = a.parts.ledger; parts = a.parts.desks }
