-- `is_frozen`: what `freeze_hinted` requires.
use Rattle.herd_office_tests.proofs.tests.copies.is_frozen.Goals as goal

pub freeze_hinted-requires : goal.freeze_hinted-requires
freeze_hinted-requires c = c.records.ensures.lawful c.requires.commands c.requires.book
