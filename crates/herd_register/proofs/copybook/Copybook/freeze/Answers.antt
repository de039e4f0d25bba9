-- `Copybook::freeze`: what `freeze_hinted` requires.
use Rattle.herd_register.proofs.copybook.Copybook.freeze.Goals as goal

pub freeze_hinted-requires : goal.freeze_hinted-requires
freeze_hinted-requires g c = c.records.ensures.lawful c.requires.commands c.requires.book
