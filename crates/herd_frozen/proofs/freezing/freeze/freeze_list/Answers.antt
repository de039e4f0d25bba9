-- `freeze_list`: what `frozen_from` requires.
use Rattle.herd_frozen.proofs.freezing.freeze.freeze_list.Goals as goal

pub frozen_from-requires-clause-parents : goal.frozen_from-requires-clause-parents
frozen_from-requires-clause-parents g c = record { lawful = c.requires; finds = c.in_ok-places.ensures }
