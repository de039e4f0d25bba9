-- `count`: what `enter_as` requires.
use Rattle.herd_office.proofs.Sides.{sees}
use Rattle.herd_office.proofs.inspector.count.Goals as goal

pub enter_as-requires : goal.enter_as-requires
enter_as-requires c x = sees _ _ x
