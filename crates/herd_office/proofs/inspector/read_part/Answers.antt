-- `read_part`: what `enter_as` requires.
use Rattle.herd_office.proofs.Sides.{sees}
use Rattle.herd_office.proofs.inspector.read_part.Goals as goal

pub enter_as-requires : goal.enter_as-requires
enter_as-requires g c x = sees _ _ x
