-- `Rows::with_capacity`: its result.
use Rattle.herd_frozen.specs.freezing.Rows.{rows_kept, rows_with}
use Rattle.herd_frozen.proofs.freezing.rows.Rows.with_capacity.Goals as goal

pub returns : goal.returns
unfolding rows_with
returns g c = λ i. rows_kept (c.in_ok-with_capacity.ensures.items i) (c.in_ok-with_capacity-2.ensures i)
