-- Nothing was filed at desks that are fresh.
use Rattle.std.proofs.lemmas.Option.{slice_get-get_or}
use Rattle.std.specs.Prelude.{slice_index_or}
use Rattle.herd_session.proofs.running.work_in.Goals as goal

pub start_desks-requires-after_bounds : goal.start_desks-requires-after_bounds
start_desks-requires-after_bounds g c κs within =
    let desks = c.args.staff.desks.items in
    λ place desk there.
    let fresh = c.requires.fresh place (slice_index_or desks place desk) (slice_get-get_or desks place desk there) in
    (fresh.1, fresh.2)
