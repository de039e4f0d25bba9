-- `sort_each_day`: its loop and its clause `sorted`.
use Rattle.herd_frozen.proofs.lemmas.freezing.DayFacts.{by_day-more}
use Rattle.herd_frozen.proofs.freezing.age_order.sort_each_day.Goals as goal

pub loop-from-preserved : goal.loop-from-preserved
loop-from-preserved c =
    by_day-more c.args.keys.now c.loop-from.keys c.sort_unstable.new.self c.loop-from.from c.day_end-end.result c.loop-from.invariant c.day_end-end.ensures c.sort_unstable.ensures.permutation c.requires c.sort_unstable.ensures.sorted
