-- `keys_of_births`: its loop and its result.
use Rattle.std.proofs.Common.{rules, ap, ◌∙◌, arith, ◌≡◌, ◌≤◌, Some, length, map, slice_get}
use Rattle.std.specs.Map.{keys_of}
use Rattle.std.proofs.lemmas.List.{take_all}
use Rattle.herd_frozen.specs.freezing.AgeOrder.{key_of}
use Rattle.herd_frozen.proofs.lemmas.ListFacts.{slice_get-item}
use Rattle.herd_frozen.proofs.lemmas.freezing.AgeSortFacts.{keys_more, place_within}
use Rattle.herd_frozen.proofs.freezing.age_order.keys_of_births.Goals as goal

pub kept_at-requires : goal.kept_at-requires
kept_at-requires g c =
    let births = c.args.births.now in
    let place = c.loop-born.born-index in
    place_within (g.S.Registered.book c.args.records.now) births c.requires place c.born-item.result (slice_get-item births place c.born-item.result c.loop-born-test.true c.born-item.is)

pub loop-born-preserved : goal.loop-born-preserved
loop-born-preserved g c =
    let births = c.args.births.now in
    let place = c.loop-born.born-index in
    let at : slice_get births place ≡ Some c.born-item.result = slice_get-item births place c.born-item.result c.loop-born-test.true c.born-item.is in
    record {
      keys = keys_more (g.S.Registered.book c.args.records.now) births place c.born-item.result c.kept_at.result c.loop-born.keys.items c.push_reserved.new.self.items at c.kept_at.ensures c.loop-born.invariant.keys c.push_reserved.ensures.items;
      count = search rules;
      room = search rules;
    }

pub returns : goal.returns
returns g c =
    let births = c.args.births.now in
    let past : length births ≤ c.loop-born.born-index = let b = c.loop-born-test.false in omega arith in
    c.loop-born.invariant.keys ∙ ap (λ bs. map (key_of (keys_of (g.S.Registered.book c.args.records.now))) bs) (take_all c.loop-born.born-index births past)
