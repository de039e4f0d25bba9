-- `births_by_day`: its loop and its result.
use Rattle.std.proofs.Common.{rules, ap, ◌∙◌, subst, arith, ◌≡◌, ◌≤◌, length, map}
use Rattle.std.specs.Prelude.{IsPermutation}
use Rattle.std.specs.List.{enumerate_from}
use Rattle.std.specs.Map.{keys_of}
use Rattle.std.proofs.lemmas.List.{take_all}
use Rattle.std.proofs.lemmas.List.FromFn.{length-enumerate_from}
use Rattle.std.proofs.lemmas.List.Sorted.{IsPermutation-map, answers_always}
use Rattle.herd_frozen.specs.declared.freezing.age_order.Born.{Born}
use Rattle.herd_frozen.specs.freezing.AgeOrder.{key_of}
use Rattle.herd_frozen.specs.freezing.Freeze.{age_key}
use Rattle.herd_frozen.proofs.lemmas.freezing.AgeSortFacts.{born_more}
use Rattle.herd_frozen.proofs.freezing.age_order.births_by_day.Goals as goal

pub loop-place-preserved : goal.loop-place-preserved
loop-place-preserved g c =
    let book = g.S.Registered.book c.args.records.now in
    record {
      keys = born_more book c.loop-place.place c.kept_at.result c.loop-place.births.items c.push_reserved.new.self.items c.loop-place.invariant.keys c.kept_at.ensures c.push_reserved.ensures.items;
      count = search rules;
      room = search rules;
    }

pub returns : goal.returns
returns g c =
    let book = g.S.Registered.book c.args.records.now in
    let key = key_of (keys_of book) in
    let n = length-enumerate_from 0 book in
    let b = c.loop-place-test.false in
    let all = c.count-count.ensures in
    let long : length (enumerate_from 0 book) ≤ c.loop-place.place = omega (arith, n, b, all) in
    let before : map key c.loop-place.births.items ≡ map age_key (enumerate_from 0 book) = c.loop-place.invariant.keys ∙ ap (λ l. map age_key l) (take_all c.loop-place.place (enumerate_from 0 book) long) in
    let births = c.sort_unstable_by_key.new.self.items in
    record {
      same = subst (λ keys. IsPermutation keys (map key births)) before (IsPermutation-map key c.loop-place.births.items births c.sort_unstable_by_key.ensures.permutation);
      sorted = c.sort_unstable_by_key.ensures.sorted (λ (b : Born). b.birth) (answers_always _ _ _ (λ f a r h k. search rules));
    }
