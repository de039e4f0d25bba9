-- `by_age`: what `sort_each_day` requires, and the result.
use Rattle.std.proofs.Common.{List, ◌≡◌, ◌++◌, ◌∙◌, ap, drop, length, map, sym, subst, take}
use Rattle.std.specs.Prelude.{IsPermutation}
use Rattle.std.specs.List.{enumerate_from}
use Rattle.std.specs.List.Sorted.{IsSortedBy}
use Rattle.std.specs.Map.{keys_of}
use Rattle.std.specs.Ordering.{int_cmp, is_lt}
use Rattle.std.proofs.lemmas.List.{take_at}
use Rattle.std.proofs.lemmas.List.Sorted.{IsPermutation-trans, length_permutation}
use Rattle.herd_frozen.specs.declared.freezing.age_order.AgeKey.{AgeKey}
use Rattle.herd_frozen.specs.freezing.AgeOrder.{key_of}
use Rattle.herd_frozen.specs.freezing.Freeze.{IsAgeOrder, age_key}
use Rattle.herd_frozen.proofs.lemmas.freezing.AgeSortFacts.{keys-by_day}
use Rattle.herd_frozen.proofs.freezing.age_order.by_age.Goals as goal

pub sort_each_day-requires : goal.sort_each_day-requires
sort_each_day-requires g c =
    let numbers = keys_of (g.S.Registered.book c.args.records.now) in
    let births = c.in_ok-births.births.items in
    let is : c.deref_mut.result.now ≡ map (key_of numbers) births = c.deref_mut.ensures.value ∙ c.in_ok-keys.ensures ∙ ap (λ bs. map (key_of numbers) bs) c.deref.ensures.value in
    subst (IsSortedBy (λ (x y : AgeKey). is_lt (int_cmp x.birth y.birth))) (sym is) (keys-by_day numbers births c.in_ok-births.ensures.sorted)

pub returns : goal.returns
returns g c =
    let book = g.S.Registered.book c.args.records.now in
    let births = c.in_ok-births.births.items in
    let key = key_of (keys_of book) in
    let old = c.deref_mut.result.now in
    let new = c.sort_each_day.new.keys in
    let keys = c.in_ok-keys.keys in
    let is : old ≡ map key births = c.deref_mut.ensures.value ∙ c.in_ok-keys.ensures ∙ ap (λ bs. map key bs) c.deref.ensures.value in
    let before : IsPermutation (map age_key (enumerate_from 0 book)) old = subst (IsPermutation (map age_key (enumerate_from 0 book))) (sym is) c.in_ok-births.ensures.same in
    let long : length new ≡ keys.len = length_permutation old new c.sort_each_day.ensures.same ∙ ap (λ (ks : List AgeKey). length ks) c.deref_mut.ensures.value ∙ sym keys.ok.0 in
    let whole : take keys.len (new ++ drop (length new) keys.items) ≡ new = take_at new (drop (length new) keys.items) keys.len long in
    subst (IsAgeOrder book) (sym whole) (record {
      same = IsPermutation-trans (map age_key (enumerate_from 0 book)) old new before c.sort_each_day.ensures.same;
      sorted = c.sort_each_day.ensures.sorted;
    })
