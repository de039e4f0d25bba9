-- `frozen_from`: what `ranks_of` and `from_rows` require and its result.
use Rattle.std.proofs.Common.{subst, sym, List}
use Rattle.std.proofs.lemmas.Result.{IfOk-weaker}
use Rattle.herd_frozen.specs.declared.freezing.age_order.AgeKey.{AgeKey}
use Rattle.herd_frozen.specs.declared.freezing.frozen.Row.{Row}
use Rattle.herd_frozen.specs.freezing.Freeze.{IsAgeOrder}
use Rattle.herd_frozen.specs.freezing.Frozen.{IsFrozenFrom}
use Rattle.herd_frozen.specs.declared.TheConstants.{DEPTH_LIMIT, MOST_ANIMALS}
use Rattle.herd_frozen.proofs.lemmas.freezing.AgeOrderFacts.{length-keys, places-all}
use Rattle.herd_frozen.proofs.lemmas.freezing.FreezeFacts.{frozen-from}
use Rattle.herd_frozen.proofs.freezing.freeze.frozen_from.Goals as goal

pub ranks_of-requires-clause-few : goal.ranks_of-requires-clause-few
ranks_of-requires-clause-few g c =
    rw (c.deref.ensures.value, length-keys (g.S.Registered.book c.args.records.now) c.in_ok-keys.keys.items c.in_ok-keys.ensures) c.requires.lawful.few

pub ranks_of-requires-clause-places : goal.ranks_of-requires-clause-places
ranks_of-requires-clause-places g c =
    rw c.deref.ensures.value (places-all (g.S.Registered.book c.args.records.now) c.in_ok-keys.keys.items c.in_ok-keys.ensures)

pub from_rows-requires : goal.from_rows-requires
from_rows-requires g c =
    let order = subst (λ (keys : List AgeKey). IsAgeOrder (g.S.Registered.book c.args.records.now) keys) (sym c.deref-2.ensures.value) c.in_ok-keys.ensures in
    (frozen-from (g.S.Registered.book c.args.records.now) c.deref-2.result.now c.in_ok-rows.rows order c.in_ok-rows.ensures.long c.in_ok-rows.ensures.rows DEPTH_LIMIT MOST_ANIMALS c.requires.lawful).frozen

pub returns : goal.returns
returns g c =
    let order = subst (λ (keys : List AgeKey). IsAgeOrder (g.S.Registered.book c.args.records.now) keys) (sym c.deref-2.ensures.value) c.in_ok-keys.ensures in
    let is : IsFrozenFrom DEPTH_LIMIT MOST_ANIMALS (g.S.Registered.book c.args.records.now) c.in_ok-rows.rows =
    frozen-from (g.S.Registered.book c.args.records.now) c.deref-2.result.now c.in_ok-rows.rows order c.in_ok-rows.ensures.long c.in_ok-rows.ensures.rows DEPTH_LIMIT MOST_ANIMALS c.requires.lawful in
    IfOk-weaker c.from_rows.result _ _ (λ frozen same. subst (λ (rows : List Row). IsFrozenFrom DEPTH_LIMIT MOST_ANIMALS (g.S.Registered.book c.args.records.now) rows) (sym same) is) c.from_rows.ensures
