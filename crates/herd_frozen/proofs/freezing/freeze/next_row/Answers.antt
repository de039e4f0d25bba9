-- `next_row`: what its calls require, that the depth fits, and its clauses `row` and `next`.
use Rattle.std.proofs.Common.{arith, ◌≡◌, ◌<◌, Some, length, slice_get}
use Rattle.std.specs.Option.{option_and_then}
use Rattle.herd_frozen.specs.declared.TheConstants.{DEPTH_LIMIT, MOST_ANIMALS}
use Rattle.herd_frozen.specs.freezing.Frozen.{depth_at}
use Rattle.herd_frozen.specs.rules.Depths.{depth_from}
use Rattle.herd_frozen.proofs.lemmas.rules.DepthsFacts.{depth_from-read}
use Rattle.herd_frozen.proofs.lemmas.freezing.NextRowFacts.{IsNext, depth_next-le, key-read, next, next-of, place-within, row-next}
use Rattle.herd_frozen.proofs.lemmas.freezing.AgeOrderFacts.{length-keys}
use Rattle.herd_frozen.proofs.freezing.freeze.next_row.Given.{Over}
use Rattle.herd_frozen.proofs.freezing.freeze.next_row.Goals.{After-depth_of_calf-depth, After-index-keys-len, After-link_at-link}
use Rattle.herd_frozen.proofs.freezing.freeze.next_row.Goals as goal

-- the key whose turn it is
at : (g : Over) (c : After-index-keys-len g) → slice_get c.args.keys.now (length c.args.rows.now) ≡ Some c.index-keys-len.result
at g c = key-read c.args.keys.now c.args.rows.now c.requires.more c.len.result c.len.ensures c.index-keys-len.result c.index-keys-len.is

-- what is known of its record
known : (g : Over) (c : After-link_at-link g) →
    IsNext (g.S.Registered.book c.args.records.now) c.args.keys.now c.args.ranks.now c.args.rows.now c.index-keys-len.result c.kept_at-kept.result c.link_at-link.result
known g c =
    next DEPTH_LIMIT MOST_ANIMALS _ _ _ c.args.rows.now c.requires.ranked c.requires.rows c.index-keys-len.result
    (key-read c.args.keys.now c.args.rows.now c.requires.more c.len.result c.len.ensures c.index-keys-len.result c.index-keys-len.is)
    c.kept_at-kept.result c.link_at-link.result c.kept_at-kept.ensures c.link_at-link.ensures

-- its depth
depth : (g : Over) (c : After-depth_of_calf-depth g) →
    c.depth_of_calf-depth.result ≡ depth_from (depth_at c.args.rows.now) (option_and_then (slice_get c.args.ranks.now) c.link_at-link.result.sire) (option_and_then (slice_get c.args.ranks.now) c.link_at-link.result.dam)
depth g c =
    rw (c.depth_of_calf-depth.ensures.depth, c.depth_of.ensures, c.depth_of-2.ensures, c.rank_of-sire.ensures, c.rank_of-dam.ensures) (depth_from-read (depth_at c.args.rows.now) _ _)

pub kept_at-kept-requires : goal.kept_at-kept-requires
kept_at-kept-requires g c =
    place-within _ _ _ _ _ c.args.rows.now c.requires.ranked c.requires.rows c.index-keys-len.result (at g (goal.at.kept_at-kept-requires g c).After-index-keys-len)

pub link_at-link-requires-clause-within : goal.link_at-link-requires-clause-within
link_at-link-requires-clause-within g c =
    place-within _ _ _ _ _ c.args.rows.now c.requires.ranked c.requires.rows c.index-keys-len.result (at g (goal.at.link_at-link-requires-clause-within g c).After-index-keys-len)

pub rank_of-sire-requires : goal.rank_of-sire-requires
rank_of-sire-requires g c = (known g (goal.at.rank_of-sire-requires g c).After-link_at-link).sire.within

pub rank_of-dam-requires : goal.rank_of-dam-requires
rank_of-dam-requires g c = (known g (goal.at.rank_of-dam-requires g c).After-link_at-link).dam.within

pub depth_of-requires : goal.depth_of-requires
depth_of-requires g c = rw c.rank_of-sire.ensures (known g (goal.at.depth_of-requires g c).After-link_at-link).sire.earlier

pub depth_of-requires-2 : goal.depth_of-requires-2
depth_of-requires-2 g c = rw c.rank_of-dam.ensures (known g (goal.at.depth_of-requires-2 g c).After-link_at-link).dam.earlier

pub overflow_cast-parents : goal.overflow_cast-parents
overflow_cast-parents g c =
    let here = goal.at.overflow_cast-parents g c in
    let is = depth g here.After-depth_of_calf-depth in
    let le = depth_next-le _ _ _ _ _ c.args.rows.now c.requires.ranked c.requires.rows c.index-keys-len.result (at g here.After-index-keys-len) _ _ (known g here.After-link_at-link) in
    omega (arith, is, le)

pub returns-clause-row : goal.returns-clause-row
returns-clause-row g c =
    let here = goal.at.returns-clause-row g c in
    let key = at g here.After-index-keys-len in
    rw key (row-next _ _ _ _ _ c.args.rows.now c.requires.ranked c.requires.rows c.index-keys-len.result key c.kept_at-kept.result c.link_at-link.result
    (known g here.After-link_at-link) c.requires.more _ c.rank_of-sire.ensures c.rank_of-dam.ensures (depth g here.After-depth_of_calf-depth))

pub returns-clause-next : goal.returns-clause-next
returns-clause-next g c =
    let here = goal.at.returns-clause-next g c in
    let is = depth g here.After-depth_of_calf-depth in
    let le = depth_next-le _ _ _ _ _ c.args.rows.now c.requires.ranked c.requires.rows c.index-keys-len.result (at g here.After-index-keys-len) _ _ (known g here.After-link_at-link) in
    let keys = length-keys (g.S.Registered.book c.args.records.now) c.args.keys.now c.requires.ranked.ordered in
    let few = c.requires.ranked.lawful.few in
    let more = c.requires.more in
    let fits : c.depth_of_calf-depth.result < 256 = omega (arith, is, le) in
    let depth_is = is in
    let sire_is = c.rank_of-sire.ensures in
    let dam_is = c.rank_of-dam.ensures in
    next-of DEPTH_LIMIT MOST_ANIMALS c.args.rows.now _ (omega (arith, keys, few, more))
    (rw c.rank_of-sire.ensures (known g here.After-link_at-link).sire.earlier)
    (rw c.rank_of-dam.ensures (known g here.After-link_at-link).dam.earlier)
    (rw (sire_is, dam_is) is) (omega (arith, is, le))
