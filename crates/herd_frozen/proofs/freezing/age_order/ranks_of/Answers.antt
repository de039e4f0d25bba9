-- `ranks_of`: what `index_mut` requires, its loop, and its result.
use Rattle.std.proofs.Common.{refl, ◌∙◌, arith, ◌≡◌, ◌<◌, ◌≤◌, Some, length, slice_get}
use Rattle.std.proofs.lemmas.List.{length-set}
use Rattle.std.proofs.lemmas.Option.{slice_get_read}
use Rattle.herd_frozen.proofs.lemmas.freezing.RankFacts.{place-lt, ranks-more, ranks-all}
use Rattle.herd_frozen.proofs.freezing.age_order.ranks_of.Goals as goal

pub index_mut-requires : goal.index_mut-requires
index_mut-requires g c =
    let keys = c.args.keys.now in
    let key = c.index-keys-rank.result in
    let at : slice_get keys c.loop-rank.rank ≡ Some key = slice_get_read keys (length keys) c.loop-rank.rank key refl c.loop-rank-test.true c.index-keys-rank.is in
    let within : key.place < length keys = place-lt keys c.requires.places c.loop-rank.rank key at in
    let long = c.loop-rank.invariant.0 in
    let ok = c.loop-rank.ranks.ok.0 in
    omega arith

pub loop-rank-preserved : goal.loop-rank-preserved
loop-rank-preserved g c =
    let keys = c.args.keys.now in
    let key = c.index-keys-rank.result in
    let ranks = c.loop-rank.ranks.items in
    let at : slice_get keys c.loop-rank.rank ≡ Some key = slice_get_read keys (length keys) c.loop-rank.rank key refl c.loop-rank-test.true c.index-keys-rank.is in (
      length-set ranks key.place c.loop-rank.rank ∙ c.loop-rank.invariant.0,
      ranks-more keys c.requires.places c.loop-rank.rank key ranks at c.loop-rank.invariant.0 c.loop-rank.invariant.1,
    )

pub returns : goal.returns
returns g c =
    let past : length c.args.keys.now ≤ c.loop-rank.rank = let b = c.loop-rank-test.false in omega arith in
    ranks-all c.args.keys.now c.requires.places c.loop-rank.rank c.loop-rank.ranks.items past c.loop-rank.invariant.0 c.loop-rank.invariant.1
