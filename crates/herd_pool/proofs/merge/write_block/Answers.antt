-- `write_block`: its loop and its result.
use Rattle.std.proofs.Common.{rules, arith, ap, length}
use Rattle.std.proofs.lemmas.List.{length-map, length_push}
use Rattle.std.proofs.lemmas.Slice.Zip.{zip_turn, zip_end}
use Rattle.herd_pool.proofs.Writes.{rank_written}
use Rattle.herd_pool.proofs.merge.write_block.Goals as goal

pub loop-rank-preserved : goal.loop-rank-preserved
loop-rank-preserved c =
    let t = zip_turn c.args.ranks.now c.args.numerators.now c.loop-rank.yielded c.into_iter-rank-iterator.result c.loop-rank.rank-iterator c.next.new.self c.next.result (search rules) (search rules) c.loop-rank.yielded_by _ c.in-Some.is c.next.ensures.steps in
    let within = c.requires (length c.loop-rank.yielded) 0 t.0 in
    λ f is. rank_written f c.args.known.now c.loop-rank.known c.args.ranks.now c.args.numerators.now (length c.loop-rank.yielded) _ c.in-Some.rank.now c.in-Some.numerator.now is (length_push c.loop-rank.yielded _) t.0 (t.2 0) (t.3 0) (omega (arith, t.2 0)) (c.loop-rank.invariant f is)

pub returns : goal.returns
returns c =
    let t = zip_end c.args.ranks.now c.args.numerators.now c.loop-rank.yielded c.into_iter-rank-iterator.result c.loop-rank.rank-iterator c.next.new.self c.next.result (search rules) (search rules) c.loop-rank.yielded_by c.in-None.is c.next.ensures.steps in
    λ f is.
    let was = c.loop-rank.invariant f is in
    (was.0, λ i below. was.1 i (omega (arith, ap length is, length-map c.args.ranks.now f)))
