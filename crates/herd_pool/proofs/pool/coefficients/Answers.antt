-- `coefficients`: its loop, what `from_list` requires, and its clauses `list` and `no_thread`.
use Rattle.std.proofs.Common.{rules, ℕ, ◌+◌, ◌<◌, List, length, min, arith, ◌∙◌, ap, subst, sym}
use Rattle.std.specs.List.{All}
use Rattle.herd_lineage.specs.Lineage.{level_of}
use Rattle.herd_lineage.specs.declared.TheConstants.{DEPTH_LIMIT, MOST_ANIMALS}
use Rattle.herd_kinship.specs.Coefficients.{AreCoefficients, coefficient_at}
use Rattle.herd_pool.specs.Blocks.{once_below}
use Rattle.herd_pool.specs.Levels.{KnowsBelow}
use Rattle.herd_pool.proofs.LevelFacts.{longer_than_block}
use Rattle.herd_pool.proofs.Writes.{HasBlock, all_known, known_below_one, level_known, level_written}
use Rattle.herd_pool.proofs.pool.coefficients.Goals as goal

pub loop-depth-preserved : goal.loop-depth-preserved
loop-depth-preserved g c =
    let rows = c.args.lineage.now in
    let f = coefficient_at DEPTH_LIMIT rows in
    let depth = c.loop-depth.depth in
    let new = c.write_traced.new.known in
    let blocks = c.in_ok-blocks.blocks.items in
    let are = c.in_ok-blocks.ensures.blocks in
    let wrote = subst (All (HasBlock f c.args.block (level_of depth rows) new)) c.deref-in-loop-depth.ensures.value c.write_traced.ensures.written in
    level_written (λ (xs : List ℕ). KnowsBelow DEPTH_LIMIT MOST_ANIMALS rows xs (depth + 1)) f c.loop-depth.known _ new c.deref_mut.ensures.value c.write_traced.auto.known c.write_traced.ensures.kept
    (λ same kept. level_known DEPTH_LIMIT MOST_ANIMALS rows c.loop-depth.known.items new depth c.args.block blocks (omega arith) same c.loop-depth.invariant (λ number. are.each_once number ∙ ap (once_below number) c.blocks-count.ensures) kept wrote)

pub from_list-requires : goal.from_list-requires
from_list-requires g c =
    let rows = c.args.lineage.now in
    known_below_one DEPTH_LIMIT MOST_ANIMALS rows _ c.len.ensures.lineage
    (all_known DEPTH_LIMIT MOST_ANIMALS rows c.loop-depth.known.items c.loop-depth.depth c.loop-depth-test.false c.loop-depth.invariant)

pub returns-clause-list : goal.returns-clause-list
returns-clause-list g c =
    let rows = c.args.lineage.now in
    subst (AreCoefficients DEPTH_LIMIT rows) (sym c.from_list.ensures)
    (all_known DEPTH_LIMIT MOST_ANIMALS rows c.loop-depth.known.items c.loop-depth.depth c.loop-depth-test.false c.loop-depth.invariant)

pub returns-in_err-blocks-clause-no_thread : goal.returns-in_err-blocks-clause-no_thread
returns-in_err-blocks-clause-no_thread g c = λ is.
    let level = level_of c.loop-depth.depth c.args.lineage.now in
    let count = c.blocks-count.ensures in
    let more : 1 < min c.args.workers c.blocks-count.result = omega (arith, c.in_err-blocks.ensures.no_thread (search rules)) in
    (omega arith, (c.loop-depth.depth, longer_than_block (length level) c.args.block c.requires.block (omega arith)))
