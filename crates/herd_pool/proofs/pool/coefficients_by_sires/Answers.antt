-- `coefficients_by_sires`: what `write_calves_of` and `from_list` require, its loop, and its clauses `list` and `no_thread`.
use Rattle.std.proofs.Common.{rules, ℕ, ◌+◌, ◌<◌, List, Vec, length, replicate, arith, ◌∙◌, ap, subst, sym}
use Rattle.std.specs.List.{All}
use Rattle.std.proofs.lemmas.List.{get_or-replicate, length-replicate}
use Rattle.std.proofs.lemmas.List.Elements.{All-nil}
use Rattle.herd_lineage.specs.declared.TheConstants.{DEPTH_LIMIT, MOST_ANIMALS}
use Rattle.herd_kinship.specs.CalfCoefficients.{AreWritten, HaveValues}
use Rattle.herd_kinship.specs.Mates.{IsReady}
use Rattle.herd_kinship.specs.Coefficients.{AreCoefficients, IsLessDeep, coefficient_at}
use Rattle.herd_kinship.specs.declared.calves.CalfCoefficient.{CalfCoefficient}
use Rattle.herd_kinship.proofs.lemmas.sires.BySires.{coefficients-below_one, less_deep-all, reached-start}
use Rattle.herd_pool.specs.Blocks.{once_below}
use Rattle.herd_pool.specs.Sires.{KnowsCalvesBelow, worth_of}
use Rattle.herd_pool.specs.declared.work.ComputedBlock.{ComputedBlock}
use Rattle.herd_pool.proofs.SireFacts.{blocks_values, blocks_within, calves_known}
use Rattle.herd_pool.proofs.Writes.{level_written}
use Rattle.herd_pool.proofs.pool.coefficients_by_sires.Goals as goal

pub loop-depth-init : goal.loop-depth-init
loop-depth-init g c =
    let rows = c.args.lineage.now in
    let all = c.len.ensures.value in
    let items = c.in_ok-known.ensures.items_if_clones_equal (λ y e. e) in
    record {
      known = record {
        linked = c.in_ok-calves.ensures;
        reached = rw (items, all)
            (reached-start DEPTH_LIMIT MOST_ANIMALS rows c.len.ensures.lineage (IsLessDeep rows 0) (λ s low. omega (arith, low)) (replicate (length rows) 0) (length-replicate (length rows) 0) (λ x lx. get_or-replicate (length rows) x 0 0 lx));
      };
      idle = subst (All (IsReady rows)) (sym c.new-idle.ensures.items) (All-nil (IsReady rows));
    }

pub write_calves_of-requires : goal.write_calves_of-requires
write_calves_of-requires g c =
    let within = blocks_within DEPTH_LIMIT c.args.lineage.now c.loop-depth.depth c.args.block c.in_ok-blocks.blocks.items c.in_ok-blocks.ensures.blocks.computed in
    subst (λ (bs : List (ComputedBlock (Vec CalfCoefficient _))). All (λ block. All (λ calf. calf.rank < length c.deref_mut.result.now) block.output.items) bs) (sym c.deref-in-loop-depth.ensures.value)
    (λ k d low j e below. let there = within k d low j e below in let each = c.loop-depth.invariant.known.reached.each in omega (arith, ap length c.deref_mut.ensures.value))

pub loop-depth-preserved : goal.loop-depth-preserved
loop-depth-preserved g c =
    let rows = c.args.lineage.now in
    let f = coefficient_at DEPTH_LIMIT rows in
    let depth = c.loop-depth.depth in
    let new = c.write_calves_of.new.known in
    let blocks = c.in_ok-blocks.blocks.items in
    let are = c.in_ok-blocks.ensures.blocks in
    let values = blocks_values DEPTH_LIMIT rows depth c.args.block blocks are.computed in
    let wrote = c.write_calves_of.ensures f (subst (λ (bs : List (ComputedBlock (Vec CalfCoefficient _))). All (λ block. HaveValues f block.output.items) bs) (sym c.deref-in-loop-depth.ensures.value) values) in
    let there = subst (λ (bs : List (ComputedBlock (Vec CalfCoefficient _))). All (λ block. AreWritten f new block.output.items) bs) c.deref-in-loop-depth.ensures.value wrote.1 in
    record {
      known = level_written (λ (xs : List ℕ). KnowsCalvesBelow DEPTH_LIMIT rows c.in_ok-calves.calves xs (depth + 1)) f c.loop-depth.known _ new c.deref_mut.ensures.value c.write_calves_of.auto.known wrote.0
          (λ same kept. calves_known DEPTH_LIMIT rows c.in_ok-calves.calves c.loop-depth.known.items new depth c.args.block blocks (omega arith) same c.loop-depth.invariant.known (λ number. are.each_once number ∙ ap (once_below number) c.blocks-count.ensures) are.computed kept there);
      idle = c.in_ok-blocks.ensures.idle;
    }

pub from_list-requires : goal.from_list-requires
from_list-requires g c =
    let rows = c.args.lineage.now in
    coefficients-below_one DEPTH_LIMIT MOST_ANIMALS rows c.len.ensures.lineage _
    (less_deep-all DEPTH_LIMIT MOST_ANIMALS rows c.len.ensures.lineage c.loop-depth.depth c.loop-depth.known.items c.loop-depth-test.false c.loop-depth.invariant.known.reached)

pub returns-clause-list : goal.returns-clause-list
returns-clause-list g c =
    let rows = c.args.lineage.now in
    subst (AreCoefficients DEPTH_LIMIT rows) (sym c.from_list.ensures)
    (less_deep-all DEPTH_LIMIT MOST_ANIMALS rows c.len.ensures.lineage c.loop-depth.depth c.loop-depth.known.items c.loop-depth-test.false c.loop-depth.invariant.known.reached)

pub returns-in_err-blocks-clause-no_thread : goal.returns-in_err-blocks-clause-no_thread
returns-in_err-blocks-clause-no_thread g c = λ is.
    let depth = c.loop-depth.depth in
    let worth = c.worth-worth.ensures ∙ ap (λ (n : ℕ). worth_of c.args.lineage.now depth c.args.block n c.args.workers) c.blocks-count.ensures in
    (depth, subst (λ (n : ℕ). 1 < n) worth (c.in_err-blocks.ensures.no_thread (search rules)))
