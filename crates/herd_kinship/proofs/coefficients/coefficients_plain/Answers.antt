-- `coefficients_plain`: what `write_all` and `from_list` require and its result.
use Rattle.std.proofs.Common.{◌≡◌, ℕ, ◌++◌, List, length, take, drop, replicate, arith, sym, subst}
use Rattle.std.proofs.lemmas.List.{get_or-replicate, length-replicate}
use Rattle.herd_lineage.specs.declared.TheConstants.{DEPTH_LIMIT, MOST_ANIMALS}
use Rattle.herd_kinship.specs.Coefficients.{AreCoefficients, IsBefore, KnowsReached}
use Rattle.herd_kinship.proofs.lemmas.sires.BySires.{coefficients-below_one, reached-all, reached-start}
use Rattle.herd_kinship.proofs.lemmas.Lists.{take-written}
use Rattle.herd_kinship.proofs.coefficients.coefficients_plain.Given.{Over}
use Rattle.herd_kinship.proofs.coefficients.coefficients_plain.Goals.{In_ok-write_all}
use Rattle.herd_kinship.proofs.coefficients.coefficients_plain.Goals as goal

pub write_all-requires : goal.write_all-requires
write_all-requires g c =
    let rows = c.args.lineage.now in
    let all = c.len.ensures.value in
    let items = c.in_ok-known.ensures.items_if_clones_equal (λ y e. e) in
    rw (c.deref_mut.ensures.value, items, all)
    (reached-start DEPTH_LIMIT MOST_ANIMALS rows c.len.ensures.lineage (IsBefore 0) (λ s low. omega (arith, low)) (replicate (length rows) 0) (length-replicate (length rows) 0) (λ x lx. get_or-replicate (length rows) x 0 0 lx))

-- all coefficients are known
all_known : (g : Over) (c : In_ok-write_all g) →
    AreCoefficients DEPTH_LIMIT c.args.lineage.now (take c.in_ok-known.known.len (c.write_all.new.known ++ drop (length c.write_all.new.known) c.in_ok-known.known.items))
all_known g c =
    let rows = c.args.lineage.now in
    let known : List ℕ = c.write_all.new.known in
    let reached : KnowsReached DEPTH_LIMIT rows (IsBefore (length rows)) known = c.in_ok-write_all.ensures.known in
    let each : length known ≡ length rows = reached.each in
    let ok = c.in_ok-known.known.ok in
    let len = c.in_ok-known.ensures.len in
    let all = c.len.ensures.value in
    subst (λ xs. AreCoefficients DEPTH_LIMIT rows xs) (sym (take-written c.in_ok-known.known.len known c.in_ok-known.known.items (omega arith)))
    (reached-all DEPTH_LIMIT MOST_ANIMALS rows c.len.ensures.lineage (IsBefore (length rows)) (λ s low. low) known reached)

pub from_list-requires : goal.from_list-requires
from_list-requires g c =
    coefficients-below_one DEPTH_LIMIT MOST_ANIMALS c.args.lineage.now c.len.ensures.lineage _ (all_known g (goal.at.from_list-requires g c).In_ok-write_all)

pub returns : goal.returns
returns g c = rw c.from_list.ensures (all_known g (goal.at.returns g c).In_ok-write_all)
