-- `span_of`: its loop and its result.
use Rattle.std.proofs.Common.{ℕ, ◌<◌, ◌≤◌, ◌≡◌, ◌∙◌, ⊎_elim, arith, sym, subst}
use Rattle.std.proofs.lemmas.Bool.{cases_lt}
use Rattle.herd_kinship.specs.Ancestry.{IsParentIn}
use Rattle.herd_kinship.specs.Ranks.{ranked}
use Rattle.herd_kinship.proofs.lemmas.lineages.ParentsFacts.{parents-dam, parents-sire}
use Rattle.herd_pruned.proofs.window.span_of.Goals as goal

pub loop-rank-preserved : goal.loop-rank-preserved
loop-rank-preserved g c =
    let rows = c.args.lineage.now in
    let x : ℕ = c.loop-rank.rank in
    let first = c.reach-span.ensures.wider in
    let second = c.reach-span-in-loop-rank.ensures.wider in
    let more = c.loop-rank.invariant.some in
    record {
      some = omega (arith, first, second, more);
      parents = λ rank parent low is.
          ⊎_elim
          (λ (before : rank < x). let within = c.loop-rank.invariant.parents rank parent before is in omega (arith, within, first, second))
          (λ (last : x ≤ rank).
          let same : rank ≡ x = omega (arith, low, last) in
          let here : IsParentIn (ranked rows) parent x = subst (λ (r : ℕ). IsParentIn (ranked rows) parent r) same is in
          ⊎_elim
          (λ s. let within = c.reach-span.ensures.within parent (sym (parents-sire rows x c.parents-parents.result c.parents-parents.ensures.parents) ∙ s) in omega (arith, within, same, second))
          (λ d. let within = c.reach-span-in-loop-rank.ensures.within parent (sym (parents-dam rows x c.parents-parents.result c.parents-parents.ensures.parents) ∙ d) in omega (arith, within, same))
          here)
          (cases_lt rank x);
    }

pub returns-clause-parents : goal.returns-clause-parents
returns-clause-parents g c = λ rank parent low is.
    let end = c.loop-rank-test.false in
    let all = c.len-rank-end.ensures.value in
    c.loop-rank.invariant.parents rank parent (omega (arith, end, all, low)) is
