-- `mark_ancestors`: what `mark_parents` requires and its result.
use Rattle.std.proofs.Common.{◌≡◌, ℕ, ◌++◌, Bool, false, Contains, ⊎_elim, List, drop, length, replicate, take, arith, sym, subst, ap, ◌∙◌}
use Rattle.herd_kinship.proofs.lemmas.Lists.{take-written}
use Rattle.herd_pruned.specs.Marked.{IsMarked, MarksAncestors}
use Rattle.herd_pruned.proofs.lemmas.MarkedFacts.{marks-of, none_marked}
use Rattle.herd_pruned.proofs.marked.mark_ancestors.Goals as goal

pub returns : goal.returns
returns g c =
    let rows = c.args.lineage.now in
    let items : List Bool = c.in_ok-marks.marks.items in
    let n : ℕ = c.in_ok-marks.marks.len in
    let ok = c.in_ok-marks.marks.ok in
    let one : List Bool = c.mark_animals.new.marks in
    let all : List Bool = c.mark_parents.new.marks in
    let none : c.deref_mut.result.now ≡ replicate c.len.result false = c.deref_mut.ensures.value ∙ c.in_ok-marks.ensures.items_if_clones_equal (λ y e. e) in
    let each : length one ≡ n = c.mark_animals.ensures.each ∙ ap length c.deref_mut.ensures.value ∙ (omega arith) in
    let first : c.deref_mut-2.result.now ≡ one = c.deref_mut-2.ensures.value ∙ take-written n one items (sym each) in
    let marked : MarksAncestors rows (IsMarked one) all = subst (λ xs. MarksAncestors rows (IsMarked xs) all) first c.mark_parents.ensures in
    let written : length all ≡ n = marked.each ∙ (let a = c.mark_parents.ensures.each in let b = c.len.ensures.value in let d = ap length first in omega (arith, a, b, d, each)) in
    subst (λ xs. MarksAncestors rows (Contains c.args.animals.now) xs) (sym (take-written n all (take n (one ++ drop (length one) items)) (sym written)))
    (marks-of rows (IsMarked one) (Contains c.args.animals.now) all
    (λ rank is. ⊎_elim (λ old. absurd (none_marked c.len.result rank (subst (λ xs. IsMarked xs rank) none old))) (λ a. a) (c.mark_animals.ensures.others rank is))
    (λ rank a. c.mark_animals.ensures.animals rank a) marked)
