-- `Lineage::level`: its clause `level`.
use Rattle.std.proofs.Common.{refl, sym, ap, ◌∙◌, subst, ◌≡◌, ◌<◌, ◌≤◌, ℕ, List, [], Some, length, map, slice_get}
use Rattle.std.proofs.lemmas.Bool.{ltb-true, ltb-false}
use Rattle.std.proofs.lemmas.List.{length-map}
use Rattle.std.proofs.lemmas.Option.{slice_get_read, slice_get-map}
use Rattle.herd_lineage.specs.declared.lineage.Parents.{Parents}
use Rattle.herd_lineage.specs.Lineage.{level_of, parents_kept}
use Rattle.herd_lineage.specs.declared.TheConstants.{DEPTH_LIMIT, MOST_ANIMALS}
use Rattle.herd_lineage.proofs.lemmas.LevelReads.{level-at, level-beyond}
use Rattle.herd_lineage.proofs.lineage.Lineage.level.Goals as goal

pub returns-in-Some-clause-level : goal.returns-in-Some-clause-level
returns-in-Some-clause-level g c =
    let vectors = c.self.inside.levels.items in
    let rows : List Parents = map parents_kept c.self.inside.parents.items in
    let depth : ℕ = c.args.depth in
    let level = c.in-Some.level.now in
    let within : depth < length c.deref.result.now = ltb-true depth (length c.deref.result.now) (sym c.in-Some.ensures.lookup.0) in
    let read : slice_get vectors depth ≡ Some level =
    subst (λ vs. slice_get vs depth ≡ Some level) c.deref.ensures.value (slice_get_read c.deref.result.now (length c.deref.result.now) depth level refl within c.in-Some.ensures.lookup.1) in
    let at : slice_get (map (λ v. v.items) vectors) depth ≡ Some level.items = slice_get-map (λ v. v.items) vectors depth ∙ rw read refl in
    let is : level.items ≡ level_of depth rows = level-at DEPTH_LIMIT rows (map (λ v. v.items) vectors) c.self.invariant.1 depth level.items at in
    c.as_slice.ensures.value ∙ is ∙ ap (λ (l : List Parents). level_of depth l) c.self.view_is

pub returns-in-None-clause-level : goal.returns-in-None-clause-level
returns-in-None-clause-level g c =
    let vectors = c.self.inside.levels.items in
    let rows : List Parents = map parents_kept c.self.inside.parents.items in
    let depth : ℕ = c.args.depth in
    let past : length c.deref.result.now ≤ depth = ltb-false depth (length c.deref.result.now) (sym c.in-None.ensures.lookup.0) in
    let beyond : length (map (λ v. v.items) vectors) ≤ depth = rw length-map (subst (λ vs. length vs ≤ depth) c.deref.ensures.value past) in
    let none : level_of depth rows ≡ [] = level-beyond DEPTH_LIMIT MOST_ANIMALS rows (map (λ v. v.items) vectors) c.self.invariant.0 c.self.invariant.1 depth beyond in
    sym none ∙ ap (λ (l : List Parents). level_of depth l) c.self.view_is
