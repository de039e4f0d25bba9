-- `undo_writes`: its loop.
use Rattle.std.proofs.Common.{sym, ap, ◌∙◌, subst, ◌≡◌, ◌<◌, ℕ, List, Some, All, length, slice_set}
use Rattle.std.proofs.lemmas.List.{length-set}
use Rattle.std.proofs.lemmas.List.Elements.{All-pop}
use Rattle.herd_pedigree.specs.store.Undo.{undone_writes}
use Rattle.herd_pedigree.proofs.lemmas.store.UndoFacts.{undone-last}
use Rattle.herd_pedigree.proofs.store.undo.undo_writes.Goals as goal

pub loop-place-preserved : goal.loop-place-preserved
loop-place-preserved g c =
    let depths : List ℕ = c.loop-place.depths in
    let n : length (slice_set depths c.in-Some.place c.in-Some.depth) ≡ length depths = length-set depths c.in-Some.place c.in-Some.depth in
    let rest = All-pop (λ (write : ℕ × ℕ). write.0 < length depths) c.loop-place.log.items c.pop.new.self.items (Some (c.in-Some.place, c.in-Some.depth)) c.in-Some.ensures.items c.loop-place.invariant.0 in (
      subst (λ k. All (λ (write : ℕ × ℕ). write.0 < k) c.pop.new.self.items) (sym n) rest.0,
      sym (undone-last c.pop.new.self.items (c.in-Some.place, c.in-Some.depth) depths)
          ∙ ap (λ log. undone_writes log depths) (sym c.in-Some.ensures.items)
          ∙ c.loop-place.invariant.1,
    )
