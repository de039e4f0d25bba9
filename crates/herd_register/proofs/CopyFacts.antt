-- A copy that takes over what each step of a register made of the records is the copy of that register.
use Rattle.std.proofs.Common.{◌≡◌, ◌<◌, ◌≤◌, List, [], ◌∷◌, ◌++◌, length, fold, refl, sym, ap, ◌∙◌, subst, arith}
use Rattle.std.proofs.lemmas.Bool.{lt-ltb}
use Rattle.std.proofs.lemmas.List.{append_assoc, append-nil, length-append}
use Rattle.herd_register.specs.declared.change.Change.{Change}
use Rattle.herd_register.specs.declared.step.Step.{Step}
use Rattle.herd_register.specs.Change.{AreChangesAfter, AreChangesOf, IsLastChange}
use Rattle.herd_register.specs.Copybook.{Copybook, all_taken_over, copy_of, copybook_of, taken_over}
use Rattle.herd_register.specs.Limits.{Limits}

-- by one step
pub copy-taken_over : (limits : Limits) (earlier : List Step) (last : Step) (change : Change) → length earlier < limits.steps → IsLastChange limits (earlier ++ last ∷ []) change → taken_over (copy_of limits earlier) change ≡ copy_of limits (earlier ++ last ∷ [])
copy-taken_over limits earlier last change room made =
    rw (lt-ltb (length earlier) limits.steps room)
    (λ i. copybook_of limits (made earlier last refl i) (sym (length-append earlier (last ∷ [])) i))

-- so a copy of a register stays one where it takes the next change over
pub copied : (limits : Limits) (earlier : List Step) (last : Step) (change : Change) (old new : Copybook) → new ≡ taken_over old change → old ≡ copy_of limits earlier → length earlier < limits.steps → IsLastChange limits (earlier ++ last ∷ []) change → new ≡ copy_of limits (earlier ++ last ∷ [])
copied limits earlier last change old new taken is room made =
    taken ∙ ap (λ (copybook : Copybook). taken_over copybook change) is ∙ copy-taken_over limits earlier last change room made

-- and by several
copy-after : (limits : Limits) (earlier steps : List Step) (changes : List Change) → length (earlier ++ steps) ≤ limits.steps → AreChangesAfter limits earlier steps changes → all_taken_over (copy_of limits earlier) changes ≡ copy_of limits (earlier ++ steps)
copy-after limits earlier [] changes room is =
    ap (fold taken_over (copy_of limits earlier)) is ∙ ap (copy_of limits) (sym (append-nil earlier))
copy-after limits earlier (step ∷ steps) changes room is =
    let whole : (earlier ++ step ∷ []) ++ steps ≡ earlier ++ step ∷ steps = append_assoc earlier (step ∷ []) steps in
    ap (fold taken_over (copy_of limits earlier)) is.2
    ∙ ap (λ (copybook : Copybook). fold taken_over copybook is.1) (copy-taken_over limits earlier step is.0 (omega (arith, room, length-append earlier (step ∷ steps))) is.3)
    ∙ copy-after limits (earlier ++ step ∷ []) steps is.1 (subst (λ (s : List Step). length s ≤ limits.steps) (sym whole) room) is.4
    ∙ ap (copy_of limits) whole

pub copy-of-changes : (limits : Limits) (journal : List Step) (changes : List Change) → length journal ≤ limits.steps → AreChangesOf limits journal changes → all_taken_over (copybook_of limits [] 0) changes ≡ copy_of limits journal
copy-of-changes limits journal changes room is = copy-after limits [] journal changes room is
