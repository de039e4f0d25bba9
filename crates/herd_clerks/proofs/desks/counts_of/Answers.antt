-- `counts_of`: its loop.
use Rattle.std.proofs.Common.{◌≡◌, ◌∙◌, List, ◌++◌, ◌∷◌, [], ap, arith, get_or, map, refl, sym, take}
use Rattle.std.proofs.lemmas.List.{map_more}
use Rattle.herd_clerks.specs.Summary.{count_of}
use Rattle.herd_clerks.specs.declared.summary.DeskCount.{DeskCount}
use Rattle.herd_clerks.proofs.desks.counts_of.Goals as goal

pub loop-desk-preserved : goal.loop-desk-preserved
loop-desk-preserved g c =
    let desks = c.args.desks.now in
    let at = c.loop-desk.desk-index in
    let desk = c.desk-item.result in
    let count : DeskCount = count_of c.number.result c.answered.result in
    let its : count ≡ count_of desk.number desk.answered = rw (c.number.ensures.value, c.answered.ensures.value) refl in
    let there : count ≡ count_of (get_or desks at desk).number (get_or desks at desk).answered = its ∙ ap (λ d. count_of d.number d.answered) c.desk-item.is in
    c.in_ok-push.ensures.items
    ∙ ap (λ (counts : List DeskCount). counts ++ count ∷ []) c.loop-desk.invariant
    ∙ ap (λ (one : DeskCount). map (λ d. count_of d.number d.answered) (take at desks) ++ one ∷ []) there
    ∙ sym (map_more (λ d. count_of d.number d.answered) desks at desk (omega (arith, c.loop-desk-test.true)))
