-- `ranks_of`: its loop.
use Rattle.std.proofs.Common.{◌∙◌, ◌++◌, ◌∷◌, [], List, ℕ, ap, subst, sym, take}
use Rattle.std.proofs.lemmas.List.{take_more}
use Rattle.herd_advice.specs.BookCoefficients.{AreRanksOf}
use Rattle.herd_advice.proofs.lemmas.FrozenFacts.{ranks-none}
use Rattle.herd_advice.proofs.book_coefficients.ranks_of.Goals as goal

pub loop-number-init : goal.loop-number-init
loop-number-init g c = ranks-none c.args.frozen.now _ c.new-ranks.ensures.items

pub loop-number-preserved : goal.loop-number-preserved
loop-number-preserved g c =
    let numbers = c.args.numbers.now in
    let place = c.loop-number.number-index in
    let number = c.number-item.result in
    subst (λ ns. AreRanksOf c.args.frozen.now ns c.push_rank.new.ranks.items)
    (sym (take_more numbers place number c.loop-number-test.true ∙ ap (λ (n : List ℕ). take place numbers ++ n ∷ []) (sym c.number-item.is)))
    (c.in_ok-push_rank.ensures (take place numbers) c.loop-number.invariant)
