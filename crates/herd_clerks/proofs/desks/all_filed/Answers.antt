-- The first desk files the first commands, and then all file the rest.
use Rattle.std.proofs.Common.{arith, ◌≡◌, ◌∙◌, ◌<◌, [], ◌++◌, IfOk, Some, ap, get_or, length, subst, sym}
use Rattle.std.proofs.lemmas.Option.{slice_get-get_or}
use Rattle.herd_office.specs.declared.desk.Desk.{Desk}
use Rattle.herd_clerks.specs.Deal.{HasFiled, every, numbers_of}
use Rattle.herd_clerks.proofs.DealFacts.{all_begun, every-one, filed_none}
use Rattle.herd_clerks.proofs.Lists.{numbers-set}
use Rattle.herd_clerks.proofs.desks.all_filed.Goals as goal

pub file_in_turn-requires-clause-first : goal.file_in_turn-requires-clause-first
file_in_turn-requires-clause-first g c κs within =
    let desks = c.args.desks.items in
    let came = c.file_turn.new.desk in
    let deal = c.args.deal in
    let some : 0 < length desks = omega (arith, c.args.desks.ok.0, c.requires.desks, deal.some) in
    let old = c.index_mut.result.now in
    let own = c.requires.fresh 0 old (slice_get-get_or desks 0 old some ∙ ap Some (sym c.index_mut.ensures.value)) in
    let filed : HasFiled came ([] ++ every 1 0 deal.first.now) =
    rw (c.first_turn.ensures.step, c.first_turn.ensures.from, c.first_turn.ensures.commands) at (c.in_ok-file_turn.ensures.filed [] (filed_none old own.1 own.2)) in
    all_begun deal desks came c.requires.fresh (c.in_ok-file_turn.ensures.number ∙ own.0) (subst (HasFiled came) (every-one deal.first.now) filed)

pub returns-clause-numbers : goal.returns-clause-numbers
returns-clause-numbers g c =
    let desks = c.args.desks.items in
    let came = c.file_turn.new.desk in
    let old = c.index_mut.result.now in
    let same : came.number ≡ (get_or desks 0 old).number = c.in_ok-file_turn.ensures.number ∙ ap (λ (d : Desk _ _). d.number) c.index_mut.ensures.value in
    subst (λ l. IfOk c.file_in_turn.result (λ done. numbers_of done.items ≡ l)) (numbers-set (λ (d : Desk _ _). d.number) desks 0 old came same)
    c.file_in_turn.ensures.numbers
