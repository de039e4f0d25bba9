-- No desk and no inspector is missing, and the register's journal has what the desks and the inspector know.
use Rattle.std.proofs.Common.{◌≡◌, ◌∙◌, ◌<◌, List, Some, ap, arith, length, map, set, slice_get, subst, sym}
use Rattle.std.specs.List.{range_with_len}
use Rattle.std.proofs.lemmas.List.{get_or-set_same, length-map, length-set}
use Rattle.std.proofs.lemmas.List.FromFn.{length-range_with_len}
use Rattle.std.proofs.lemmas.Option.{slice_get-get_or}
use Rattle.herd_office.specs.Beginnings.{BeginsWithAll}
use Rattle.herd_office.specs.declared.desk.Desk.{Desk}
use Rattle.herd_clerks.specs.Deal.{HasDone, numbers_of}
use Rattle.herd_clerks.specs.Summary.{CountsOf, count_of}
use Rattle.herd_clerks.specs.declared.summary.DeskCount.{DeskCount}
use Rattle.herd_clerks.proofs.Lists.{holds_at}
use Rattle.herd_clerks.proofs.SummaryFacts.{seen_whole, summed_up}
use Rattle.herd_clerks.proofs.desks.closed.Goals as goal

pub of_closing-requires-clause-desks : goal.of_closing-requires-clause-desks
of_closing-requires-clause-desks g c = λ is.
    let desks = c.args.desks.items in
    let due = c.args.office.staff.desks in
    let all : length desks ≡ due = sym (length-map desks (λ (d : Desk _ _). d.number)) ∙ ap length c.requires.numbers ∙ length-range_with_len 1 due in
    absurd (omega (arith, c.in-Err.ensures.unclosed.desk_missing.0 is, all))

pub of_closing-requires-clause-inspectors : goal.of_closing-requires-clause-inspectors
of_closing-requires-clause-inspectors g c = λ is.
    let inspectors = c.args.inspectors.items in
    let came = c.steps_seen.new.inspector in
    let few : length (set inspectors 0 came) < c.args.office.staff.inspectors = (c.in-Err.ensures.unclosed.inspector_missing.0 is).1 in
    absurd (omega (arith, few, length-set inspectors 0 came, c.args.inspectors.ok.0, c.requires.inspectors))

pub counted-requires : goal.counted-requires
counted-requires g c =
    let desks = c.args.desks.items in
    let inspectors = c.args.inspectors.items in
    let came = c.steps_seen.new.inspector in
    let closed = c.in-Ok.ensures.closed in
    let some : 0 < length inspectors = omega (arith, c.args.inspectors.ok.0, c.requires.some) in
    let there : slice_get (set inspectors 0 came) 0 ≡ Some came =
    slice_get-get_or (set inspectors 0 came) 0 came (omega (arith, some, length-set inspectors 0 came)) ∙ ap Some (get_or-set_same inspectors 0 came came some) in
    let learnt : BeginsWithAll (λ (d : Desk _ _). d.history) desks came.history =
    subst (λ l. BeginsWithAll (λ (d : Desk _ _). d.history) l came.history) c.as_slice-2.ensures.value c.in_ok-seen.ensures.learnt in
    c.in_ok-seen.ensures.seen
    ∙ seen_whole desks c.args.office.staff.desks c.in-Ok.register.journal came.history c.requires.numbers closed.sum learnt (closed.inspectors_begin 0 came there)

pub returns-in-Ok-clause-ok : goal.returns-in-Ok-clause-ok
returns-in-Ok-clause-ok g c = λ deal dealt filed.
    let register = c.in-Ok.register in
    let desks = c.args.desks.items in
    let counted : c.in_ok-counts.counts.items ≡ map (λ (d : Desk _ _). count_of d.number d.answered) desks = rw (← c.as_slice.ensures.value) c.in_ok-counts.ensures in
    let numbers : numbers_of desks ≡ range_with_len 1 deal.desks = c.requires.numbers ∙ ap (range_with_len 1) dealt in
    let summary = c.counted.result in
    summed_up desks g.N.OfficeName.limits deal register summary numbers (holds_at (HasDone deal) desks filed) c.in-Ok.ensures.closed.limits_are
    c.counted.ensures.legal c.in-Ok.ensures.closed.sum c.in-Ok.ensures.closed.each c.in-Ok.ensures.closed.desks_begin
    (subst (λ (l : List DeskCount). CountsOf register l summary) counted c.counted.ensures.counts)
