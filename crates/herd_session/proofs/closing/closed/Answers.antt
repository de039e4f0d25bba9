-- The journal begins with what an inspector learnt, and has the desks' steps.
use Rattle.std.proofs.Common.{◌≡◌, ◌∙◌, ◌<◌, Some, ap, arith, length, map, set, slice_get}
use Rattle.std.proofs.lemmas.Bool.Decides.{nat_tests}
use Rattle.std.proofs.lemmas.List.{get_or-set_same, length-set}
use Rattle.std.proofs.lemmas.Option.{slice_get-get_or}
use Rattle.herd_office.proofs.Fronts.{prefix_trans}
use Rattle.herd_office.specs.declared.desk.Desk.{Desk}
use Rattle.herd_session.proofs.FiledFacts.{journal_of_desks}
use Rattle.herd_session.proofs.closing.closed.Goals as goal

pub returns-in-Ok-clause-begins : goal.returns-in-Ok-clause-begins
returns-in-Ok-clause-begins g c =
    let inspectors = c.in_ok-desks.field-0.inspectors.items in
    let came = c.learn.new.self in
    let some : 0 < length inspectors = grind (arith, nat_tests, c.in_ok-desks.field-0.inspectors.ok.0, c.is_empty.ensures) in
    let there : slice_get (set inspectors 0 came) 0 ≡ Some came =
    slice_get-get_or (set inspectors 0 came) 0 came (omega (arith, some, length-set inspectors 0 came)) ∙ ap Some (get_or-set_same inspectors 0 came came some) in
    prefix_trans c.args.longest_written.now.history came.history c.in-Ok.register.journal c.learn.ensures.that
    (c.in-Ok.ensures.closed.inspectors_begin 0 came there)

pub returns-in-Ok-clause-desks : goal.returns-in-Ok-clause-desks
returns-in-Ok-clause-desks g c =
    let closed = c.in-Ok.ensures.closed in
    let desks = c.in_ok-desks.field-0.desks.items in (
      map (λ (d : Desk _ _). d.number) desks,
      journal_of_desks g.N.SessionName.records c.in-Ok.register.journal desks (rw c.in_ok-desks.was at c.requires)
          closed.sum closed.each closed.desks_begin closed.apart,
    )
