-- What was learnt stays learnt.
use Rattle.std.proofs.Common.{◌∙◌, ◌<◌, Some, ap, arith, length, subst, sym}
use Rattle.std.proofs.lemmas.Option.{slice_get-get_or, slice_get_within}
use mathlib.Core.List.{IsPrefix}
use Rattle.herd_office.specs.declared.desk.Desk.{Desk}
use Rattle.herd_office.proofs.Fronts.{prefix_trans}
use Rattle.herd_clerks.proofs.SummaryFacts.{learnt_more}
use Rattle.herd_clerks.proofs.desks.steps_seen.Goals as goal

pub loop-desk-preserved : goal.loop-desk-preserved
loop-desk-preserved g c =
    let desks = c.args.desks.now in
    let place = c.loop-desk.desk-index in
    let desk = c.desk-item.result in
    let within : place < length desks = omega (arith, c.loop-desk-test.true) in
    learnt_more (λ (d : Desk _ _). d.history) desks place desk c.loop-desk.inspector.history c.learn.new.self.history
    (slice_get-get_or desks place desk within ∙ ap Some (sym c.desk-item.is)) c.learn.ensures.this
    (subst (λ h. IsPrefix h c.learn.new.self.history) c.slip.ensures c.learn.ensures.that) c.loop-desk.invariant

pub returns-clause-learnt : goal.returns-clause-learnt
returns-clause-learnt g c = λ place desk at.
    let desks = c.args.desks.now in
    let within : place < length desks = slice_get_within desks place desk at in
    prefix_trans desk.history c.loop-desk.inspector.history c.freeze.new.self.history
    (c.loop-desk.invariant place desk (omega (arith, within, c.loop-desk-test.false)) at) c.freeze.ensures.seen
