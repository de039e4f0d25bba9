-- `Inspector::look`: what its reading tells, and what it returns.
use Rattle.std.proofs.Common.{sym, ap, ◌∙◌}
use Rattle.herd_register.specs.Run.{commands_of, run_book}
use Rattle.herd_office.proofs.inspector.Inspector.look.Goals as goal

pub invariant_of-self : goal.invariant_of-self
invariant_of-self g c = record { ours = c.replace_with.ensures ∙ c.args.self.now.ours }

pub longer-requires : goal.longer-requires
longer-requires g c =
    let office = c.in_ok-records.ensures.1.1.1 _ (c.replace_with.ensures ∙ c.args.self.now.ours) in
    record {
      book = sym (ap (λ o. o.0.book) office);
      limits = sym (ap (λ o. o.1) office);
    }

pub returns-clause-run : goal.returns-clause-run
returns-clause-run g c =
    let past = c.in_ok-records.past in
    let office = c.in_ok-records.ensures.1.1.1 _ (c.replace_with.ensures ∙ c.args.self.now.ours) in
    c.in_ok-records.ensures.1.0
    ∙ ap (λ limits. run_book limits (commands_of past.seen.log)) (sym (ap (λ o. o.1) office))
    ∙ ap (λ steps. run_book g.N.OfficeName.limits (commands_of steps)) (sym c.in_ok-history.ensures.history)

pub returns-clause-lawful : goal.returns-clause-lawful
returns-clause-lawful g c = c.in_ok-records.ensures.1.1.0
