-- `Inspector::look_for`: what its reading tells, and what it returns.
use Rattle.std.proofs.Common.{sym, ap, subst, ◌∙◌}
use Rattle.herd_register.specs.Run.{commands_of, run_book}
use Rattle.herd_office.specs.Copies.{IsPartWith}
use Rattle.herd_office.proofs.inspector.Inspector.look_for.Goals as goal

pub invariant_of-self : goal.invariant_of-self
invariant_of-self g c = record { ours = c.replace_with.ensures ∙ c.args.self.now.ours }

pub longer-requires : goal.longer-requires
longer-requires g c =
    let office = c.in_ok-part.ensures.1.1 _ (c.replace_with.ensures ∙ c.args.self.now.ours) in
    record {
      book = sym (ap (λ o. o.0.book) office);
      limits = sym (ap (λ o. o.1) office);
    }

pub returns-clause-part : goal.returns-clause-part
returns-clause-part g c =
    let past = c.in_ok-part.past in
    let part = c.in_ok-part.part.items in
    let office = c.in_ok-part.ensures.1.1 _ (c.replace_with.ensures ∙ c.args.self.now.ours) in
    subst (λ steps. IsPartWith (run_book g.N.OfficeName.limits (commands_of steps)) c.args.numbers.now part) (sym c.in_ok-history.ensures.history)
    (subst (λ limits. IsPartWith (run_book limits (commands_of past.seen.log)) c.args.numbers.now part) (sym (ap (λ o. o.1) office)) c.in_ok-part.ensures.1.0)
