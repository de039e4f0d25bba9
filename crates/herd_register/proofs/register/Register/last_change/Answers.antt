-- `Register::last_change`: its clause `made`.
use Rattle.std.proofs.Common.{◌≡◌, ◌++◌, ◌∷◌, ◌-◌, [], List, ap, get_or, length, sym, subst, ◌∙◌}
use Rattle.herd_register.specs.declared.reply.Reply.TheVariants.{Accepted, Refused}
use Rattle.herd_register.specs.declared.step.Step.{Step}
use Rattle.herd_register.specs.Change.{changed_by}
use Rattle.herd_register.specs.Register.{Register, register_book}
use Rattle.herd_register.specs.Run.{commands_of, fault, IsLegal, run_book, set}
use Rattle.herd_register.proofs.ChangeFacts.{last_accepted, last_of, last_refused}
use Rattle.herd_register.proofs.register.Register.last_change.Goals as goal

pub returns-in-Accepted-clause-made : goal.returns-in-Accepted-clause-made
returns-in-Accepted-clause-made g c earlier last is =
    let i = c.self.inside in
    let found = c.last-item.result in
    let read : found ≡ get_or i.journal.items (length i.journal.items - 1) found = subst (λ (s : List Step). found ≡ get_or s (length s - 1) found) c.as_slice.ensures.value c.last-item.is in
    subst (λ (r : Register). r.journal ≡ earlier ++ last ∷ [] → changed_by r.limits.animals (run_book r.limits (commands_of earlier)) c.change_made.result ≡ register_book r) c.self.view_is
    (λ whole.
    let same = last_of i.journal.items earlier last found whole read in
    let accepted : last.reply ≡ Accepted = ap (λ (s : Step). s.reply) (sym same) ∙ c.in-Accepted.is in
    let legal = subst (IsLegal i.limits) whole c.self.invariant.legal in
    let made = last_accepted i.limits earlier last legal accepted in
    let before = run_book i.limits (commands_of earlier) in
    let book : i.pedigree.book ≡ run_book i.limits (commands_of (earlier ++ last ∷ [])) = c.self.invariant.book ∙ ap (λ (s : List Step). run_book i.limits (commands_of s)) whole in
    let command = ap (λ (s : Step). s.command) same in
    c.change_made.ensures i.limits before (ap (fault i.limits before) command ∙ made.0) (book ∙ (made.1 ∙ ap (set before) (sym command)))
    ∙ c.self.invariant.book)
    is

pub returns-in-Refused-clause-made : goal.returns-in-Refused-clause-made
returns-in-Refused-clause-made g c earlier last is =
    let i = c.self.inside in
    let found = c.last-item.result in
    let read : found ≡ get_or i.journal.items (length i.journal.items - 1) found = subst (λ (s : List Step). found ≡ get_or s (length s - 1) found) c.as_slice.ensures.value c.last-item.is in
    subst (λ (r : Register). r.journal ≡ earlier ++ last ∷ [] → run_book r.limits (commands_of earlier) ≡ register_book r) c.self.view_is
    (λ whole.
    let same = last_of i.journal.items earlier last found whole read in
    let refused : last.reply ≡ Refused c.in-Refused.field-0 = ap (λ (s : Step). s.reply) (sym same) ∙ c.in-Refused.is in
    let legal = subst (IsLegal i.limits) whole c.self.invariant.legal in
    last_refused i.limits earlier last c.in-Refused.field-0 legal refused
    ∙ sym (ap (λ (s : List Step). run_book i.limits (commands_of s)) whole))
    is
