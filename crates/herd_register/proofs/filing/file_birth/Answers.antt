-- `file_birth`: its clause `refusal`, where the number was free.
use Rattle.std.proofs.Common.{◌≡◌, ◌<◌, ◌∙◌, sym, ap, length, arith, rules, Some}
use Rattle.herd_pedigree.specs.declared.registration.Registration.TheVariants.{Added, Unsound}
use Rattle.herd_register.specs.Limits.{Limits}
use Rattle.herd_register.specs.Refusal.{refusal_of}
use Rattle.herd_register.proofs.FaultFacts.{birth-told}
use Rattle.herd_register.proofs.filing.file_birth.Goals as goal

pub returns-in-Added-clause-refusal : goal.returns-in-Added-clause-refusal
returns-in-Added-clause-refusal g c =
    let book = c.args.pedigree.now.book in
    let room : length book < c.args.limits.animals = omega (arith, c.len.ensures, c.if-len-limits.false, ap (λ (l : Limits). l.animals) c.limits.view_is) in
    birth-told c.args.limits book c.args.number c.args.newborn room Added (sym c.in-Added.is ∙ c.in_ok-add_if_new.ensures.outcome)

pub returns-in-Unsound-clause-refusal : goal.returns-in-Unsound-clause-refusal
returns-in-Unsound-clause-refusal g c =
    let book = c.args.pedigree.now.book in
    let room : length book < c.args.limits.animals = omega (arith, c.len.ensures, c.if-len-limits.false, ap (λ (l : Limits). l.animals) c.limits.view_is) in
    let given : c.from.result ≡ refusal_of c.in-Unsound.fault = search rules in
    ap Some given ∙ birth-told c.args.limits book c.args.number c.args.newborn room (Unsound c.in-Unsound.fault) (sym c.in-Unsound.is ∙ c.in_ok-add_if_new.ensures.outcome)
