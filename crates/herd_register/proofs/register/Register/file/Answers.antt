-- `Register::file`: the invariant and its clauses `book`, `legal` and `refused`.
use Rattle.std.proofs.Common.{◌≡◌, ◌<◌, ◌++◌, ◌∷◌, [], true, List, Ok, length, ap, ◌∙◌, sym, subst, arith}
use Rattle.std.proofs.lemmas.Bool.{iff_false}
use Rattle.herd_frozen.specs.rules.Book.{Book}
use Rattle.herd_register.specs.declared.reply.Reply.TheVariants.{Refused}
use Rattle.herd_register.specs.declared.step.Step.{Step}
use Rattle.herd_register.specs.Register.{register_book, IsRegister, Register, register_of}
use Rattle.herd_register.specs.Run.{answer, commands_of, IsLegal, next, run_book, step_of}
use Rattle.herd_register.proofs.RegisterFacts.{IsRegister-with_step}
use Rattle.herd_register.proofs.RunLemmas.{IsLegal-append, next-answered, run_book-append}
use Rattle.herd_register.proofs.register.Register.file.Goals as goal

-- a step that was pushed where there was room is the last
pushed : (old reserved new : List Step) (step : Step) → new ≡ reserved ++ step ∷ [] → reserved ≡ old → new ≡ old ++ step ∷ []
pushed old reserved new step is kept = is ∙ ap (λ (s : List Step). s ++ step ∷ []) kept

pub invariant_of-self-2 : goal.invariant_of-self-2
invariant_of-self-2 g c =
    let i = c.self.inside in
    let old = register_of i.limits i.journal.items i.can_withdraw in
    let step = step_of c.args.desk c.args.command c.in_ok-reply.reply in
    let journal = pushed i.journal.items c.reserve.new.self.items c.push_reserved.new.self.items step c.push_reserved.ensures.items c.reserve.ensures.items in
    let not_full : (length i.journal.items ≡ i.limits.steps) → ⊥ = λ e. iff_false c.is_full.ensures.full c.if-is_full.false (subst (λ (r : Register). length r.journal ≡ r.limits.steps) c.self.view_is e) in
    let within = c.self.invariant.room in
    let room : length i.journal.items < i.limits.steps = omega arith in
    let is = IsRegister-with_step old i.pedigree c.carry_out.new.pedigree step c.self.invariant room c.in_ok-reply.ensures.reply c.in_ok-reply.ensures.book (λ accepted. c.in_ok-reply.ensures.before (ap Ok accepted)) in
    subst (λ (s : List Step). IsRegister (register_of i.limits s true) c.carry_out.new.pedigree) (sym journal) is

pub returns-clause-book : goal.returns-clause-book
returns-clause-book g c =
    let i = c.self.inside in
    let step = step_of c.args.desk c.args.command c.in_ok-reply.reply in
    let journal = pushed i.journal.items c.reserve.new.self.items c.push_reserved.new.self.items step c.push_reserved.ensures.items c.reserve.ensures.items in
    subst (λ (r : Register). run_book i.limits (commands_of c.push_reserved.new.self.items) ≡ next r.limits (register_book r) c.args.command) c.self.view_is
    (ap (λ (s : List Step). run_book i.limits (commands_of s)) journal ∙ run_book-append i.limits i.journal.items step)

pub returns-clause-legal : goal.returns-clause-legal
returns-clause-legal g c =
    let i = c.self.inside in
    let step = step_of c.args.desk c.args.command c.in_ok-reply.reply in
    let journal = pushed i.journal.items c.reserve.new.self.items c.push_reserved.new.self.items step c.push_reserved.ensures.items c.reserve.ensures.items in
    let answered = c.in_ok-reply.ensures.reply ∙ ap (λ (b : Book). answer i.limits b c.args.command) c.self.invariant.book in
    subst (IsLegal i.limits) (sym journal) (IsLegal-append i.limits i.journal.items step c.self.invariant.legal answered)

pub returns-clause-refused : goal.returns-clause-refused
returns-clause-refused g c refusal is =
    let i = c.self.inside in
    let command = c.args.command in
    let step = step_of c.args.desk command c.in_ok-reply.reply in
    let book = run_book i.limits (commands_of i.journal.items) in
    let journal = pushed i.journal.items c.reserve.new.self.items c.push_reserved.new.self.items step c.push_reserved.ensures.items c.reserve.ensures.items in
    let refused : Refused refusal ≡ c.in_ok-reply.reply = cc (is) in
    let answered : Refused refusal ≡ answer i.limits book command = refused ∙ (c.in_ok-reply.ensures.reply ∙ ap (λ (b : Book). answer i.limits b command) c.self.invariant.book) in
    subst (λ (r : Register). run_book i.limits (commands_of c.push_reserved.new.self.items) ≡ register_book r) c.self.view_is
    (ap (λ (s : List Step). run_book i.limits (commands_of s)) journal ∙ (run_book-append i.limits i.journal.items step ∙ next-answered i.limits book command refusal answered))
