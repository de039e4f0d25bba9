-- What a register keeps, once a step is filed or withdrawn.
use Rattle.std.proofs.Common.{◌≡◌, ◌<◌, ◌≤◌, true, false, List, [], ◌∷◌, ◌++◌, length, Some, refl, sym, ap, ◌∙◌, subst, arith}
use Rattle.std.proofs.lemmas.List.{length-append, same_from_push}
use Rattle.herd_frozen.specs.rules.Book.{Book}
use Rattle.herd_pedigree.specs.Pedigree.{Pedigree}
use Rattle.herd_register.specs.declared.reply.Reply.{Reply}
use Rattle.herd_register.specs.declared.reply.Reply.TheVariants.{Accepted, Refused}
use Rattle.herd_register.specs.declared.step.Step.{Step}
use Rattle.herd_register.specs.Register.{IsRegister, Register, register_of, with_step}
use Rattle.herd_register.specs.Run.{answer, commands_of, IsLegal, next, run_book}
use Rattle.herd_register.proofs.RunLemmas.{IsLegal-append, IsLegal-front, length-run_book, next-answered, run_book-append}

-- the book has at most as many animals as the limits allow
pub few_animals : (register : Register) (pedigree : Pedigree) → IsRegister register pedigree → length pedigree.book ≤ register.limits.animals
few_animals register pedigree is = rw is.book (length-run_book register.limits (commands_of register.journal))

-- a step that was answered as one thread answers it can be added, and be taken out again
pub IsRegister-with_step : (register : Register) (old new : Pedigree) (step : Step) → IsRegister register old → length register.journal < register.limits.steps → step.reply ≡ answer register.limits old.book step.command → new.book ≡ next register.limits old.book step.command → (step.reply ≡ Accepted → new.before ≡ Some old.book) → IsRegister (with_step register step) new
IsRegister-with_step register old new step is room reply book before =
    let limits = register.limits in
    let steps = register.journal in
    record {
      book = book ∙ (ap (λ (b : Book). next limits b step.command) is.book ∙ sym (run_book-append limits steps step));
      legal = IsLegal-append limits steps step is.legal (reply ∙ ap (λ (b : Book). answer limits b step.command) is.book);
      room = rw (length-append steps (step ∷ [])) (omega arith);
      before = λ _. record {
        some = rw (length-append steps (step ∷ [])) (omega arith);
        book = λ earlier last whole accepted.
            let apart = same_from_push steps earlier step last whole in
            let was : step.reply ≡ Accepted = ap (λ (s : Step). s.reply) apart.1 ∙ accepted in
            before was ∙ ap Some (is.book ∙ ap (λ (s : List Step). run_book limits (commands_of s)) apart.0);
      };
    }

-- the last step can be taken out: a refused one leaves the book as it is, an accepted one the book before it
pub IsRegister-without_step : (register : Register) (old new : Pedigree) (earlier : List Step) (last : Step) → IsRegister register old → register.can_withdraw ≡ true → register.journal ≡ earlier ++ last ∷ [] → (last.reply ≡ Accepted → old.before ≡ Some new.book) → ((refusal : _) → last.reply ≡ Refused refusal → new.book ≡ old.book) → IsRegister (register_of register.limits earlier false) new
IsRegister-without_step register old new earlier last is can whole accepted refused =
    let limits = register.limits in
    let legal = IsLegal-front limits earlier last (subst (IsLegal limits) whole is.legal) in
    let run : old.book ≡ next limits (run_book limits (commands_of earlier)) last.command = is.book ∙ (ap (λ (s : List Step). run_book limits (commands_of s)) whole ∙ run_book-append limits earlier last) in
    let size = length-append earlier (last ∷ []) in
    record {
      book = by last.reply refl legal.1 run;
      legal = legal.0;
      room = let longer : length (earlier ++ last ∷ []) ≤ limits.steps = subst (λ (s : List Step). length s ≤ limits.steps) whole is.room in omega (arith, size);
      before = λ never. absurd (cc (never));
    }
  where
    by : (reply : Reply) → last.reply ≡ reply → last.reply ≡ answer register.limits (run_book register.limits (commands_of earlier)) last.command → old.book ≡ next register.limits (run_book register.limits (commands_of earlier)) last.command → new.book ≡ run_book register.limits (commands_of earlier)
    by Accepted is_accepted legal run =
        let back : Some new.book ≡ Some (run_book register.limits (commands_of earlier)) = sym (accepted is_accepted) ∙ (is.before can).book earlier last whole is_accepted in
        cc (back)
    by (Refused refusal) is_refused legal run =
        refused refusal is_refused ∙ (run ∙ next-answered register.limits (run_book register.limits (commands_of earlier)) last.command refusal (sym is_refused ∙ legal))
