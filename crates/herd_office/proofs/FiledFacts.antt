-- What a desk has filed.
use Rattle.std.proofs.Common.{◌≡◌, ◌∙◌, ℕ, ◌+◌, ◌≤◌, ◌<◌, ◌==◌, true, List, [], ◌∷◌, ◌++◌, ap, arith, filter, length, map, refl, sym}
use Rattle.std.proofs.lemmas.Bool.Decides.{nat_tests}
use Rattle.std.proofs.lemmas.Grind.{common_steps}
use Rattle.std.proofs.lemmas.List.Elements.{filter-append}
use Rattle.std.proofs.lemmas.List.Sums.{length-filter}
use mathlib.Core.List.{IsPrefix}
use Rattle.herd_register.specs.declared.command.Command.{Command}
use Rattle.herd_register.specs.declared.reply.Reply.{Reply}
use Rattle.herd_register.specs.declared.step.Step.{Step}
use Rattle.herd_register.specs.Run.{step_of}
use Rattle.herd_office.proofs.Stored.{of_desk_append, of_desk_one}
use Rattle.herd_office.specs.Filed.{HasFiled, commands_at}
use Rattle.herd_office.specs.Filing.{EndsWith}
use Rattle.herd_office.specs.Histories.{of_desk}
use Rattle.herd_office.specs.declared.desk.Desk.{Desk}
use Rattle.herd_office.specs.declared.name.OfficeName as office_name

-- a list of no elements
pub none_of : {A : Type 0} (xs : List A) → length xs ≡ 0 → xs ≡ []
none_of [] is = refl
none_of (x ∷ xs) is = absurd (omega (arith, is))

-- a front of a list with one element more is one of the list, where it is no longer than that
pub shorter_front : {A : Type 0} (front list : List A) (last : A) → IsPrefix front (list ++ last ∷ []) → length front ≤ length list → IsPrefix front list
shorter_front [] list last begins le = (list, refl)
shorter_front (x ∷ front) [] last begins le = absurd (omega (arith, le))
shorter_front {A} (x ∷ front) (y ∷ list) last begins le =
    let same : x ≡ y = cc (begins.1) in
    let rest : front ++ begins.0 ≡ list ++ last ∷ [] = cc (begins.1) in
    let more = shorter_front front list last (begins.0, rest) (omega (arith, le)) in
    (more.0, ap (λ l. x ∷ l) more.1 ∙ ap (λ (z : A). z ∷ list) same)

commands_at-append : (number : ℕ) (xs ys : List Step) → commands_at number (xs ++ ys) ≡ commands_at number xs ++ commands_at number ys
commands_at-append number xs ys = ap (map (λ (s : Step). s.command)) (filter-append (λ (s : Step). s.desk == number) xs ys) ∙ search (common_steps)

none_at : (number : ℕ) (steps : List Step) → of_desk number steps ≡ 0 → commands_at number steps ≡ []
none_at number steps none =
    ap (map (λ (s : Step). s.command)) (none_of (filter (λ (s : Step). s.desk == number) steps) (length-filter (λ (s : Step). s.desk == number) steps ∙ none))

-- a longer history with no other step of the desk shows what it has filed
pub shown : {N : Type 0} {O : office_name.Ghosts N} (desk : Desk N O) (longer : List Step) (commands : List Command) → HasFiled desk commands
    → IsPrefix desk.history longer → of_desk desk.number longer ≡ desk.answered → commands_at desk.number longer ≡ commands
shown desk longer commands filed begins all =
    let number = desk.number in
    let both : of_desk number desk.history + of_desk number begins.0 ≡ desk.answered =
    sym (of_desk_append number desk.history begins.0) ∙ ap (of_desk number) begins.1 ∙ all in
    let just : of_desk number desk.history ≡ desk.answered = omega (arith, both, desk.stored) in
    let none : of_desk number begins.0 ≡ 0 = omega (arith, both, desk.stored) in
    let parts : commands_at number longer ≡ commands_at number desk.history ++ commands_at number begins.0 =
    sym (ap (commands_at number) begins.1) ∙ commands_at-append number desk.history begins.0 in
    parts ∙ ap (λ l. commands_at number desk.history ++ l) (none_at number begins.0 none) ∙ search (common_steps) ∙ filed.known just

-- a desk at which nothing was filed
pub filed_none : {N : Type 0} {O : office_name.Ghosts N} (desk : Desk N O) → desk.answered ≡ 0 → desk.history ≡ [] → HasFiled desk []
filed_none desk none empty = record { counted = none; known = λ _. ap (commands_at desk.number) empty }

own_step : (number : ℕ) (step : Step) → step.desk ≡ number → commands_at number (step ∷ []) ≡ step.command ∷ []
own_step number step is = let own : (step.desk == number) ≡ true = grind (arith, nat_tests) in rw own refl

-- a desk that has answered one call more, whose history ends with its command
pub filed_more : {N : Type 0} {O : office_name.Ghosts N} (old new : Desk N O) (before : List Command) (command : Command) (reply : Reply)
    → new.number ≡ old.number → new.answered ≡ old.answered + 1 → IsPrefix old.history new.history → length old.history < length new.history
    → EndsWith new.history old.number command reply → HasFiled old before → HasFiled new (before ++ command ∷ [])
filed_more old new before command reply same answered begins more ends filed =
    let number = old.number in
    let front = ends.0 in
    let step = step_of number command reply in
    let is : new.history ≡ front ++ step ∷ [] = ends.1 in
    let len : length new.history ≡ length front + 1 = ap length is ∙ search (arith, common_steps) in
    let within : IsPrefix old.history front = shorter_front old.history front step (begins.0, begins.1 ∙ is) (omega (arith, more, len)) in
    let one_more : length (before ++ command ∷ []) ≡ length before + 1 = search (arith, common_steps) in
    let count : of_desk number new.history ≡ of_desk number front + 1 =
    ap (of_desk number) is ∙ of_desk_append number front (step ∷ []) ∙ ap (λ n. of_desk number front + n) (of_desk_one number step refl) in
    record {
      counted = omega (arith, answered, filed.counted, one_more);
      known = λ all.
          let own : of_desk number new.history ≡ new.answered = sym (ap (λ n. of_desk n new.history) same) ∙ all in
          let just : of_desk number front ≡ old.answered = omega (arith, count, own, answered) in
          ap (λ n. commands_at n new.history) same ∙ ap (commands_at number) is ∙ commands_at-append number front (step ∷ [])
          ∙ ap (λ l. l ++ commands_at number (step ∷ [])) (shown old front before filed within just)
          ∙ ap (λ l. before ++ l) (own_step number step refl);
    }
