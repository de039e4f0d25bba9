-- What a desk has filed for records.
use Rattle.std.proofs.Common.{◌≡◌, ◌∙◌, ◌⊎◌, ⊎_elim, ℕ, zero, suc, ◌+◌, ◌≤◌, ◌<◌, List, [], ◌∷◌, ◌++◌, All, Option, Ok, ap, arith, length, map, slice_get, Some, refl, subst, sym}
use Rattle.std.specs.List.{sum_by}
use Rattle.std.proofs.lemmas.List.{map-append}
use Rattle.std.proofs.lemmas.List.Elements.{All-head, All-tail}
use Rattle.std.proofs.lemmas.Option.{slice_get_within}
use Rattle.std.proofs.Math.Logic.{∥∥₁_map}
use mathlib.Core.List.{IsPrefix}
use Rattle.herd_office.proofs.FiledFacts.{filed_more, filed_none, shown}
use Rattle.herd_office.proofs.ListFacts.{get_more, sum_by-each-le, sum_by-map}
use Rattle.herd_office.specs.Beginnings.{BeginsWithAll}
use Rattle.herd_office.specs.Filed.{commands_at}
use Rattle.herd_office.specs.Filing.{EndsWith}
use Rattle.herd_office.specs.Histories.{Apart, of_desk}
use Rattle.herd_office.specs.declared.desk.Desk.{Desk}
use Rattle.herd_office.specs.declared.name.OfficeName as office_name
use Rattle.herd_register.specs.declared.command.Command.{Command}
use Rattle.herd_register.specs.declared.reply.Reply.{Reply}
use Rattle.herd_register.specs.declared.step.Step.{Step}
use Rattle.csv_records.specs.Fields.{Fields}
use Rattle.herd_session.specs.Closing.{IsOfDesks}
use Rattle.herd_session.specs.Filed.{AreAskedBelow, AreAskedInTurn, AsksFor, HasFiledBelow, HasFiledInTurn}
use Rattle.herd_requests.specs.Requests.{IsAskedOfDesk}

-- a desk at which nothing was filed
pub none_below : {N : Type 0} {O : office_name.Ghosts N} (records : Option (List Fields)) (desk : Desk N O)
    → desk.answered ≡ 0 → desk.history ≡ [] → HasFiledBelow records 0 desk
none_below records desk none empty = record {
  commands = [];
  asked = record {
    asked = [];
    each = λ place one at. absurd (cc at);
    ascends = λ place one other at next. absurd (cc at);
    below = λ place one at. absurd (cc at);
    commands_are = refl;
  };
  filed = filed_none desk none empty;
}

-- a record behind those that asked before asks for one command more
asked_more : (records : Option (List Fields)) (next before desk : ℕ) (command : Command) (commands : List Command)
    → next ≤ before → AsksFor records before desk command → AreAskedBelow records next desk commands
    → AreAskedBelow records (before + 1) desk (commands ++ command ∷ [])
asked_more records next before desk command commands later asks are =
    let xs = are.asked in
    let x : ℕ × Command = (before, command) in
    let more : (place : ℕ) (one : ℕ × Command) → slice_get (xs ++ x ∷ []) place ≡ Some one
    → (slice_get xs place ≡ Some one) ⊎ ((place ≡ length xs) × (one ≡ x)) = λ place one at. get_more xs (xs ++ x ∷ []) x place one refl at in
    record {
      asked = xs ++ x ∷ [];
      each = λ place one at.
          ⊎_elim (λ (was : slice_get xs place ≡ Some one). are.each place one was)
          (λ (is : (place ≡ length xs) × (one ≡ x)). subst (λ (o : ℕ × Command). AsksFor records o.0 desk o.1) (sym is.1) asks)
          (more place one at);
      ascends = λ place one other at next_at.
          ⊎_elim
          (λ (behind : slice_get xs (suc place) ≡ Some other).
          let within : suc place < length xs = slice_get_within xs (suc place) other behind in
          ⊎_elim (λ (was : slice_get xs place ≡ Some one). are.ascends place one other was behind)
          (λ (is : (place ≡ length xs) × (one ≡ x)). absurd (omega (arith, is.0, within)))
          (more place one at))
          (λ (last : (suc place ≡ length xs) × (other ≡ x)).
          let high : other.0 ≡ before = ap (λ (o : ℕ × Command). o.0) last.1 in
          ⊎_elim
          (λ (was : slice_get xs place ≡ Some one). let low = are.below place one was in omega (arith, low, later, high))
          (λ (is : (place ≡ length xs) × (one ≡ x)). absurd (omega (arith, is.0, last.0)))
          (more place one at))
          (more (suc place) other next_at);
      below = λ place one at.
          ⊎_elim (λ (was : slice_get xs place ≡ Some one). let low = are.below place one was in omega (arith, low, later))
          (λ (is : (place ≡ length xs) × (one ≡ x)). let same : one.0 ≡ before = ap (λ (o : ℕ × Command). o.0) is.1 in omega (arith, same))
          (more place one at);
      commands_are =
          ap (λ l. l ++ command ∷ []) are.commands_are
          ∙ sym (map-append (λ (o : ℕ × Command). o.1) xs (x ∷ []));
    }

-- a desk that has filed the command that a later record asked for
pub filed_below_more : {N : Type 0} {O : office_name.Ghosts N} (records : Option (List Fields)) (next before : ℕ) (tag : List ℕ)
    (old new : Desk N O) (command : Command) (reply : Reply)
    → next ≤ before → IsAskedOfDesk records before old.number tag (Ok command)
    → new.number ≡ old.number → new.answered ≡ old.answered + 1 → IsPrefix old.history new.history → length old.history < length new.history
    → EndsWith new.history old.number command reply → HasFiledBelow records next old → HasFiledBelow records (before + 1) new
filed_below_more records next before tag old new command reply later asked same answered begins more ends was = record {
  commands = was.commands ++ command ∷ [];
  asked =
      subst (λ n. AreAskedBelow records (before + 1) n (was.commands ++ command ∷ [])) (sym same)
      (asked_more records next before old.number command was.commands later (record { tag = tag; asked = asked }) was.asked);
  filed = filed_more old new was.commands command reply same answered begins more ends was.filed;
}

-- a desk that is as it was
pub filed_below_same : {N : Type 0} {O : office_name.Ghosts N} (records : Option (List Fields)) (next : ℕ) (old new : Desk N O)
    → new.number ≡ old.number → new.answered ≡ old.answered → new.history ≡ old.history
    → HasFiledBelow records next old → HasFiledBelow records next new
filed_below_same records next old new same answered held was = record {
  commands = was.commands;
  asked = subst (λ n. AreAskedBelow records next n was.commands) (sym same) was.asked;
  filed = record {
    counted = answered ∙ was.filed.counted;
    known = λ all.
        ap (λ n. commands_at n new.history) same ∙ ap (commands_at old.number) held
        ∙ was.filed.known (sym (ap (λ n. of_desk n old.history) same) ∙ sym (ap (of_desk new.number) held) ∙ all ∙ answered);
  };
}

-- sums of equal numbers
sum_by-same : {A : Type 0} (f g : A → ℕ) (xs : List A) → ((k : ℕ) (x : A) → slice_get xs k ≡ Some x → f x ≡ g x)
    → sum_by f xs ≡ sum_by g xs
sum_by-same f g xs same =
    omega (
      arith,
      sum_by-each-le f g xs (λ k x at. let is = same k x at in omega (arith, is)),
      sum_by-each-le g f xs (λ k x at. let is = same k x at in omega (arith, is)),
    )

-- the desks' numbers, and what records asked of each
numbered : {N : Type 0} {O : office_name.Ghosts N} (records : Option (List Fields)) (journal : List Step) (desks : List (Desk N O))
    → All (λ d. ∥ HasFiledInTurn records d ∥₁) desks
    → ((place : ℕ) (desk : Desk N O) → slice_get desks place ≡ Some desk → desk.answered ≡ of_desk desk.number journal)
    → BeginsWithAll (λ d. d.history) desks journal
    → (place number : ℕ) → slice_get (map (λ d. d.number) desks) place ≡ Some number
    → ∥ AreAskedInTurn records number (commands_at number journal) ∥₁
numbered records journal [] filed counted begins place number at = absurd (cc at)
numbered {N} {O} records journal (desk ∷ more) filed counted begins zero number at =
    let same : desk.number ≡ number = cc at in
    let mine : ∥ HasFiledInTurn records desk ∥₁ = All-head (λ (d : Desk N O). ∥ HasFiledInTurn records d ∥₁) desk more filed in
    subst (λ n. ∥ AreAskedInTurn records n (commands_at n journal) ∥₁) same
    (∥∥₁_map mine
    (λ (has : HasFiledInTurn records desk).
    let is : commands_at desk.number journal ≡ has.1.commands =
    shown desk journal has.1.commands has.1.filed (begins 0 desk refl) (sym (counted 0 desk refl)) in
    (has.0, subst (AreAskedBelow records has.0 desk.number) (sym is) has.1.asked)))
numbered {N} {O} records journal (desk ∷ more) filed counted begins (suc place) number at =
    numbered records journal more (All-tail (λ (d : Desk N O). ∥ HasFiledInTurn records d ∥₁) desk more filed)
    (λ k d there. counted (suc k) d there) (λ k d there. begins (suc k) d there) place number at

-- a journal that has the steps of desks and no others
pub journal_of_desks : {N : Type 0} {O : office_name.Ghosts N} (records : Option (List Fields)) (journal : List Step) (desks : List (Desk N O))
    → All (λ d. ∥ HasFiledInTurn records d ∥₁) desks → length journal ≡ sum_by (λ d. d.answered) desks
    → ((place : ℕ) (desk : Desk N O) → slice_get desks place ≡ Some desk → desk.answered ≡ of_desk desk.number journal)
    → BeginsWithAll (λ d. d.history) desks journal → Apart (map (λ d. d.number) desks)
    → IsOfDesks records journal (map (λ d. d.number) desks)
journal_of_desks {N} {O} records journal desks filed sum counted begins apart = record {
  apart = apart;
  sum =
      sum ∙ sum_by-same (λ (d : Desk N O). d.answered) (λ (d : Desk N O). of_desk d.number journal) desks counted
      ∙ sym (sum_by-map (λ (d : Desk N O). d.number) (λ number. of_desk number journal) desks);
  in_turn = numbered records journal desks filed counted begins;
}
