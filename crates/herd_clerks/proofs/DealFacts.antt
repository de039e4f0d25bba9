-- What is left of a turn, and what falls to all desks together.
use Rattle.std.proofs.Common.{◌≡◌, ◌∙◌, ℕ, zero, suc, ◌+◌, ◌-◌, ◌≤◌, ◌==◌, false, List, [], ◌∷◌, ◌++◌, All, ap, append_assoc, arith, drop, length, map, set, slice_get, Some, refl, subst, sym}
use Rattle.std.specs.List.{range_with_len, sum_by}
use Rattle.std.proofs.lemmas.Bool.Decides.{nat_tests}
use Rattle.std.proofs.lemmas.Grind.{common_steps}
use Rattle.std.proofs.lemmas.List.Elements.{All-cons, All-nil}
use Rattle.std.proofs.lemmas.List.Sums.{sum_by-cons}
use Rattle.herd_register.specs.declared.command.Command.{Command}
use Rattle.herd_register.specs.declared.step.Step.{Step}
use Rattle.herd_office.specs.Beginnings.{BeginsWithAll}
use Rattle.herd_office.specs.Histories.{of_desk}
use Rattle.herd_office.specs.Opening.{AreFresh}
use Rattle.herd_office.specs.declared.desk.Desk.{Desk}
use Rattle.herd_office.specs.declared.name.OfficeName as office_name
pub use Rattle.herd_office.proofs.FiledFacts.{filed_more, filed_none, shown}
use Rattle.herd_clerks.specs.Deal.{HasBegun, HasFiled, commands_at, dealt, dealt_first, every}
use Rattle.herd_clerks.specs.Summary.{count_of}
use Rattle.herd_clerks.specs.declared.deal.Deal.{Deal}
use Rattle.herd_clerks.specs.declared.summary.DeskCount.{DeskCount}
use Rattle.herd_clerks.proofs.Lists.{range_sum, up_to, up_to-first, up_to-nothing, up_to-plus, up_to-same}

-- ---- turns

-- what is left out may be dropped first
pub every-drop : (step out : ℕ) (commands : List Command) → every step out commands ≡ every step 0 (drop out commands)
every-drop step zero commands = refl
every-drop step (suc out) [] = refl
every-drop step (suc out) (command ∷ more) = every-drop step out more

-- a turn goes on with the command at a place, and then as many places further on
pub every-next : (step place : ℕ) (commands : List Command) (command : Command) → 1 ≤ step → slice_get commands place ≡ Some command
    → every step 0 (drop place commands) ≡ command ∷ every step 0 (drop (place + step) commands)
every-next zero place commands command some is = absurd (omega (arith, some))
every-next (suc less) zero [] command some is = absurd (cc is)
every-next (suc less) zero (first ∷ more) command some is =
    let same : first ≡ command = cc is in
    let minus : suc less - 1 ≡ less = omega arith in
    let plus : suc less ≡ 0 + suc less = omega arith in
    ap (λ n. first ∷ every (suc less) n more) minus ∙ ap (λ c. c ∷ every (suc less) less more) same
    ∙ ap (λ l. command ∷ l) (every-drop (suc less) less more) ∙ ap (λ n. command ∷ every (suc less) 0 (drop n (first ∷ more))) plus
every-next (suc less) (suc place) [] command some is = absurd (cc is)
every-next (suc less) (suc place) (first ∷ more) command some is =
    let plus : suc (place + suc less) ≡ suc place + suc less = omega arith in
    every-next (suc less) place more command some is ∙ ap (λ n. command ∷ every (suc less) 0 (drop n (first ∷ more))) plus

-- each one in turn is all of them
pub every-one : (commands : List Command) → every 1 0 commands ≡ commands
every-one [] = refl
every-one (command ∷ more) = ap (λ l. command ∷ l) (every-one more)

-- ---- what falls to all desks together

-- turns of all desks have every command once
turns : (desks : ℕ) (rest : List Command) → 1 ≤ desks → up_to (λ k. length (every desks k rest)) desks ≡ length rest
turns desks [] some = up_to-nothing (λ k. length (every desks k [])) (λ k. refl) desks
turns zero (command ∷ more) some = absurd (omega (arith, some))
turns (suc less) (command ∷ more) some =
    let own : length (every (suc less) 0 (command ∷ more)) ≡ length (every (suc less) less more) + 1 =
    let minus : suc less - 1 ≡ less = omega arith in
    omega (arith, ap (λ n. length (every (suc less) n more)) minus) in
    omega (arith, turns (suc less) more some, own, up_to-first (λ k. length (every (suc less) k (command ∷ more))) less)

-- and with the first commands, all of both
pub dealt-all : (desks : ℕ) (first rest : List Command) → 1 ≤ desks
    → sum_by (λ number. length (dealt desks first rest number)) (range_with_len 1 desks) ≡ length first + length rest
dealt-all zero first rest some = absurd (omega (arith, some))
dealt-all (suc less) first rest some =
    let desks = suc less in
    let front : ℕ → ℕ = λ k. length (dealt_first first (1 + k)) in
    let turn : ℕ → ℕ = λ k. length (every desks k rest) in
    let parts : (k : ℕ) → length (dealt desks first rest (1 + k)) ≡ front k + turn k =
    λ k.
    let back : 1 + k - 1 ≡ k = omega arith in
    let both : length (dealt desks first rest (1 + k)) ≡ length (dealt_first first (1 + k)) + length (every desks (1 + k - 1) rest) =
    search (arith, common_steps) in
    both ∙ ap (λ n. front k + length (every desks n rest)) back in
    let later : (k : ℕ) → front (suc k) ≡ 0 =
    λ k. let apart : (1 + suc k == 1) ≡ false = grind (arith, nat_tests) in rw apart refl in
    let fronts : up_to front desks ≡ length first =
    omega (arith, up_to-first front less, up_to-nothing (λ k. front (suc k)) later less) in
    range_sum (λ number. length (dealt desks first rest number)) 1 desks
    ∙ up_to-same (λ k. length (dealt desks first rest (1 + k))) (λ k. front k + turn k) parts desks
    ∙ up_to-plus front turn desks ∙ omega (arith, fronts, turns desks rest some)

-- desks that have filed what fell to them have answered as many calls as fell to all
pub all-counted : {D : Type 0} (number answered : D → ℕ) (fell : ℕ → List Command) (desks : List D)
    → ((place : ℕ) (desk : D) → slice_get desks place ≡ Some desk → answered desk ≡ length (fell (number desk)))
    → sum_by answered desks ≡ sum_by (λ n. length (fell n)) (map number desks)
all-counted number answered fell [] counted = refl
all-counted number answered fell (desk ∷ more) counted =
    omega (
      arith,
      sum_by-cons answered desk more,
      sum_by-cons (λ n. length (fell n)) (number desk) (map number more),
      counted 0 desk refl,
      all-counted number answered fell more (λ k other there. counted (suc k) other there),
    )

-- ---- desks underway

-- what was filed of a turn, and what is left of it
pub record Underway {N : Type 0} {O : office_name.Ghosts N} (desk : Desk N O) (left all : List Command) : Type 0 where
  pub done : List Command
  pub filed : HasFiled desk done
  pub split : done ++ left ≡ all

-- nothing was filed of it yet
pub begun : {N : Type 0} {O : office_name.Ghosts N} (desk : Desk N O) (step out : ℕ) (before commands : List Command) → HasFiled desk before
    → Underway desk (every step 0 (drop out commands)) (before ++ every step out commands)
begun desk step out before commands filed =
    record { done = before; filed = filed; split = ap (λ l. before ++ l) (sym (every-drop step out commands)) }

-- the command at a place was filed
pub gone_on : {N : Type 0} {O : office_name.Ghosts N} (old new : Desk N O) (step place : ℕ) (commands all : List Command) (command : Command)
    → 1 ≤ step → slice_get commands place ≡ Some command → ((before : List Command) → HasFiled old before → HasFiled new (before ++ command ∷ []))
    → Underway old (every step 0 (drop place commands)) all → Underway new (every step 0 (drop (place + step) commands)) all
gone_on old new step place commands all command some is more under =
    record {
      done = under.done ++ command ∷ [];
      filed = more under.done under.filed;
      split =
          append_assoc under.done (command ∷ []) (every step 0 (drop (place + step) commands))
          ∙ ap (λ l. under.done ++ l) (sym (every-next step place commands command some is)) ∙ under.split;
    }

-- desks but the first, at which nothing was filed
others : {N : Type 0} {O : office_name.Ghosts N} (first : List Command) (from : ℕ) (desks : List (Desk N O)) → 2 ≤ from
    → ((place : ℕ) (desk : Desk N O) → slice_get desks place ≡ Some desk
    → (desk.number ≡ place + from) × (desk.answered ≡ 0) × (desk.history ≡ []))
    → All (λ d. HasFiled d (dealt_first first d.number)) desks
others {N} {O} first from [] le fresh = All-nil (λ (d : Desk N O). HasFiled d (dealt_first first d.number))
others {N} {O} first from (desk ∷ more) le fresh =
    let own = fresh 0 desk refl in
    let later : (desk.number == 1) ≡ false = grind (arith, nat_tests, own.0, le) in
    let none : dealt_first first desk.number ≡ [] = rw later refl in
    All-cons (λ (d : Desk N O). HasFiled d (dealt_first first d.number)) desk more
    (subst (HasFiled desk) (sym none) (filed_none desk own.1 own.2))
    (others first (from + 1) more (omega (arith, le)) (λ place d there. let known = fresh (suc place) d there in (omega (arith, known.0), known.1, known.2)))

-- the first desk has filed the first commands, and the others nothing
pub all_begun : {N : Type 0} {O : office_name.Ghosts N} (deal : Deal) (desks : List (Desk N O)) (desk : Desk N O) → AreFresh desks
    → desk.number ≡ 1 → HasFiled desk deal.first.now → All (HasBegun deal) (set desks 0 desk)
all_begun {N} {O} deal [] desk fresh one filed = All-nil (λ (d : Desk N O). HasBegun deal d)
all_begun {N} {O} deal (old ∷ more) desk fresh one filed =
    let all : deal.first.now ≡ dealt_first deal.first.now desk.number = sym (ap (dealt_first deal.first.now) one) in
    All-cons (λ (d : Desk N O). HasBegun deal d) desk more (subst (HasFiled desk) all filed)
    (others deal.first.now 2 more (omega arith)
    (λ place d there. let known = fresh (suc place) d there in (omega (arith, known.0), known.1, known.2)))

-- in the journal of a closed office each desk has the steps of what it has filed
pub each-dealt : {N : Type 0} {O : office_name.Ghosts N} (fell : ℕ → List Command) (journal : List Step) (desks : List (Desk N O))
    → ((place : ℕ) (desk : Desk N O) → slice_get desks place ≡ Some desk → HasFiled desk (fell desk.number))
    → ((place : ℕ) (desk : Desk N O) → slice_get desks place ≡ Some desk → desk.answered ≡ of_desk desk.number journal)
    → BeginsWithAll (λ d. d.history) desks journal
    → (place : ℕ) (count : DeskCount) → slice_get (map (λ d. count_of d.number d.answered) desks) place ≡ Some count
    → commands_at count.number journal ≡ fell count.number
each-dealt fell journal [] filed counted begins place count is = absurd cc
each-dealt fell journal (desk ∷ more) filed counted begins zero count is =
    let same : count_of desk.number desk.answered ≡ count = cc in
    subst (λ (c : DeskCount). commands_at c.number journal ≡ fell c.number) same
    (shown desk journal (fell desk.number) (filed 0 desk refl) (begins 0 desk refl) (sym (counted 0 desk refl)))
each-dealt fell journal (desk ∷ more) filed counted begins (suc place) count is =
    each-dealt fell journal more (λ k d there. filed (suc k) d there) (λ k d there. counted (suc k) d there)
    (λ k d there. begins (suc k) d there) place count is
