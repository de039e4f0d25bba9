-- Desks that are handed in, their numbers, and what their counts add up to.
use Rattle.std.proofs.Common.{◌≡◌, ◌∙◌, ℕ, zero, suc, ◌+◌, ◌<◌, List, [], ◌∷◌, ◌++◌, ap, append_assoc, le_antisymm, le_trans, length, map, slice_get, Some, refl, subst, sym}
use Rattle.std.specs.List.{range_with_len}
use Rattle.std.specs.Prelude.{sum_by}
use Rattle.std.proofs.lemmas.List.{map-append}
use Rattle.std.proofs.lemmas.List.Folds.{fold-map}
use borrow.Author.Count.{below_more}
use mathlib.Core.List.{IsPrefix, map-map}
use Rattle.herd_register.specs.Register.{Register}
use Rattle.herd_register.specs.Run.{IsLegal, commands_of, run_book}
use Rattle.herd_register.specs.Limits.{Limits}
use Rattle.herd_register.specs.declared.step.Step.{Step}
use Rattle.herd_office.specs.Beginnings.{BeginsWithAll}
use Rattle.herd_office.specs.Histories.{Apart, of_desk}
use Rattle.herd_office.specs.declared.desk.Desk.{Desk}
use Rattle.herd_office.specs.declared.name.OfficeName as office_name
use Rattle.herd_clerks.specs.Deal.{HasDone, dealt}
use Rattle.herd_clerks.specs.Summary.{CountsOf, IsSummaryOfDeal, count_of}
use Rattle.herd_clerks.specs.declared.deal.Deal.{Deal}
use Rattle.herd_clerks.specs.declared.summary.DeskCount.{DeskCount}
use Rattle.herd_clerks.specs.declared.summary.Summary.{Summary}
use Rattle.herd_office.proofs.Counting.{apart_range, none_missed}
use Rattle.herd_office.proofs.Fronts.{prefix_length, prefix_trans}
use Rattle.herd_office.proofs.Stored.{of_desk_prefix}
use Rattle.herd_clerks.proofs.DealFacts.{all-counted, dealt-all, each-dealt}

-- the counts add up as the desks do
pub sum-counts : {D : Type 0} (number answered : D → ℕ) (desks : List D)
    → sum_by (λ (c : DeskCount). c.answered) (map (λ d. count_of (number d) (answered d)) desks) ≡ sum_by answered desks
sum-counts number answered desks = fold-map (λ (a : ℕ) (c : DeskCount). a + c.answered) (λ d. count_of (number d) (answered d)) 0 desks

-- what is known of each desk is known of its count
pub each-count : {D : Type 0} (number answered : D → ℕ) (journal : List Step) (desks : List D)
    → ((place : ℕ) (desk : D) → slice_get desks place ≡ Some desk → answered desk ≡ of_desk (number desk) journal)
    → (place : ℕ) (count : DeskCount) → slice_get (map (λ d. count_of (number d) (answered d)) desks) place ≡ Some count → count.answered ≡ of_desk count.number journal
each-count number answered journal [] known place count is = absurd cc
each-count number answered journal (desk ∷ more) known zero count is =
    let same : count_of (number desk) (answered desk) ≡ count = cc in
    subst (λ (c : DeskCount). c.answered ≡ of_desk c.number journal) same (known 0 desk refl)
each-count number answered journal (desk ∷ more) known (suc place) count is =
    each-count number answered journal more (λ k d there. known (suc k) d there) place count is

-- desks' counts have the desks' numbers
pub numbers-counts : {D : Type 0} (number answered : D → ℕ) (desks : List D)
    → map (λ (c : DeskCount). c.number) (map (λ d. count_of (number d) (answered d)) desks) ≡ map number desks
numbers-counts number answered desks = map-map (λ (c : DeskCount). c.number) (λ d. count_of (number d) (answered d)) desks

-- what is handed over goes from the one list to the other, with its number
pub handed_over : {C S : Type 0} (f : C → ℕ) (g : S → ℕ) (done done′ : List C) (left left′ : List S) (came : C) (next : S) (all : List ℕ)
    → done′ ≡ done ++ came ∷ [] → left ≡ next ∷ left′ → f came ≡ g next → map f done ++ map g left ≡ all → map f done′ ++ map g left′ ≡ all
handed_over f g done done′ left left′ came next all joined taken same was =
    ap (λ l. map f l ++ map g left′) joined ∙ ap (λ l. l ++ map g left′) (map-append f done (came ∷ []))
    ∙ append_assoc (map f done) (f came ∷ []) (map g left′) ∙ ap (λ n. map f done ++ n ∷ map g left′) same
    ∙ ap (λ l. map f done ++ map g l) (sym taken) ∙ was

-- who knew the histories of the desks before a place, and learns that of the desk at the place
pub learnt_more : {D : Type 0} (history_of : D → List Step) (desks : List D) (place : ℕ) (desk : D) (old new : List Step)
    → slice_get desks place ≡ Some desk → IsPrefix old new → IsPrefix (history_of desk) new
    → ((k : ℕ) (d : D) → k < place → slice_get desks k ≡ Some d → IsPrefix (history_of d) old)
    → (k : ℕ) (d : D) → k < place + 1 → slice_get desks k ≡ Some d → IsPrefix (history_of d) new
learnt_more {D} history_of desks place desk old new there longer mine before k d less at =
    below_more (λ (j : ℕ). (e : D) → slice_get desks j ≡ Some e → IsPrefix (history_of e) new) place
    (λ j l e is. prefix_trans (history_of e) old new (before j e l is) longer)
    (λ e is. let same : desk ≡ e = cc (there, is) in subst (λ (x : D). IsPrefix (history_of x) new) same mine) k less d at

-- who learnt the histories of all desks, and holds a beginning of the journal to which their counts add up, has seen
-- every step
pub seen_whole : {N : Type 0} {O : office_name.Ghosts N} (desks : List (Desk N O)) (count : ℕ) (journal seen : List Step)
    → map (λ d. d.number) desks ≡ range_with_len 1 count → length journal ≡ sum_by (λ d. d.answered) desks
    → BeginsWithAll (λ d. d.history) desks seen → IsPrefix seen journal → length seen ≡ length journal
seen_whole {N} {O} desks count journal seen numbers sum learnt begins =
    let number : Desk N O → ℕ = λ d. d.number in
    let apart : Apart (map number desks) = subst Apart (sym numbers) (apart_range 1 count) in
    le_antisymm (prefix_length seen journal begins)
    (none_missed number (λ d. d.answered) desks journal seen apart
    (λ place desk there. le_trans desk.stored (of_desk_prefix desk.number desk.history seen (learnt place desk there))) sum)

-- a register whose journal has what each desk filed, counted desk by desk, is summed up
pub summed_up : {N : Type 0} {O : office_name.Ghosts N} (all : List (Desk N O)) (limits : Limits) (deal : Deal) (register : Register) (summary : Summary)
    → map (λ d. d.number) all ≡ range_with_len 1 deal.desks
    → ((place : ℕ) (desk : Desk N O) → slice_get all place ≡ Some desk → HasDone deal desk)
    → register.limits ≡ limits → IsLegal register.limits register.journal → length register.journal ≡ sum_by (λ d. d.answered) all
    → ((place : ℕ) (desk : Desk N O) → slice_get all place ≡ Some desk → desk.answered ≡ of_desk desk.number register.journal)
    → BeginsWithAll (λ d. d.history) all register.journal → CountsOf register (map (λ d. count_of d.number d.answered) all) summary
    → IsSummaryOfDeal limits deal summary
summed_up {N} {O} all limits deal register summary numbers filed same legal sum each begins counts =
    let number : Desk N O → ℕ = λ d. d.number in
    let answered : Desk N O → ℕ = λ d. d.answered in
    let fell = dealt deal.desks deal.first.now deal.rest.now in
    let journal = register.journal in
    let as_many : length journal ≡ length deal.first.now + length deal.rest.now =
    sum ∙ all-counted number answered fell all (λ place desk there. (filed place desk there).counted)
    ∙ ap (sum_by (λ n. length (fell n))) numbers ∙ dealt-all deal.desks deal.first.now deal.rest.now deal.some in
    record {
      journal = journal;
      legal = subst (λ (l : Limits). IsLegal l journal) same legal;
      steps_are = counts.steps_are;
      as_many = counts.steps_are ∙ as_many;
      numbers_are = ap (map (λ d. d.number)) counts.desks_are ∙ numbers-counts number answered all ∙ numbers;
      sum_is = ap (sum_by (λ d. d.answered)) counts.desks_are ∙ sum-counts number answered all ∙ sym sum ∙ sym counts.steps_are;
      each_is = rw counts.desks_are (each-count number answered journal all each);
      dealt_are = rw counts.desks_are (each-dealt fell journal all filed each begins);
      animals_are = subst (λ (l : Limits). summary.animals ≡ length (run_book l (commands_of journal))) same counts.animals_are;
      all_seen = counts.all_seen;
    }
