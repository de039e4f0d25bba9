-- Lists of calves with their coefficients: how they grow, and what stands in a list of numerators once they are written.
use Rattle.std.proofs.Common.{ℕ, ◌+◌, ◌<◌, ◌≡◌, ◌≢◌, ◌++◌, [], ◌⊎◌, inl, inr, ⊎_elim, List, length, get_or, map, set, take, arith, refl, sym, ◌∙◌, ap, subst}
use Rattle.std.specs.List.{All, AllPairs, Any}
use Rattle.std.proofs.lemmas.Bool.{cases_eq}
use Rattle.std.proofs.lemmas.List.{get_or-map, get_or-set_other, get_or-set_same, length-map}
use Rattle.std.proofs.lemmas.List.Elements.{All-append, All-contains, All-map, All-more, All-same, All-weaker}
use Rattle.std.proofs.lemmas.Option.{same_Some}
use Rattle.herd_lineage.specs.Lineage.{sire_rank}
use Rattle.herd_kinship.proofs.lemmas.Lists.{any-left, any-right, pairs-append, pairs-map}
use Rattle.herd_lineage.specs.declared.lineage.Parents.{Parents}
use Rattle.herd_kinship.specs.CalfCoefficients.{AreCalvesWith, GoesOnWith, HasWritten, HaveValues, IsCalfWith, Keeps}
use Rattle.herd_kinship.specs.CalfLinks.{calves_of_sire, IsCalf}
use Rattle.herd_kinship.specs.declared.calves.CalfCoefficient.{CalfCoefficient}
use Rattle.herd_kinship.proofs.lemmas.sires.CalfFacts.{calf-within}
use Rattle.herd_kinship.proofs.lemmas.sires.CalvesBelow.{below-all, below-descending, below-each}

module _ (rows : List Parents) where
  -- other sires without calves, or fewer of them
  pub calves-same : (P Q : ℕ → Type 0) (f : ℕ → ℕ) (calves : List CalfCoefficient) → ((s : ℕ) → P s → Q s) → ((s x : ℕ) → Q s → IsCalf rows s x → P s) →
      AreCalvesWith rows P f calves → AreCalvesWith rows Q f calves
  calves-same P Q f calves more less are = record {
    each = All-weaker (IsCalfWith rows P f) (IsCalfWith rows Q f) (λ calf is. record { sire = is.sire; of_these = more is.sire is.of_these; is_calf = is.is_calf; value = is.value }) calves are.each;
    once = are.once;
    all = λ s x is calf. are.all s x (less s x is calf) calf;
  }

  -- the calves of no sire
  pub calves-none : (P : ℕ → Type 0) (f : ℕ → ℕ) → ((s x : ℕ) → P s → IsCalf rows s x → ⊥) → AreCalvesWith rows P f []
  calves-none P f none = record {
    each = λ k d low. absurd (omega (arith, low));
    once = λ i j d before low. absurd (omega (arith, low));
    all = λ s x is calf. absurd (none s x is calf);
  }

  -- calves of different sires are different
  calves-apart : (P N : ℕ → Type 0) (f : ℕ → ℕ) → ((s : ℕ) → P s → N s → ⊥) → (calf later : CalfCoefficient) → IsCalfWith rows P f calf → IsCalfWith rows N f later → calf.rank ≢ later.rank
  calves-apart P N f apart calf later is is' same =
      let sires : is.sire ≡ is'.sire = same_Some _ _ (sym is.is_calf.0 ∙ ap (sire_rank rows) same ∙ is'.is_calf.0) in
      apart is'.sire (subst P sires is.of_these) is'.of_these

  -- the calves of further sires
  pub calves-more : (P N Q : ℕ → Type 0) (f : ℕ → ℕ) (old new : List CalfCoefficient) → ((s : ℕ) → P s → Q s) → ((s : ℕ) → N s → Q s) → ((s : ℕ) → Q s → P s ⊎ N s) → ((s : ℕ) → P s → N s → ⊥) →
      AreCalvesWith rows P f old → GoesOnWith rows N f old new → AreCalvesWith rows Q f new
  calves-more P N Q f old new first second either apart are on = record {
    each =
        All-same (IsCalfWith rows Q f) new (old ++ on.more) on.appended
        (All-append (IsCalfWith rows Q f) old on.more
        (All-weaker (IsCalfWith rows P f) (IsCalfWith rows Q f) (λ calf is. record { sire = is.sire; of_these = first is.sire is.of_these; is_calf = is.is_calf; value = is.value }) old are.each)
        (All-weaker (IsCalfWith rows N f) (IsCalfWith rows Q f) (λ calf is. record { sire = is.sire; of_these = second is.sire is.of_these; is_calf = is.is_calf; value = is.value }) on.more on.calves.each));
    once =
        subst (AllPairs (λ calf later. calf.rank ≢ later.rank)) (sym on.appended)
        (pairs-append (λ calf later. calf.rank ≢ later.rank) old on.more are.once on.calves.once
        (λ i j d low within. calves-apart P N f apart (get_or old i d) (get_or on.more j d) (are.each i d low) (on.calves.each j d within)));
    all = λ s x is calf.
        subst (λ xs. Any (λ c. c.rank ≡ x) xs) (sym on.appended)
        (⊎_elim (λ (before : P s). any-left (λ c. c.rank ≡ x) old on.more (are.all s x before calf)) (λ (now : N s). any-right (λ c. c.rank ≡ x) old on.more (on.calves.all s x now calf))
        (either s is));
  }

  -- those of an empty list that goes on
  pub calves-alone : (N : ℕ → Type 0) (f : ℕ → ℕ) (old new : List CalfCoefficient) → old ≡ [] → GoesOnWith rows N f old new → AreCalvesWith rows N f new
  calves-alone N f old new none on = subst (λ xs. AreCalvesWith rows N f xs) (sym (on.appended ∙ ap (λ (xs : List CalfCoefficient). xs ++ on.more) none)) on.calves

  -- each stands at a rank of the lineage
  pub calves-within : (P : ℕ → Type 0) (f : ℕ → ℕ) (calves : List CalfCoefficient) → AreCalvesWith rows P f calves → All (λ calf. calf.rank < length rows) calves
  calves-within P f calves are = All-weaker (IsCalfWith rows P f) (λ calf. calf.rank < length rows) (λ calf is. calf-within rows is.sire calf.rank is.is_calf) calves are.each

  -- each has f of its rank
  pub calves-values : (P : ℕ → Type 0) (f : ℕ → ℕ) (calves : List CalfCoefficient) → AreCalvesWith rows P f calves → HaveValues f calves
  calves-values P f calves are = All-weaker (IsCalfWith rows P f) (λ calf. calf.numerator ≡ f calf.rank) (λ calf is. is.value) calves are.each

  -- once they are written, each calf of these sires has f of its rank
  pub calves-written : (P : ℕ → Type 0) (f : ℕ → ℕ) (calves : List CalfCoefficient) (old new : List ℕ) → AreCalvesWith rows P f calves → HasWritten f calves old new →
      (s x : ℕ) → P s → IsCalf rows s x → get_or new x 0 ≡ f x
  calves-written P f calves old new are has s x is calf =
      let at = are.all s x is calf in
      subst (λ v. get_or new v 0 ≡ f v) at.4 (subst (λ (c : CalfCoefficient). get_or new c.rank 0 ≡ f c.rank) at.3 (has.written at.0 at.1 at.2))

-- all calves of s, each made of its rank, go on a list
pub goes-on : (rows : List Parents) (s : ℕ) (f : ℕ → ℕ) (make : ℕ → CalfCoefficient) (old new : List CalfCoefficient) → ((x : ℕ) → (make x).rank ≡ x) → ((x : ℕ) → IsCalf rows s x → (make x).numerator ≡ f x) →
    new ≡ old ++ map make (calves_of_sire rows s) → GoesOnWith rows (λ t. t ≡ s) f old new
goes-on rows s f make old new rank value push =
    let calves = calves_of_sire rows s in
    let made : All (λ x. Any (λ c. c.rank ≡ x) (map make calves)) calves = λ k d low.
    (k, make (get_or calves k d), let long = length-map calves make in omega (arith, low), get_or-map make calves k d (make (get_or calves k d)) low, rank (get_or calves k d)) in
    record {
      more = map make calves;
      appended = push;
      calves = record {
        each =
            All-map (IsCalfWith rows (λ t. t ≡ s) f) make calves
            (All-weaker (IsCalf rows s) (λ x. IsCalfWith rows (λ t. t ≡ s) f (make x))
            (λ x calf. record { sire = s; of_these = refl; is_calf = subst (IsCalf rows s) (sym (rank x)) calf; value = value x calf ∙ ap f (sym (rank x)) }) calves (below-each rows s (length rows)));
        once =
            pairs-map (λ x y. y < x) (λ calf later. calf.rank ≢ later.rank) make
            (λ x y low same. let is : x ≡ y = sym (rank x) ∙ same ∙ rank y in absurd (omega (arith, low, is))) calves (below-descending rows s (length rows));
        all = λ t x is calf.
            let mine : IsCalf rows s x = subst (λ v. IsCalf rows v x) is calf in
            All-contains (λ v. Any (λ c. c.rank ≡ v) (map make calves)) calves x made (below-all rows s (length rows) x (calf-within rows s x mine) mine);
      };
    }

-- a write of f at one rank
pub set-kept : (f : ℕ → ℕ) (known : List ℕ) (rank value : ℕ) → value ≡ f rank → rank < length known → Keeps f known (set known rank value)
set-kept f known rank value is below p =
    ⊎_elim (λ (e : p ≡ rank). inr (ap (λ v. get_or (set known rank value) v 0) e ∙ get_or-set_same known rank value 0 below ∙ is ∙ ap f (sym e)))
    (λ (ne : p ≡ rank → ⊥). inl (get_or-set_other known rank p value 0 ne)) (cases_eq p rank)

-- where f stands, it stays
pub kept-stays : (f : ℕ → ℕ) (old new : List ℕ) → Keeps f old new → (p : ℕ) → get_or old p 0 ≡ f p → get_or new p 0 ≡ f p
kept-stays f old new kept p at = ⊎_elim (λ (same : get_or new p 0 ≡ get_or old p 0). same ∙ at) (λ (there : get_or new p 0 ≡ f p). there) (kept p)

-- one write after another
pub kept-then : (f : ℕ → ℕ) (old known new : List ℕ) → Keeps f old known → Keeps f known new → Keeps f old new
kept-then f old known new first then p =
    ⊎_elim (λ (same : get_or new p 0 ≡ get_or known p 0).
    ⊎_elim (λ (s : get_or known p 0 ≡ get_or old p 0). inl (same ∙ s)) (λ (t : get_or known p 0 ≡ f p). inr (same ∙ t)) (first p))
    (λ (there : get_or new p 0 ≡ f p). inr there) (then p)

-- one calf more is written
pub written-next : (f : ℕ → ℕ) (calves : List CalfCoefficient) (i : ℕ) (d : CalfCoefficient) (old known : List ℕ) → i < length calves → (get_or calves i d).rank < length known →
    HaveValues f calves → HasWritten f (take i calves) old known → HasWritten f (take (i + 1) calves) old (set known (get_or calves i d).rank (get_or calves i d).numerator)
written-next f calves i d old known low below values was =
    let rank : ℕ = (get_or calves i d).rank in
    let numerator : ℕ = (get_or calves i d).numerator in
    let now = set known rank numerator in
    let value : numerator ≡ f rank = values i d low in
    let step = set-kept f known rank numerator value below in
    record {
      kept = kept-then f old known now was.kept step;
      written =
          All-more (λ c. get_or now c.rank 0 ≡ f c.rank) calves i d low
          (All-weaker (λ c. get_or known c.rank 0 ≡ f c.rank) (λ c. get_or now c.rank 0 ≡ f c.rank)
          (λ c stood. kept-stays f known now step c.rank stood) (take i calves) was.written)
          (get_or-set_same known rank numerator 0 below ∙ value);
    }
