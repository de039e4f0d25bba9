-- Animals that are named by ranks: those of parents are below those of their offspring, so the ancestry is lawful.
use Rattle.std.proofs.Common.{ℕ, zero, suc, ◌+◌, ◌<◌, ◌≡◌, inl, inr, ⊎_elim, false, eqb, Option, arith, refl, sym, Contains, ◌∙◌, subst}
use Rattle.std.specs.List.{range_with_len, count_by, IsDistinct, AllByRecursion}
use Rattle.std.proofs.lemmas.Bool.{eqb-true, eq-eqb, ne_eqb, ltb-true, lt-ltb, cases_order}
use Rattle.std.proofs.lemmas.List.FromFn.{length-range_with_len, get_or-range_with_len}
use Rattle.herd_kinship.specs.Ancestry.{IsParentIn}
use Rattle.herd_kinship.specs.Ranks.{ranks}
use Rattle.herd_kinship.proofs.lemmas.ancestry.LawfulAncestry.{IsLawful}
use Rattle.herd_kinship.proofs.lemmas.Lists.{count-one}

-- parents stand below their offspring
pub record AreRanked (n : ℕ) (sire dam : ℕ → Option ℕ) : Type 0 where
  pub below : (i p : ℕ) → i < n → IsParentIn (ranks n sire dam) p i → p < i

-- the ranks are the numbers below n
pub rank-below : (n i : ℕ) → Contains (range_with_len 0 n) i → i < n
rank-below n i c =
    let short : c.0 < n = subst (λ m. c.0 < m) (length-range_with_len 0 n) c.1 in
    let at = get_or-range_with_len 0 n c.0 i short in
    let is : i ≡ 0 + c.0 = sym c.2 ∙ at in
    omega arith

pub rank-in : (n i : ℕ) → i < n → Contains (range_with_len 0 n) i
rank-in n i l = (i, rw (length-range_with_len 0 n) l, get_or-range_with_len 0 n i i l ∙ omega arith)

above_all : (a b n : ℕ) → a < b → AllByRecursion (λ y. eqb a y ≡ false) (range_with_len b n)
above_all a b zero l = tt
above_all a b (suc n) l = (ne_eqb a b (λ e. omega arith), above_all a (b + 1) n (omega arith))

distinct : (a n : ℕ) → IsDistinct eqb (range_with_len a n)
unfolding IsDistinct
distinct a zero = tt
distinct a (suc n) = (above_all a (a + 1) n (omega arith), distinct (a + 1) n)

pub rank-once : (n i : ℕ) → i < n → count_by (eqb i) (range_with_len 0 n) ≡ 1
rank-once n i l = count-one eqb eqb-true (λ z. eq-eqb z z refl) i (range_with_len 0 n) (distinct 0 n) (rank-in n i l)

pub ranks-are_lawful : (n : ℕ) (sire dam : ℕ → Option ℕ) → AreRanked n sire dam → IsLawful (ranks n sire dam)
ranks-are_lawful n sire dam w = record {
  same = λ x y. (eqb-true x y, eq-eqb x y);
  once = λ x c. rank-once n x (rank-below n x c);
  one_way = λ x y t u. let a = ltb-true x y t in let b = ltb-true y x u in omega arith;
  chain = λ x y z t u. let a = ltb-true x y t in let b = ltb-true y z u in lt-ltb x z (omega arith);
  total = λ x y _ _.
      ⊎_elim (λ e. inl e) (⊎_elim (λ l. inr (inl (lt-ltb x y l))) (λ l. inr (inr (lt-ltb y x l)))) (cases_order x y);
  parents = λ p x c is.
      let below : p < x = w.below x p (rank-below n x c) is in
      let end : x < n = rank-below n x c in
      (rank-in n p (omega arith), lt-ltb p x below);
}
