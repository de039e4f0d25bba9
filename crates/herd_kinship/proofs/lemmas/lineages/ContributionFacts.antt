-- Henderson's contributions by their values: 1 over the Mendelian sampling variance, minus half of it, and a quarter.
use Rattle.std.proofs.Common.{ℕ, suc, ◌*◌, ◌-◌, ◌^◌, ◌<◌, ◌≤◌, ◌≡◌, inl, inr, ⊎_elim, List, [], ◌∷◌, length, slice_get, Some, None, Option, All, max, min, map, true, false, Bool, cond, eqb, arith, refl, sym, ap, subst, ◌∙◌}
use Rattle.std.specs.Int.{IsGcd}
use Rattle.std.specs.Prelude.{ℤ, pos, negsuc, ◌*ℤ◌}
use Rattle.std.proofs.Math.Nat.{pow-succ'}
use Rattle.std.proofs.Math.Pow.{pow-lt}
use Rattle.std.proofs.lemmas.Bool.{both_ways, cases_lt, eq-eqb, eqb-true, ne_eqb}
use Rattle.std.proofs.lemmas.List.Elements.{All-cons, All-nil}
use Rattle.herd_lineage.specs.declared.lineage.Parents.{Parents}
use Rattle.herd_lineage.specs.Lineage.{IsLineage, dam_rank, sire_rank}
use Rattle.herd_kinship.specs.declared.contribution.Contributions.{Contributions}
use Rattle.herd_kinship.specs.declared.contribution.Contribution.{Contribution}
use Rattle.herd_kinship.specs.declared.fractions.Fraction.{Fraction}
use Rattle.herd_kinship.specs.Ancestry.{Ancestry, IsParentIn}
use Rattle.herd_kinship.specs.Contributions.{contribution_at, contributions_of, crossed, filled, Lists, pairs_of, quarters_of, selfed, weighted}
use Rattle.herd_kinship.specs.Fraction.{halved}
use Rattle.herd_kinship.specs.InverseRows.{half_row, is_it}
use Rattle.herd_kinship.specs.Ranks.{ranked}
use Rattle.herd_kinship.specs.Table.{mendelian}
use Rattle.herd_kinship.proofs.lemmas.ancestry.LawfulAncestry.{IsLawful}
use Rattle.herd_kinship.proofs.lemmas.lineages.LineageFacts.{ranked-lawful}
use Rattle.herd_kinship.proofs.lemmas.lineages.Ranks.{rank-in}
use Rattle.herd_kinship.proofs.lemmas.numbers.FractionFacts.{halved-lowest}
use Rattle.herd_kinship.proofs.lemmas.lineages.LineageFacts.{ranked-bounded}
use Rattle.herd_kinship.proofs.lemmas.ancestry.Shares.{apart_back}

-- 2 at the animal itself
row-itself : {A : Type 0} (kin : Ancestry A) → IsLawful kin → (x : A) → half_row kin x x ≡ pos 2
unfolding half_row
row-itself kin w x = rw ((w.same x x).1 refl) refl

-- -1 at a parent, and -2 where it is both
row-sire : {A : Type 0} (kin : Ancestry A) → IsLawful kin → (x p : A) → kin.sire x ≡ Some p → is_it kin (kin.dam x) p ≡ false → kin.same x p ≡ false → half_row kin x p ≡ negsuc 0
unfolding half_row
row-sire kin w x p e other apart = rw (apart, other, e, (w.same p p).1 refl) refl

row-dam : {A : Type 0} (kin : Ancestry A) → IsLawful kin → (x p : A) → kin.dam x ≡ Some p → is_it kin (kin.sire x) p ≡ false → kin.same x p ≡ false → half_row kin x p ≡ negsuc 0
unfolding half_row
row-dam kin w x p e other apart = rw (apart, other, e, (w.same p p).1 refl) refl

row-both : {A : Type 0} (kin : Ancestry A) → IsLawful kin → (x p : A) → kin.sire x ≡ Some p → kin.dam x ≡ Some p → kin.same x p ≡ false → half_row kin x p ≡ negsuc 1
unfolding half_row
row-both kin w x p e d apart = rw (apart, e, d, (w.same p p).1 refl) refl

-- the fraction is in lowest terms
abbrev pub Low : Fraction → Type 0
Low f = IsGcd f.numerator f.denominator 1

all_six : (P : Contribution → Type 0) (a b c d e f : Contribution) → P a → P b → P c → P d → P e → P f → All P (a ∷ b ∷ c ∷ d ∷ e ∷ f ∷ [])
all_six P a b c d e f pa pb pc pd pe pf =
    All-cons P a (b ∷ c ∷ d ∷ e ∷ f ∷ []) pa (All-cons P b (c ∷ d ∷ e ∷ f ∷ []) pb (All-cons P c (d ∷ e ∷ f ∷ []) pc
    (All-cons P d (e ∷ f ∷ []) pd (All-cons P e (f ∷ []) pe (All-cons P f [] pf (All-nil P))))))

filled-low : (b : Bool) (xs ys : List Contribution) → All (λ one. Low one.value) (filled xs) → All (λ one. Low one.value) (filled ys) → All (λ one. Low one.value) (filled (cond b xs ys))
filled-low true xs ys lx ly = lx
filled-low false xs ys lx ly = ly

weighted-low : (a h q v : Fraction) → Low a → Low h → Low q → Low v → (i : ℕ) (s d : Option ℕ) → All (λ one. Low one.value) (filled (weighted a h q v i s d))
weighted-low a h q v la lh lq lv i None None =
    all_six (λ one. Low one.value) _ _ _ _ _ _ la la la la la la
weighted-low a h q v la lh lq lv i (Some s) None =
    all_six (λ one. Low one.value) _ _ _ _ _ _ la lh lq la la la
weighted-low a h q v la lh lq lv i None (Some d) =
    all_six (λ one. Low one.value) _ _ _ _ _ _ la lh lq la la la
weighted-low a h q v la lh lq lv i (Some s) (Some d) =
    filled-low (eqb s d) (selfed a v i s) (crossed a h q i s d)
    (all_six (λ one. Low one.value) _ _ _ _ _ _ la lv la la la la)
    (all_six (λ one. Low one.value) _ _ _ _ _ _ la lh lh lq lq lq)

quarters : (k : ℕ) → (4 * 2 ^ k ≡ 2 ^ suc (suc k)) × (2 * 2 ^ k ≡ 2 ^ suc k)
quarters k = (let a = pow-succ' 2 k in let b = pow-succ' 2 (suc k) in (omega (arith, a, b), omega (arith, a)))

-- a value at a row and a column
abbrev ranked_value : ℕ → ℕ → Fraction → Contribution
ranked_value p q value = record { row = p; column = q; value = value }

-- quarters of 1 over a Mendelian sampling variance, counted 4, 2 and 1
module _ (l : ℕ) (positive : 0 < l) (m : ℕ) where
  quarters-four : quarters_of l m (pos 4) ≡ halved false (2 ^ (2 * l)) m
  quarters-four =
      let e : 2 * l ≡ suc (suc (2 * l - 2)) = omega arith in
      ap (λ n. halved false n m) ((quarters (2 * l - 2)).0 ∙ ap (λ k. 2 ^ k) (sym e))

  quarters-minus_four : quarters_of l m (negsuc 3) ≡ halved true (2 ^ (2 * l)) m
  quarters-minus_four =
      let e : 2 * l ≡ suc (suc (2 * l - 2)) = omega arith in
      ap (λ n. halved true n m) ((quarters (2 * l - 2)).0 ∙ ap (λ k. 2 ^ k) (sym e))

  quarters-minus_two : quarters_of l m (negsuc 1) ≡ halved true (2 ^ (2 * l - 1)) m
  quarters-minus_two =
      let e : 2 * l - 1 ≡ suc (2 * l - 2) = omega arith in
      ap (λ n. halved true n m) ((quarters (2 * l - 2)).1 ∙ ap (λ k. 2 ^ k) (sym e))

  quarters-one : quarters_of l m (pos 1) ≡ halved false (2 ^ (2 * l - 2)) m
  quarters-one = ap (λ n. halved false n m) (let e : 1 * 2 ^ (2 * l - 2) ≡ 2 ^ (2 * l - 2) = omega arith in e)

ranked_value-by : (l m p q : ℕ) (x y a b : ℤ) (value : Fraction) → x ≡ a → y ≡ b → quarters_of l m (a *ℤ b) ≡ value →
    ranked_value p q (quarters_of l m (x *ℤ y)) ≡ ranked_value p q value
ranked_value-by l m p q x y a b value ex ey e =
    ap (ranked_value p q) (ap (λ z. quarters_of l m (z *ℤ y)) ex ∙ (ap (λ z. quarters_of l m (a *ℤ z)) ey ∙ e))

same_cons : {x y : Contribution} {xs ys : List Contribution} → x ≡ y → xs ≡ ys → x ∷ xs ≡ y ∷ ys
same_cons {x} {y} {xs} {ys} e f = ap (λ v. v ∷ xs) e ∙ ap (λ vs. y ∷ vs) f

module _ (l most : ℕ) (rows : List Parents) (f : IsLineage l most rows) (positive : 0 < l) (i : ℕ) (li : i < length rows) where
  apart-parent : (p : ℕ) → IsParentIn (ranked rows) p i → eqb i p ≡ false
  apart-parent p is =
      let kin = ranked rows in
      let w = ranked-lawful l most rows f in
      apart_back kin w p i (w.parents p i (rank-in (length rows) i li) is).1

  -- a known parent of the animal has -1 in its row, where it isn't the other parent too
  sire-half : (s : ℕ) → sire_rank rows i ≡ Some s → is_it (ranked rows) (dam_rank rows i) s ≡ false → half_row (ranked rows) i s ≡ negsuc 0
  sire-half s e other = row-sire (ranked rows) (ranked-lawful l most rows f) i s e other (apart-parent s (inl e))

  dam-half : (d : ℕ) → dam_rank rows i ≡ Some d → is_it (ranked rows) (sire_rank rows i) d ≡ false → half_row (ranked rows) i d ≡ negsuc 0
  dam-half d e other = row-dam (ranked rows) (ranked-lawful l most rows f) i d e other (apart-parent d (inr e))

  both-whole : (s : ℕ) → sire_rank rows i ≡ Some s → dam_rank rows i ≡ Some s → half_row (ranked rows) i s ≡ negsuc 1
  both-whole s e d = row-both (ranked rows) (ranked-lawful l most rows f) i s e d (apart-parent s (inl e))

  own-half : half_row (ranked rows) i i ≡ pos 2
  own-half = row-itself (ranked rows) (ranked-lawful l most rows f) i

  -- the contribution at two ranks by what the row has at them
  contribution-of : (p q : ℕ) (a b : ℤ) (value : Fraction) → half_row (ranked rows) i p ≡ a →
      half_row (ranked rows) i q ≡ b →
      quarters_of l (mendelian (ranked rows) l i) (a *ℤ b) ≡ value →
      contribution_at l rows i (p, q) ≡ record { row = p; column = q; value = value }
  contribution-of p q a b value ea eb e =
      ranked_value-by l (mendelian (ranked rows) l i) p q (half_row (ranked rows) i p)
      (half_row (ranked rows) i q) a b value ea eb e

  at-itself : contribution_at l rows i (i, i) ≡ record { row = i; column = i; value = halved false (2 ^ (2 * l)) (mendelian (ranked rows) l i) }
  at-itself = contribution-of i i (pos 2) (pos 2) _ own-half own-half (quarters-four l positive (mendelian (ranked rows) l i))

  with-parent : (p : ℕ) → half_row (ranked rows) i p ≡ negsuc 0 →
      contribution_at l rows i (i, p) ≡ record { row = i; column = p; value = halved true (2 ^ (2 * l - 1)) (mendelian (ranked rows) l i) }
  with-parent p e = contribution-of i p (pos 2) (negsuc 0) _ own-half e (quarters-minus_two l positive (mendelian (ranked rows) l i))

  of-parents : (p q : ℕ) → half_row (ranked rows) i p ≡ negsuc 0 →
      half_row (ranked rows) i q ≡ negsuc 0 →
      contribution_at l rows i (p, q) ≡ record { row = p; column = q; value = halved false (2 ^ (2 * l - 2)) (mendelian (ranked rows) l i) }
  of-parents p q ep eq = contribution-of p q (negsuc 0) (negsuc 0) _ ep eq (quarters-one l positive (mendelian (ranked rows) l i))

  -- of two ranks with -1 so has the later, and so has the earlier
  later-half : (s d : ℕ) → half_row (ranked rows) i s ≡ negsuc 0 →
      half_row (ranked rows) i d ≡ negsuc 0 →
      (half_row (ranked rows) i (max s d) ≡ negsuc 0)
      × (half_row (ranked rows) i (min s d) ≡ negsuc 0)
  later-half s d es ed =
      let P : ℕ → Type 0 = λ p. half_row (ranked rows) i p ≡ negsuc 0 in
      ⊎_elim
      (λ (low : s < d). let a : d ≡ max s d = omega arith in let b : s ≡ min s d = omega arith in (subst P a ed, subst P b es))
      (λ (high : d ≤ s). let a : s ≡ max s d = omega arith in let b : d ≡ min s d = omega arith in (subst P a es, subst P b ed))
      (cases_lt s d)

  -- where both parents are s
  listed-selfed : (s : ℕ) → sire_rank rows i ≡ Some s → dam_rank rows i ≡ Some s →
      map (contribution_at l rows i) ((i, i) ∷ (i, s) ∷ (s, s) ∷ [])
      ≡ selfed (halved false (2 ^ (2 * l)) (mendelian (ranked rows) l i)) (halved true (2 ^ (2 * l)) (mendelian (ranked rows) l i)) i s
  listed-selfed s es ed =
      let h = both-whole s es ed in
      same_cons at-itself
      (same_cons (contribution-of i s (pos 2) (negsuc 1) _ own-half h (quarters-minus_four l positive (mendelian (ranked rows) l i)))
      (same_cons (contribution-of s s (negsuc 1) (negsuc 1) _ h h (quarters-four l positive (mendelian (ranked rows) l i))) refl))

  -- and where they are two
  listed-crossed : (s d : ℕ) → sire_rank rows i ≡ Some s → dam_rank rows i ≡ Some d → eqb s d ≡ false →
      map (contribution_at l rows i) ((i, i) ∷ (i, s) ∷ (i, d) ∷ (s, s) ∷ (d, d) ∷ (max s d, min s d) ∷ [])
      ≡ crossed (halved false (2 ^ (2 * l)) (mendelian (ranked rows) l i))
      (halved true (2 ^ (2 * l - 1)) (mendelian (ranked rows) l i))
      (halved false (2 ^ (2 * l - 2)) (mendelian (ranked rows) l i)) i s d
  listed-crossed s d es ed two =
      let apart : eqb d s ≡ false = ne_eqb d s (λ e. let t : eqb s d ≡ true = eq-eqb s d (sym e) in both_ways (eqb s d) two t) in
      let hs = sire-half s es (rw ed apart) in
      let hd = dam-half d ed (rw es two) in
      let both = later-half s d hs hd in
      same_cons at-itself (same_cons (with-parent s hs) (same_cons (with-parent d hd) (same_cons (of-parents s s hs hs)
      (same_cons (of-parents d d hd hd) (same_cons (of-parents (max s d) (min s d) both.0 both.1) refl)))))

  listed-both : (s d : ℕ) → sire_rank rows i ≡ Some s → dam_rank rows i ≡ Some d → (b : Bool) → eqb s d ≡ b →
      map (contribution_at l rows i) (cond b ((i, i) ∷ (i, s) ∷ (s, s) ∷ []) ((i, i) ∷ (i, s) ∷ (i, d) ∷ (s, s) ∷ (d, d) ∷ (max s d, min s d) ∷ []))
      ≡ cond b (selfed (halved false (2 ^ (2 * l)) (mendelian (ranked rows) l i)) (halved true (2 ^ (2 * l)) (mendelian (ranked rows) l i)) i s)
      (crossed (halved false (2 ^ (2 * l)) (mendelian (ranked rows) l i))
      (halved true (2 ^ (2 * l - 1)) (mendelian (ranked rows) l i))
      (halved false (2 ^ (2 * l - 2)) (mendelian (ranked rows) l i)) i s d)
  listed-both s d es ed true e = listed-selfed s es (ed ∙ ap Some (sym (eqb-true s d e)))
  listed-both s d es ed false e = listed-crossed s d es ed e

  listed : (s d : Option ℕ) → sire_rank rows i ≡ s → dam_rank rows i ≡ d →
      map (contribution_at l rows i) (pairs_of i s d)
      ≡ weighted (halved false (2 ^ (2 * l)) (mendelian (ranked rows) l i))
      (halved true (2 ^ (2 * l - 1)) (mendelian (ranked rows) l i))
      (halved false (2 ^ (2 * l - 2)) (mendelian (ranked rows) l i))
      (halved true (2 ^ (2 * l)) (mendelian (ranked rows) l i)) i s d
  listed None None es ed = same_cons at-itself refl
  listed (Some s) None es ed =
      let hs = sire-half s es (rw ed refl) in
      same_cons at-itself (same_cons (with-parent s hs) (same_cons (of-parents s s hs hs) refl))
  listed None (Some d) es ed =
      let hd = dam-half d ed (rw es refl) in
      same_cons at-itself (same_cons (with-parent d hd) (same_cons (of-parents d d hd hd) refl))
  listed (Some s) (Some d) es ed = listed-both s d es ed (eqb s d) refl

  contributions-weighted : (s d : Option ℕ) → sire_rank rows i ≡ s → dam_rank rows i ≡ d →
      contributions_of l rows i
      ≡ weighted (halved false (2 ^ (2 * l)) (mendelian (ranked rows) l i))
      (halved true (2 ^ (2 * l - 1)) (mendelian (ranked rows) l i))
      (halved false (2 ^ (2 * l - 2)) (mendelian (ranked rows) l i))
      (halved true (2 ^ (2 * l)) (mendelian (ranked rows) l i)) i s d
  unfolding contributions_of
  contributions-weighted s d es ed =
      ap (λ o. map (contribution_at l rows i) (pairs_of i o (dam_rank rows i))) es
      ∙ (ap (λ o. map (contribution_at l rows i) (pairs_of i s o)) ed ∙ listed s d es ed)

-- what is listed are the contributions, in lowest terms
abbrev pub AreListed : ℕ → List Parents → ℕ → Contributions → Type 0
AreListed l rows i contributions = record {
  alpha : contributions.alpha ≡ halved false (2 ^ (2 * l)) (mendelian (ranked rows) l i);
  count : contributions.count ≡ length (contributions_of l rows i);
  list : contributions.list ≡ filled (contributions_of l rows i);
  lowest : All (λ one. Low one.value) contributions.list;
}

low : (negative : Bool) (k part : ℕ) → k < 128 → 0 < part → part < 2 ^ 128 → Low (halved negative (2 ^ k) part)
low negative k part small some fits = (halved-lowest negative (2 ^ k) part some (pow-lt small) fits (inl (k, refl))).lowest

pub listed-are : (l most : ℕ) (rows : List Parents) → IsLineage l most rows → 0 < l → 2 * l < 128 → (i : ℕ) → i < length rows → (row : Parents) → slice_get rows i ≡ Some row →
    (part : ℕ) → part ≡ mendelian (ranked rows) l i → part < 2 ^ 128 → (alpha half quarter whole : Fraction) →
    alpha ≡ halved false (2 ^ (2 * l)) part → half ≡ halved true (2 ^ (2 * l - 1)) part → quarter ≡ halved false (2 ^ (2 * l - 2)) part → whole ≡ halved true (2 ^ (2 * l)) part →
    (s d : Option ℕ) → row.sire ≡ s → row.dam ≡ d → (contributions : Contributions) → Lists contributions alpha (weighted alpha half quarter whole i s d) →
    AreListed l rows i contributions
listed-are l most rows f positive small i li row e part is fits alpha half quarter whole alpha_is half_is quarter_is whole_is s d es ed contributions lists =
    let m : ℕ = mendelian (ranked rows) l i in
    let some : 0 < part = (let p = (ranked-bounded l most rows f i i li li).positive in omega (arith, p, is)) in
    let same : weighted alpha half quarter whole i s d ≡ contributions_of l rows i =
    rw (alpha_is, half_is, quarter_is, whole_is, is)
    (sym (contributions-weighted l most rows f positive i li s d (let a : sire_rank rows i ≡ row.sire = rw e refl in a ∙ es) (let a : dam_rank rows i ≡ row.dam = rw e refl in a ∙ ed))) in
    record {
      alpha = lists.alpha_is ∙ (alpha_is ∙ ap (λ v. halved false (2 ^ (2 * l)) v) is);
      count = lists.count_is ∙ ap length same;
      list = lists.list_is ∙ ap filled same;
      lowest =
          subst (λ list. All (λ one. Low one.value) list) (sym lists.list_is)
          (weighted-low alpha half quarter whole
          (subst Low (sym alpha_is) (low false (2 * l) part small some fits))
          (subst Low (sym half_is) (low true (2 * l - 1) part (omega arith) some fits))
          (subst Low (sym quarter_is) (low false (2 * l - 2) part (omega arith) some fits))
          (subst Low (sym whole_is) (low true (2 * l) part small some fits)) i s d);
    }
