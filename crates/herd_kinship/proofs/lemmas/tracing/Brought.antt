-- What pending shares bring: sums over the ranks below a border, and a tracing's step at the youngest of them.
use Rattle.std.proofs.Common.{ℕ, zero, suc, ◌+◌, ◌*◌, ◌/◌, ◌^◌, ◌<◌, ◌≤◌, ◌≡◌, inl, inr, ⊎_elim, false, ltb, Option, Some, None, IsTrue, arith, refl, sym, Contains, ◌∙◌, ap, subst}
use Rattle.std.specs.List.{range_with_len, sum_by}
use Rattle.std.proofs.Math.Pow.{pow_pos}
use Rattle.std.proofs.lemmas.Bool.{lt-ltb, ne_eqb, cases_eq}
use Rattle.std.proofs.lemmas.List.Sums.{sum_by_push}
use Rattle.herd_kinship.specs.Ancestry.{Ancestry}
use Rattle.herd_kinship.specs.Shares.{share}
use Rattle.herd_kinship.specs.Ranks.{ranks}
use Rattle.herd_kinship.specs.Tracing.{brought}
use Rattle.herd_lineage.proofs.lemmas.ListFacts.{option_cases}
use Rattle.herd_kinship.proofs.lemmas.ancestry.LawfulAncestry.{IsLawful, IsShallow}
use Rattle.herd_kinship.proofs.lemmas.ancestry.Depth.{Below, Below-shallow, known_some}
use Rattle.herd_kinship.proofs.lemmas.ancestry.Shares.{share-none, share-itself, share-halved, share-later}
use Rattle.herd_kinship.proofs.lemmas.ancestry.Exact.{share-even}
use Rattle.herd_kinship.proofs.lemmas.numbers.Sums.{cancel}
use Rattle.herd_lineage.proofs.lemmas.ListFacts.{range-more}
use Rattle.herd_kinship.proofs.lemmas.lineages.Ranks.{AreRanked, ranks-are_lawful, rank-in}

pub brought-more : (shares : ℕ → ℕ) (b : ℕ) (has : ℕ → ℕ) → brought shares (b + 1) has ≡ brought shares b has + shares b * has b
brought-more shares b has =
    ap (sum_by (λ p. shares p * has p)) (range-more b) ∙ sum_by_push (λ p. shares p * has p) (range_with_len 0 b) b

brought-suc : (shares : ℕ → ℕ) (b : ℕ) (has : ℕ → ℕ) → brought shares (suc b) has ≡ brought shares b has + shares b * has b
brought-suc shares b has = ap (λ n. brought shares n has) (let e : suc b ≡ b + 1 = omega arith in e) ∙ brought-more shares b has

-- what agrees below the border brings the same
pub brought-agree : (shares shares' : ℕ → ℕ) (b : ℕ) (has has' : ℕ → ℕ) → ((p : ℕ) → p < b → shares p * has p ≡ shares' p * has' p) →
    brought shares b has ≡ brought shares' b has'
brought-agree shares shares' zero has has' same = refl
brought-agree shares shares' (suc b) has has' same =
    let rest = brought-agree shares shares' b has has' (λ p l. same p (omega arith)) in
    let last = same b (omega arith) in
    let left = brought-suc shares b has in
    let right = brought-suc shares' b has' in
    (omega (arith, left, right, rest, last))

pub brought-none : (shares : ℕ → ℕ) (b : ℕ) (has : ℕ → ℕ) → ((p : ℕ) → p < b → shares p * has p ≡ 0) → brought shares b has ≡ 0
brought-none shares zero has none = refl
brought-none shares (suc b) has none =
    let rest = brought-none shares b has (λ p l. none p (omega arith)) in
    let last = none b (omega arith) in
    let left = brought-suc shares b has in
    (omega (arith, left, rest, last))

times_more : (a c n : ℕ) → (a + c) * n ≡ a * n + c * n
times_more a c n = omega arith

-- a share that is added at one rank brings that much more
pub brought-add : (shares shares' : ℕ → ℕ) (b q more : ℕ) (has : ℕ → ℕ) → q < b → shares' q ≡ shares q + more →
    ((p : ℕ) → p < b → (p ≡ q → ⊥) → shares' p ≡ shares p) → brought shares' b has ≡ brought shares b has + more * has q
brought-add shares shares' zero q more has low at others = absurd (omega arith)
brought-add shares shares' (suc b) q more has low at others =
    let left = brought-suc shares' b has in
    let right = brought-suc shares b has in
    ⊎_elim
    (λ (same : q ≡ b).
    let here : shares' b * has b ≡ shares b * has b + more * has q =
    rw (← same, at) (times_more (shares q) more (has q)) in
    let rest = brought-agree shares' shares b has has (λ p l. ap (λ v. v * has p) (others p (omega arith) (λ i. omega arith))) in
    (omega (arith, left, right, here, rest)))
    (λ (other : q ≡ b → ⊥).
    let lower : q < b = omega arith in
    let rest = brought-add shares shares' b q more has lower at (λ p l i. others p (omega arith) i) in
    let last : shares' b * has b ≡ shares b * has b = ap (λ v. v * has b) (others b (omega arith) (λ i. other (sym i))) in
    (omega (arith, left, right, rest, last)))
    (cases_eq q b)

-- each pending share is within what they are together
pub share-within : (shares : ℕ → ℕ) (b p : ℕ) → p < b → shares p ≤ brought shares b (λ _. 1)
share-within shares zero p low = absurd (omega arith)
share-within shares (suc b) p low =
    let more = brought-suc shares b (λ _. 1) in
    ⊎_elim
    (λ (same : p ≡ b). subst (λ v. shares v ≤ brought shares (suc b) (λ _. 1)) (sym same) (omega (arith, more)))
    (λ (other : p ≡ b → ⊥).
    let rest = share-within shares b p (omega arith) in
    (omega (arith, more, rest)))
    (cases_eq p b)

halves : (s half t a b : ℕ) → 2 * half ≡ s → 2 * t ≡ a + b → s * t ≡ half * a + half * b
halves s half t a b e f =
    let g : half * (2 * t) ≡ half * (a + b) = ap (λ n. half * n) f in
    rw (← e) (omega arith)

-- THE KEY STEP. Of an animal y whose share s is all that o has of it: half of s goes to each known parent, and
-- to each other animal j that brings what s times y's share brought.
expanded : {A : Type 0} (kin : Ancestry A) → IsLawful kin → (l : ℕ) → (o : Option A) (y j : A) → Below kin (suc l) o → Below kin (suc l) (Some y) → kin.same y j ≡ false →
    let s = share kin l o y in
    s * share kin l (Some y) j ≡ s / 2 * share kin l (kin.sire y) j + s / 2 * share kin l (kin.dam y) j
expanded {A} kin w l o y j b by' apart =
    let s = share kin l o y in
    let t = share kin l (Some y) j in
    let halved = share-halved kin w l y j by' apart in
    ⊎_elim
    (λ (es : kin.sire y ≡ None).
    ⊎_elim
    (λ (ed : kin.dam y ≡ None).
    let none : 2 * t ≡ 0 = halved ∙ rw (es, ed, share-none kin l j) refl in
    let zero : t ≡ 0 = omega arith in
    rw (zero, es, ed, share-none kin l j) (omega arith))
    (λ r. halves s (s / 2) t _ _ (share-even kin w l o y r.0 b by' (inr r.1)) halved)
    (option_cases (kin.dam y)))
    (λ r. halves s (s / 2) t _ _ (share-even kin w l o y r.0 b by' (inl r.1)) halved)
    (option_cases (kin.sire y))

-- what a known parent has, 0 where the parent is unknown
abbrev pub of_known : (ℕ → ℕ) → Option ℕ → ℕ
of_known has None = 0
of_known has (Some p) = has p

of_known-share : (kin : Ancestry ℕ) (l : ℕ) (o : Option ℕ) (j : ℕ) → of_known (λ p. share kin l (Some p) j) o ≡ share kin l o j
of_known-share kin l None j = sym (share-none kin l j)
of_known-share kin l (Some p) j = refl

module _ (n : ℕ) (sire dam : ℕ → Option ℕ) (ranked : AreRanked n sire dam) (l : ℕ) (shallow : IsShallow (ranks n sire dam) l) where
  -- to each animal below the border the pending shares bring just what x has of it
  abbrev pub BringsAll : ℕ → ℕ → (ℕ → ℕ) → Type 0
  BringsAll x b shares = (j : ℕ) → j < b →
      brought shares b (λ p. share (ranks n sire dam) l (Some p) j) ≡ 2 ^ l * share (ranks n sire dam) l (Some x) j

  lawful : IsLawful (ranks n sire dam)
  lawful = ranks-are_lawful n sire dam ranked

  -- an animal has no share of a later one
  pub later_none : (p j : ℕ) → p < j → j < n → share (ranks n sire dam) l (Some p) j ≡ 0
  later_none p j b lj =
      share-later (ranks n sire dam) lawful l (Some p) j (λ z e.
      let same : p ≡ z = cc in
      subst (λ v. Contains (range_with_len 0 n) v × IsTrue (ltb v j)) same (rank-in n p (omega arith), lt-ltb p j b))

  -- the youngest pending share is all that x has of that animal
  pub own-share : (x y : ℕ) (shares : ℕ → ℕ) → y < n → BringsAll x (y + 1) shares → shares y ≡ share (ranks n sire dam) l (Some x) y
  own-share x y shares ly brings =
      let has : ℕ → ℕ = λ p. share (ranks n sire dam) l (Some p) y in
      let older = brought-none shares y has (λ p low. let z : has p ≡ 0 = later_none p y low ly in rw z (omega arith)) in
      let own : has y ≡ 2 ^ l = share-itself (ranks n sire dam) lawful l y in
      let more = brought-more shares y has in
      let all = brings y (omega arith) in
      let e : 2 ^ l * shares y ≡ 2 ^ l * share (ranks n sire dam) l (Some x) y =
      (let f : 2 ^ l * shares y ≡ brought shares (y + 1) has = (let g : shares y * has y ≡ 2 ^ l * shares y = rw own (omega arith) in omega (arith, more, older, g)) in f) ∙ all in
      cancel (2 ^ l) (shares y) (share (ranks n sire dam) l (Some x) y) (pow_pos l) e

  -- where it is 0 the border may go down
  pub lowered : (x y : ℕ) (shares : ℕ → ℕ) → shares y ≡ 0 → BringsAll x (y + 1) shares → BringsAll x y shares
  lowered x y shares none brings j lj =
      let has : ℕ → ℕ = λ p. share (ranks n sire dam) l (Some p) j in
      let more = brought-more shares y has in
      let zero : shares y * has y ≡ 0 = rw none (omega arith) in
      let all = brings j (omega arith) in
      (let e : brought shares y has ≡ brought shares (y + 1) has = omega (arith, more, zero) in e) ∙ all

  -- and where half of it was added at each known parent
  pub passed_on : (x y : ℕ) (shares shares' : ℕ → ℕ) → x < n → y < n → BringsAll x (y + 1) shares →
      ((has : ℕ → ℕ) → brought shares' y has ≡ brought shares y has + (shares y / 2 * of_known has (sire y) + shares y / 2 * of_known has (dam y))) →
      BringsAll x y shares'
  passed_on x y shares shares' lx ly brings grown j lj =
      let kin = ranks n sire dam in
      let has : ℕ → ℕ = λ p. share kin l (Some p) j in
      let own = own-share x y shares ly brings in
      let bx = Below-shallow kin lawful l shallow (Some x) (known_some kin x (rank-in n x lx)) in
      let by' = Below-shallow kin lawful l shallow (Some y) (known_some kin y (rank-in n y ly)) in
      let key = expanded kin lawful l (Some x) y j bx by' (ne_eqb y j (λ q. omega arith)) in
      let key' : shares y * has y ≡ shares y / 2 * share kin l (sire y) j + shares y / 2 * share kin l (dam y) j =
      subst (λ v. v * has y ≡ v / 2 * share kin l (sire y) j + v / 2 * share kin l (dam y) j) (sym own) key in
      let more = brought-more shares y has in
      let grown' : brought shares' y has ≡ brought shares y has + (shares y / 2 * share kin l (sire y) j + shares y / 2 * share kin l (dam y) j) =
      rw (← of_known-share kin l (sire y) j, ← of_known-share kin l (dam y) j) (grown has) in
      (let e : brought shares' y has ≡ brought shares (y + 1) has = omega (arith, grown', more, key') in e) ∙ brings j (omega arith)
