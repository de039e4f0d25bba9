-- The faults of a mating, and the coefficient of a calf by the relationship of its parents.
use Rattle.std.proofs.Common.{ℕ, suc, ◌*◌, ◌-◌, ◌/◌, ◌<◌, ◌≤◌, ◌≡◌, ◌||◌, not, leb, List, [], ◌∷◌, Bool, length}
use Rattle.std.proofs.Common.{map, slice_get, Some, None, true, false, arith, ⊎_elim, refl, sym, ap, subst, ◌∙◌}
use Rattle.std.proofs.lemmas.Bool.{cases_lt, false_from_ne_true, le-leb, leb-false, lt-leb}
use Rattle.std.proofs.lemmas.Option.{get_or_from_slice_get, slice_get-map, slice_get_within}
use Rattle.herd_frozen.specs.declared.TheConstants.{MOST_ANIMALS}
use Rattle.herd_frozen.specs.declared.freezing.frozen.Row.{Row}
use Rattle.herd_frozen.specs.rules.Book.{Book, is_there, parentage_of, record_of, IsDepthOf}
use Rattle.herd_frozen.specs.rules.ParentFault.{first_that_holds}
use Rattle.herd_frozen.specs.freezing.Frozen.{IsFrozen, book_of, depth_at, numbers_of, parents_of}
use Rattle.herd_lineage.specs.declared.lineage.Parents.{Parents}
use Rattle.herd_frozen.specs.rules.Paths.{has_path}
use Rattle.herd_frozen.proofs.lemmas.ListFacts.{there}
use Rattle.herd_advice.specs.FrozenAncestry.{ancestry_of, number_of_row}
use Rattle.herd_advice.specs.Mating.{IsCandidate, candidates_fault, is_deepest, mating_fault}
use Rattle.herd_advice.specs.declared.mating_advice.Candidate.{Candidate}
use Rattle.herd_advice.specs.declared.mating_advice.MatingFault.TheVariants.{SireMissing, DamMissing, SireNotMale}
use Rattle.herd_advice.specs.declared.mating_advice.MatingFault.TheVariants.{DamNotFemale, TooDeep}
use Rattle.herd_kinship.specs.Ranks.{AreParentsAt}
use Rattle.herd_kinship.specs.Table.{entry}
use Rattle.herd_advice.proofs.lemmas.FrozenFacts.{frozen-lawful, frozen-member, length-numbers_of, number_of_row-is}
use Rattle.herd_advice.proofs.lemmas.FrozenFacts.{record_at-row, row-at}
use Rattle.herd_frozen.proofs.lemmas.freezing.FrozenDepthFacts.{IsDepthOf-le}
use Rattle.herd_advice.proofs.lemmas.BookPaths.{depth_from_book}
use Rattle.herd_kinship.proofs.lemmas.laws.Decompose.{entry-swap}
use Rattle.herd_kinship.proofs.lemmas.ancestry.Depth.{Below, Below-depth, known_some, unit}

-- an animal that isn't in the book
module _ (l : ℕ) (book : Book) (s d : List ℕ) where
  pub sire-missing : is_there book s ≡ false → mating_fault l book s d ≡ Some SireMissing
  unfolding mating_fault
  sire-missing a = rw a refl

  pub dam-missing : is_there book s ≡ true → is_there book d ≡ false → mating_fault l book s d ≡ Some DamMissing
  unfolding mating_fault
  dam-missing a b = rw (a, b) refl

-- two that are allowed are less deep than the limit
shallow : (male female deep deep' : Bool)
    → first_that_holds ((not male, SireNotMale) ∷ (female, DamNotFemale) ∷ (deep || deep', TooDeep) ∷ []) ≡ None
    → (deep ≡ false) × (deep' ≡ false)
shallow true false false false e = (refl, refl)
shallow true false false true e = absurd (cc)
shallow true false true deep' e = absurd (cc)
shallow true true deep deep' e = absurd (cc)
shallow false female deep deep' e = absurd (cc)

depth_at-row : (rows : List Row) (i : ℕ) (row : Row) → slice_get rows i ≡ Some row → depth_at rows i ≡ row.depth
depth_at-row rows i row e =
    get_or_from_slice_get (map (λ (r : Row). r.depth) rows) i row.depth 0
    (slice_get-map (λ (r : Row). r.depth) rows i ∙ rw e refl)

pub parents-depth : (rows : List Row) (i : ℕ) (parents : Parents) → AreParentsAt (map parents_of rows) i parents
    → depth_at rows i ≡ parents.depth
parents-depth rows i parents at =
    let r = row-at rows i parents at in depth_at-row rows i r.row r.there ∙ sym (ap (λ (p : Parents). p.depth) r.same)

module _ (l : ℕ) (rows : List Row) (f : IsFrozen l MOST_ANIMALS rows) (n : List ℕ) (i : ℕ)
    (at : slice_get (numbers_of rows) i ≡ Some n) where
  -- what is found at a rank is in the book
  rank-within : i < length rows
  rank-within = let a = slice_get_within (numbers_of rows) i n at in let b = length-numbers_of rows in omega arith

  rank-number : number_of_row rows i ≡ n
  rank-number = get_or_from_slice_get (numbers_of rows) i n [] at

  rank-there : is_there (book_of rows) n ≡ true
  rank-there =
      let r = there rows i rank-within in
      let same : r.0.number ≡ n = sym (number_of_row-is rows i r.0 r.1) ∙ rank-number in
      let found : record_of (book_of rows) n ≡ Some r.0.animal =
      subst (λ v. record_of (book_of rows) v ≡ Some r.0.animal) same (record_at-row l MOST_ANIMALS rows f i r.0 r.1) in
      rw found refl

  depth-of : IsDepthOf (book_of rows) n (depth_at rows i)
  depth-of =
      let r = there rows i rank-within in
      let same : r.0.number ≡ n = sym (number_of_row-is rows i r.0 r.1) ∙ rank-number in
      rw (depth_at-row rows i r.0 r.1) (subst (λ v. IsDepthOf (book_of rows) v r.0.depth) same (f.each i r.0 r.1).depth)

  -- an animal of the greatest depth has a path of that length
  deepest-true : l ≤ depth_at rows i → is_deepest l (book_of rows) n ≡ true
  deepest-true high =
      let limit : depth_at rows i ≤ l = IsDepthOf-le l (book_of rows) f.lawful.shallow n (depth_at rows i) depth-of in
      let same : depth_at rows i ≡ l = omega arith in
      subst (λ v. has_path (parentage_of (book_of rows)) v n ≡ true) same depth-of.reached

  deepest-false : depth_at rows i < l → is_deepest l (book_of rows) n ≡ false
  deepest-false low =
      false_from_ne_true (is_deepest l (book_of rows) n)
      (λ t. let longest : l ≤ depth_at rows i = depth-of.longest l t in omega arith)

  pub deepest-is : leb l (depth_at rows i) ≡ is_deepest l (book_of rows) n
  deepest-is =
      ⊎_elim (λ (low : depth_at rows i < l). lt-leb l (depth_at rows i) low ∙ sym (deepest-false low))
      (λ (high : l ≤ depth_at rows i). le-leb l (depth_at rows i) high ∙ sym (deepest-true high))
      (cases_lt (depth_at rows i) l)

  number-below : Below (ancestry_of rows) (suc (depth_at rows i)) (Some (number_of_row rows i))
  number-below =
      Below-depth (ancestry_of rows) (depth_at rows i) (number_of_row rows i) (frozen-member rows i rank-within)
      (depth_from_book (book_of rows) (number_of_row rows i) (depth_at rows i)
      (subst (λ v. IsDepthOf (book_of rows) v (depth_at rows i)) (sym rank-number) depth-of))

  less_deep : is_deepest l (book_of rows) n ≡ false → depth_at rows i < l
  less_deep few = leb-false l (depth_at rows i) (deepest-is ∙ few)

pub candidate-there : (l : ℕ) (rows : List Row) (n : List ℕ) (candidate : Candidate) → IsCandidate l rows n candidate
    → is_there (book_of rows) n ≡ true
candidate-there l rows n candidate is = rank-there l rows is.book n candidate.rank is.rank

module _ (l : ℕ) (rows : List Row) (s d : List ℕ) (sire dam : Candidate) (is : IsCandidate l rows s sire)
    (is' : IsCandidate l rows d dam) where
  pub fault-of_candidates : mating_fault l (book_of rows) s d ≡ candidates_fault sire dam
  unfolding mating_fault
  fault-of_candidates =
      let there = candidate-there l rows s sire is in
      let there' = candidate-there l rows d dam is' in
      rw (there, there', is.male, is'.male, is.deepest, is'.deepest) refl

  -- the coefficient of a calf is half its parents' relationship, exactly
  pub mating-by : (v : ℕ) → 0 < l → candidates_fault sire dam ≡ None
      → v ≡ entry (ancestry_of rows) (2 * l) (Some (number_of_row rows dam.rank)) (Some (number_of_row rows sire.rank))
      → v / 2 ≡ entry (ancestry_of rows) (2 * l - 1) (Some s) (Some d)
  mating-by v pos allowed value =
      let kin = ancestry_of rows in
      let f = is.book in
      let i : ℕ = sire.rank in
      let j : ℕ = dam.rank in
      let li = rank-within l rows f s i is.rank in
      let lj = rank-within l rows f d j is'.rank in
      let least = shallow sire.male dam.male sire.deepest dam.deepest allowed in
      let low : depth_at rows i < l = less_deep l rows f s i is.rank (sym is.deepest ∙ least.0) in
      let low' : depth_at rows j < l = less_deep l rows f d j is'.rank (sym is'.deepest ∙ least.1) in
      let k : ℕ = 2 * l - 1 in
      let next : 2 * l ≡ suc k = omega arith in
      let w = frozen-lawful l MOST_ANIMALS rows f in
      let x : List ℕ = number_of_row rows i in
      let y : List ℕ = number_of_row rows j in
      let step =
      unit kin w k (Some x) (Some y) (suc (depth_at rows i)) (suc (depth_at rows j)) (number-below l rows f s i is.rank)
      (number-below l rows f d j is'.rank) (omega arith) in
      let swap =
      entry-swap kin w (2 * l) (Some y) (Some x) (known_some kin y (frozen-member rows j lj))
      (known_some kin x (frozen-member rows i li)) in
      let whole : v ≡ 2 * entry kin k (Some x) (Some y) =
      value ∙ (swap ∙ (ap (λ n. entry kin n (Some x) (Some y)) next ∙ step)) in
      let half : v / 2 ≡ entry kin k (Some x) (Some y) = omega (arith, whole) in
      half ∙ rw (rank-number l rows f s i is.rank, rank-number l rows f d j is'.rank) refl
