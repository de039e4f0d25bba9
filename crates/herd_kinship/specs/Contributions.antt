-- What an animal contributes to the inverse of the numerator relationship matrix (Henderson 1976). l is the limit of
-- depths.
use Rattle.std.specs.Prelude.{◌≡◌, ℕ, ◌*◌, ◌-◌, ◌^◌, ◌++◌, max, min, cond, nat_eq, length, map, replicate, take, List, [], ◌∷◌, Option, None, Some, ℤ, pos, ◌*ℤ◌, int_lt, unsigned_abs}
use Rattle.herd_lineage.specs.declared.lineage.Parents.{Parents}
use Rattle.herd_lineage.specs.Lineage.{dam_rank, sire_rank}
use Rattle.herd_kinship.specs.declared.contribution.Contributions.{Contributions}
use Rattle.herd_kinship.specs.declared.contribution.Contribution.{Contribution}
use Rattle.herd_kinship.specs.declared.fractions.Fraction.{Fraction}
use Rattle.herd_kinship.specs.Fraction.{halved}
use Rattle.herd_kinship.specs.InverseRows.{half_row}
use Rattle.herd_kinship.specs.Ranks.{ranked}
use Rattle.herd_kinship.specs.Table.{mendelian}

-- quarters of 1 over a Mendelian sampling variance of numerator m
abbrev pub quarters_of : ℕ → ℕ → ℤ → Fraction
quarters_of l m z = halved (int_lt z (pos 0)) (unsigned_abs z * 2 ^ (2 * l - 2)) m

-- the pairs of ranks at which animal i contributes, the later one first
abbrev pub pairs_of : ℕ → Option ℕ → Option ℕ → List (ℕ × ℕ)
pairs_of i None None = (i, i) ∷ []
pairs_of i (Some s) None = (i, i) ∷ (i, s) ∷ (s, s) ∷ []
pairs_of i None (Some d) = (i, i) ∷ (i, d) ∷ (d, d) ∷ []
pairs_of i (Some s) (Some d) =
    cond (nat_eq s d) ((i, i) ∷ (i, s) ∷ (s, s) ∷ [])
    ((i, i) ∷ (i, s) ∷ (i, d) ∷ (s, s) ∷ (d, d) ∷ (max s d, min s d) ∷ [])

-- the contribution of i at p and q: both their halves in its row, times 1 over its Mendelian sampling variance
abbrev pub contribution_at : ℕ → List Parents → ℕ → ℕ × ℕ → Contribution
contribution_at l rows i pair = record {
  row = pair.0;
  column = pair.1;
  value =
      quarters_of l (mendelian (ranked rows) l i)
      (half_row (ranked rows) i pair.0
      *ℤ half_row (ranked rows) i pair.1);
}

-- the contributions of i in their order
unfoldable pub contributions_of : ℕ → List Parents → ℕ → List Contribution
contributions_of l rows i = map (contribution_at l rows i) (pairs_of i (sire_rank rows i) (dam_rank rows i))

-- six contributions: those of the list, and then its first one again
abbrev pub filled : List Contribution → List Contribution
filled [] = []
filled (first ∷ rest) = take 6 (first ∷ rest ++ replicate 5 first)

-- the contributions of i by their values, where both parents are s
abbrev pub selfed : Fraction → Fraction → ℕ → ℕ → List Contribution
selfed own whole i s =
    record { row = i; column = i; value = own }
    ∷ record { row = i; column = s; value = whole }
    ∷ record { row = s; column = s; value = own }
    ∷ []

-- and where they are two
abbrev pub crossed : Fraction → Fraction → Fraction → ℕ → ℕ → ℕ → List Contribution
crossed own half quarter i s d =
    record { row = i; column = i; value = own }
    ∷ record { row = i; column = s; value = half }
    ∷ record { row = i; column = d; value = half }
    ∷ record { row = s; column = s; value = quarter }
    ∷ record { row = d; column = d; value = quarter }
    ∷ record { row = max s d; column = min s d; value = quarter }
    ∷ []

-- the contributions of i by their values: at itself, with a parent, and at a pair of parents
abbrev pub weighted : Fraction → Fraction → Fraction → Fraction → ℕ → Option ℕ → Option ℕ → List Contribution
weighted own half quarter whole i None None = record { row = i; column = i; value = own } ∷ []
weighted own half quarter whole i (Some s) None =
    record { row = i; column = i; value = own }
    ∷ record { row = i; column = s; value = half }
    ∷ record { row = s; column = s; value = quarter }
    ∷ []
weighted own half quarter whole i None (Some d) =
    record { row = i; column = i; value = own }
    ∷ record { row = i; column = d; value = half }
    ∷ record { row = d; column = d; value = quarter }
    ∷ []
weighted own half quarter whole i (Some s) (Some d) =
    cond (nat_eq s d) (selfed own whole i s) (crossed own half quarter i s d)

-- what is contributed: 1 over the Mendelian sampling variance, and these contributions
pub record Lists (contributions : Contributions) (alpha : Fraction) (list : List Contribution) : Type 0 where
  pub alpha_is : contributions.alpha ≡ alpha
  pub count_is : contributions.count ≡ length list
  pub list_is : contributions.list ≡ filled list
