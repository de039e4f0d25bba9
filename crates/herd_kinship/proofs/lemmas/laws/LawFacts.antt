-- The laws of the numerator relationship matrix hold in each lawful, shallow ancestry.
use Rattle.std.proofs.Common.{ℕ, suc, ◌+◌, ◌≡◌, Contains, Some, arith}
use Rattle.herd_kinship.specs.Ancestry.{Ancestry}
use Rattle.herd_kinship.specs.Laws.{KeepsHalves, IsSymmetric, IsBounded, IsDecomposed, IsDiagonalised}
use Rattle.herd_kinship.proofs.lemmas.ancestry.Bounds.{coefficient-bound, mendelian-positive, mendelian-at_most}
use Rattle.herd_kinship.proofs.lemmas.ancestry.Depth.{Below, Below-shallow, unit, known_some}
use Rattle.herd_kinship.proofs.lemmas.ancestry.LawfulAncestry.{IsLawful, IsShallow}
use Rattle.herd_kinship.proofs.lemmas.ancestry.Table.{entry-bound}
use Rattle.herd_kinship.proofs.lemmas.laws.Decompose.{decomposition, entry-swap}
use Rattle.herd_kinship.proofs.lemmas.laws.RowProducts.{inverse_rows}

module _ {A : Type 0} (kin : Ancestry A) (w : IsLawful kin) where
  pub keeps-halves : (x y : A) (g e : ℕ) → Below kin (suc g) (Some x) → Below kin (suc e) (Some y) → KeepsHalves kin (g + e) x y
  keeps-halves x y g e bx b_y k le =
      let s : k + 1 ≡ suc k = omega arith in
      rw s (unit kin w k (Some x) (Some y) (suc g) (suc e) bx b_y (omega arith))

  module _ (l : ℕ) (shallow : IsShallow kin l) (x y : A) (cx : Contains kin.animals x) (cy : Contains kin.animals y) where
    pub bounded : IsBounded kin l x y
    bounded =
        let b : Below kin (suc l) (Some x) = Below-shallow kin w l shallow (Some x) (known_some kin x cx) in
        record {
          entries = λ k. let s : k + 1 ≡ suc k = omega arith in rw s (entry-bound kin k (Some x) (Some y));
          below_one = coefficient-bound kin w l x b;
          positive = mendelian-positive kin w l x b;
          at_most = mendelian-at_most kin l x;
        }

    pub symmetric : IsSymmetric kin x y
    symmetric = λ k. entry-swap kin w k (Some x) (Some y) (known_some kin x cx) (known_some kin y cy)

    pub decomposed : IsDecomposed kin l (Some x) (Some y)
    decomposed = decomposition kin w l shallow (Some x) (Some y) (known_some kin x cx) (known_some kin y cy)

    pub diagonalised : IsDiagonalised kin l x y
    diagonalised = inverse_rows kin w l shallow x y cx cy
