-- The ranks of the animals that an order names.
use Rattle.std.proofs.Common.{◌≡◌, ◌∙◌, ◌&&◌, nat_lt, ℕ, ◌+◌, ◌<◌, List, [], ◌∷◌, ◌++◌, Option, Some, ap, ap₂, get_or, length, take, true, arith}
use Rattle.std.proofs.lemmas.List.{take_more}
use Rattle.std.proofs.lemmas.List.Elements.{filter_map-append}
use Rattle.std.proofs.lemmas.List.Folds.{list_all_more}
use Rattle.herd_pedigree_report.specs.Named.{all_there, is_there, ranks_of}

-- one more name that tells a rank
pub ranks_more : (named : List (Option ℕ)) (place rank : ℕ) (other : Option ℕ) → place < length named → get_or named place other ≡ Some rank
    → ranks_of (take (place + 1) named) ≡ ranks_of (take place named) ++ rank ∷ []
ranks_more named place rank other within is =
    ap ranks_of (take_more named place other within ∙ ap (λ animal. take place named ++ animal ∷ []) is)
    ∙ filter_map-append (λ animal. animal) (take place named) (Some rank ∷ [])

-- and is there
pub there_more : (animals : ℕ) (named : List (Option ℕ)) (place rank : ℕ) (other : Option ℕ) → place < length named → get_or named place other ≡ Some rank
    → rank < animals → all_there animals (take place named) ≡ true → all_there animals (take (place + 1) named) ≡ true
there_more animals named place rank other within is low before =
    let found : nat_lt rank animals ≡ true = grind arith in
    list_all_more (is_there animals) named place other within ∙ ap₂ (λ a b. a && b) before (ap (is_there animals) is ∙ found)
