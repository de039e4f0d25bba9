-- The rows that a certificate shows: each at its rank, and each known parent of one among them.
use Rattle.std.proofs.Common.{◌≡◌, ◌≢◌, ◌∙◌, ℕ, zero, suc, ◌<◌, List, [], ◌∷◌, ◌++◌, length}
use Rattle.std.proofs.Common.{map, slice_get, get_or, Option, Some, None, All, Contains, refl, sym, ap, subst, arith}
use Rattle.std.proofs.Common.{⊎_elim}
use Rattle.std.specs.Option.{option_and_then, option_map, option_to_list}
use Rattle.std.proofs.lemmas.Bool.{cases_order}
use Rattle.std.proofs.lemmas.List.Elements.{All-head, All-tail}
use Rattle.std.proofs.lemmas.Option.{get_or_from_slice_get, same_Some, slice_get-get_or, slice_get-map}
use Rattle.std.proofs.lemmas.Option.{slice_get_within}
use Rattle.merkle_tree.specs.Shown.{IsAscending}
use Rattle.merkle_tree.proofs.lemmas.Complete.{ascending-first, ascending-tail}
use Rattle.herd_frozen.specs.declared.freezing.frozen.Row.{Row}
use Rattle.herd_frozen.specs.freezing.Frozen.{IsRankOf, numbers_of, parents_of}
use Rattle.herd_lineage.specs.declared.lineage.Parents.{Parents}
use Rattle.herd_lineage.specs.Lineage.{dam_rank, sire_rank}
use Rattle.herd_lineage.proofs.lemmas.ListFacts.{there}
use Rattle.herd_seal.specs.Certificate.{IsLink}
use Rattle.herd_seal.specs.CheckFaults.{IsLacking, IsMisnamed}
use Rattle.herd_seal.specs.declared.certificate.CertifiedRow.{CertifiedRow}
use Rattle.herd_certificate.specs.Sealed.{certified, rows_at}

-- what holds of each holds of one
pub at_of_all : {X : Type 0} (P : X → Type 0) (xs : List X) (i : ℕ) (x : X) → All P xs → slice_get xs i ≡ Some x → P x
at_of_all {X} P xs i x all e =
    subst (λ (y : X). P y) (get_or_from_slice_get xs i x x e) (all i x (slice_get_within xs i x e))

-- ---- places that ascend

pub ascending_at : (places : List ℕ) → IsAscending places → (i j a b : ℕ) → i < j → slice_get places i ≡ Some a
    → slice_get places j ≡ Some b → a < b
ascending_at [] up i j a b low at_a at_b = absurd (cc)
ascending_at (p ∷ places) up i zero a b low at_a at_b = absurd (omega (arith, low))
ascending_at (p ∷ places) up zero (suc j) a b low at_a at_b =
    let same : p ≡ a = same_Some p a at_a in
    let later = at_of_all (λ x. p < x) places j b (ascending-first p places up) at_b in
    subst (λ (x : ℕ). x < b) same later
ascending_at (p ∷ places) up (suc i) (suc j) a b low at_a at_b =
    ascending_at places (ascending-tail p places up) i j a b (omega (arith, low)) at_a at_b

-- one rank has a place
pub same_rank : (places : List ℕ) → IsAscending places → (i j a : ℕ) → slice_get places i ≡ Some a
    → slice_get places j ≡ Some a → i ≡ j
same_rank places up i j a at_i at_j =
    ⊎_elim (λ (e : i ≡ j). e)
    (λ apart. ⊎_elim
    (λ (low : i < j). let step = ascending_at places up i j a a low at_i at_j in absurd (omega (arith, step)))
    (λ (high : j < i). let step = ascending_at places up j i a a high at_j at_i in absurd (omega (arith, step)))
    apart)
    (cases_order i j)

-- the rank of a lower place is lower
pub rank_below : (places : List ℕ) → IsAscending places → (i j a b : ℕ) → slice_get places i ≡ Some a
    → slice_get places j ≡ Some b → a < b → i < j
rank_below places up i j a b at_i at_j less =
    ⊎_elim
    (λ (e : i ≡ j).
    let both : Some a ≡ Some b = sym at_i ∙ (ap (λ (k : ℕ). slice_get places k) e ∙ at_j) in
    let same : a ≡ b = same_Some a b both in absurd (omega (arith, less, same)))
    (λ apart. ⊎_elim
    (λ (low : i < j). low)
    (λ (high : j < i). let step = ascending_at places up j i b a high at_j at_i in absurd (omega (arith, step, less)))
    apart)
    (cases_order i j)

-- ---- rows at places

pub one_at : (rows : List Row) (place : ℕ) (places : List ℕ) (row : Row) → slice_get rows place ≡ Some row
    → rows_at rows (place ∷ places) ≡ certified place row ∷ rows_at rows places
one_at rows place places row at =
    ap (λ (o : Option Row). option_to_list (option_map (certified place) o) ++ rows_at rows places) at

pub shown-long : (rows : List Row) (places : List ℕ) → All (λ place. place < length rows) places
    → length (rows_at rows places) ≡ length places
shown-long rows [] within = refl
shown-long rows (place ∷ places) within =
    let row = there rows place (All-head (λ p. p < length rows) place places within) in
    ap (λ (l : List CertifiedRow). length l) (one_at rows place places row.0 row.1)
    ∙ ap (λ (n : ℕ). suc n) (shown-long rows places (All-tail (λ p. p < length rows) place places within))

pub shown_at_rank : (rows : List Row) (places : List ℕ) → All (λ place. place < length rows) places
    → (k place : ℕ) (row : Row)
    → slice_get places k ≡ Some place → slice_get rows place ≡ Some row
    → slice_get (rows_at rows places) k ≡ Some (certified place row)
shown_at_rank rows [] within k place row at is = absurd (cc)
shown_at_rank rows (p ∷ places) within zero place row at is =
    let same : p ≡ place = same_Some p place at in
    ap (λ (l : List CertifiedRow). slice_get l 0) (one_at rows p places row (ap (λ (q : ℕ). slice_get rows q) same
    ∙ is))
    ∙ ap (λ (q : ℕ). Some (certified q row)) same
shown_at_rank rows (p ∷ places) within (suc k) place row at is =
    let first = there rows p (All-head (λ q. q < length rows) p places within) in
    ap (λ (l : List CertifiedRow). slice_get l (suc k)) (one_at rows p places first.0 first.1)
    ∙ shown_at_rank rows places (All-tail (λ q. q < length rows) p places within) k place row at is

-- a row that is shown is the book's at its place
pub record IsShownAt (rows : List Row) (places : List ℕ) (k : ℕ) (c : CertifiedRow) : Type 0 where
  pub row : Row
  pub place : slice_get places k ≡ Some c.place
  pub its : slice_get rows c.place ≡ Some row
  pub is : c ≡ certified c.place row

pub shown_back : (rows : List Row) (places : List ℕ) → All (λ place. place < length rows) places
    → (k : ℕ) (c : CertifiedRow)
    → slice_get (rows_at rows places) k ≡ Some c → IsShownAt rows places k c
shown_back rows places within k c at =
    let low = slice_get_within (rows_at rows places) k c at in
    let long = shown-long rows places within in
    let place = there places k (omega (arith, low, long)) in
    let row = there rows place.0 (at_of_all (λ p. p < length rows) places k place.0 within place.1) in
    let made = shown_at_rank rows places within k place.0 row.0 place.1 row.1 in
    let same : certified place.0 row.0 ≡ c = same_Some (certified place.0 row.0) c (sym made ∙ at) in
    let known : IsShownAt rows places k (certified place.0 row.0) =
    record { row = row.0; place = place.1; its = row.1; is = refl } in
    subst (λ (x : CertifiedRow). IsShownAt rows places k x) same known

-- ---- parents

number_there : (rows : List Row) (place : ℕ) (row : Row) (number : List ℕ) → slice_get rows place ≡ Some row
    → slice_get (numbers_of rows) place ≡ Some number → row.number ≡ number
number_there rows place row number at is =
    let both : Some row.number ≡ Some number =
    sym (slice_get-map (λ (r : Row). r.number) rows place
    ∙ ap (λ (o : Option Row). option_map (λ (r : Row). r.number) o) at) ∙ is in
    same_Some row.number number both

-- a parent that is shown isn't lacking
pub not_lacking : (rows : List Row) (places : List ℕ) → All (λ place. place < length rows) places → (parent : Option ℕ)
    (number : Option (List ℕ)) → IsRankOf rows parent number → ((p : ℕ) → parent ≡ Some p → Contains places p)
    → ¬ (IsLacking (rows_at rows places) parent number)
not_lacking rows places within None None rank kept = λ lacks. lacks
not_lacking rows places within None (Some n) rank kept = λ lacks. rank
not_lacking rows places within (Some p) None rank kept = λ lacks. rank
not_lacking rows places within (Some p) (Some n) rank kept = λ lacks.
    let c = kept p refl in
    let at : slice_get places c.0 ≡ Some p = slice_get-get_or places c.0 p c.1 ∙ ap (λ (x : ℕ). Some x) c.2 in
    let row = there rows p (at_of_all (λ q. q < length rows) places c.0 p within at) in
    at_of_all (λ (r : CertifiedRow). r.place ≢ p) (rows_at rows places) c.0 (certified p row.0) lacks
    (shown_at_rank rows places within c.0 p row.0 at row.1) refl

-- nor has its row another number
pub not_misnamed : (rows : List Row) (places : List ℕ) → All (λ place. place < length rows) places → (parent : Option ℕ)
    (number : Option (List ℕ)) → IsRankOf rows parent number → ¬ (IsMisnamed (rows_at rows places) parent number)
not_misnamed rows places within None number rank = λ wrong. wrong
not_misnamed rows places within (Some p) None rank = λ wrong. wrong
not_misnamed rows places within (Some p) (Some n) rank = λ wrong.
    let at = shown_back rows places within wrong.0 wrong.1 wrong.2 in
    let its : slice_get rows p ≡ Some at.row = subst (λ (q : ℕ). slice_get rows q ≡ Some at.row) wrong.3 at.its in
    wrong.4 (ap (λ (r : CertifiedRow). r.record.number) at.is ∙ number_there rows p at.row n its rank)

-- the place of a parent is that of the row at its rank
pub link-place : (rows : List Row) (places : List ℕ) → All (λ place. place < length rows) places → (parent : Option ℕ)
    (number : Option (List ℕ)) (rank : Option ℕ) → IsLink (rows_at rows places) parent number rank
    → parent ≡ option_map (λ k. get_or places k 0) rank
link-place rows places within None number rank link =
    sym (ap (λ (o : Option ℕ). option_map (λ k. get_or places k 0) o) link.1)
link-place rows places within (Some p) number rank link =
    let at = shown_back rows places within link.0 link.1 link.3 in
    ap (λ (q : ℕ). Some q) (sym (get_or_from_slice_get places link.0 link.1.place 0 at.place ∙ link.4))
    ∙ sym (ap (λ (o : Option ℕ). option_map (λ k. get_or places k 0) o) link.2)

-- and the rank is one of a row
pub link_within : (rows : List Row) (places : List ℕ) → All (λ place. place < length rows) places → (parent : Option ℕ)
    (number : Option (List ℕ)) (rank : Option ℕ) → IsLink (rows_at rows places) parent number rank → (k : ℕ)
    → rank ≡ Some k
    → slice_get places k ≡ Some (get_or places k 0)
link_within rows places within None number rank link k is = absurd (cc (link.1))
link_within rows places within (Some p) number rank link k is =
    let same : link.0 ≡ k = same_Some link.0 k (sym link.2 ∙ is) in
    let at = shown_back rows places within link.0 link.1 link.3 in
    slice_get-get_or places k 0 (subst (λ (i : ℕ). i < length places) same (slice_get_within places link.0
    link.1.place at.place))

-- the parents in the whole
pub sire-there : (rows : List Row) (place : ℕ) (row : Row) → slice_get rows place ≡ Some row
    → sire_rank (map parents_of rows) place ≡ row.sire
sire-there rows place row at =
    ap (λ (o : Option Parents). option_and_then (λ (p : Parents). p.sire) o)
    (slice_get-map parents_of rows place ∙ ap (λ (o : Option Row). option_map parents_of o) at)

pub dam-there : (rows : List Row) (place : ℕ) (row : Row) → slice_get rows place ≡ Some row
    → dam_rank (map parents_of rows) place ≡ row.dam
dam-there rows place row at =
    ap (λ (o : Option Parents). option_and_then (λ (p : Parents). p.dam) o)
    (slice_get-map parents_of rows place ∙ ap (λ (o : Option Row). option_map parents_of o) at)
