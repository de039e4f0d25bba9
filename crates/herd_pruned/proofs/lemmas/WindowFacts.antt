-- The tabular method by ranks: entries from those of the younger animal's parents, and what stands in a window.
use Rattle.std.proofs.Common.{ℕ, ◌+◌, ◌*◌, ◌/◌, ◌%◌, ◌^◌, ◌<◌, ◌≤◌, ◌≡◌, ◌≢◌, inl, inr, ⊎_elim, List, [], ◌∷◌, ◌++◌, length, get_or, set, All, Option, Some, unwrap_or, None, arith, refl, subst, sym, ap, ◌∙◌}
use Rattle.std.proofs.lemmas.Bool.{cases_eq, cases_lt, lt-ltb}
use Rattle.std.proofs.Math.Nat.{div-add-mod'}
use Rattle.std.proofs.lemmas.List.{get_or-set_other, get_or-set_same, get_or_append_left, get_or_push, length-set, length_push}
use Rattle.std.proofs.lemmas.Nat.{mod_below, mul-add-lt, mul-le, same_from_place}
use Rattle.std.proofs.lemmas.Option.{none-some}
use Rattle.std.specs.Option.{ForSome, option_map, option_map_or}
use Rattle.std.specs.Prelude.{slice_index}
use Rattle.herd_lineage.specs.declared.TheConstants.{MOST_ANIMALS}
use Rattle.herd_lineage.specs.declared.lineage.Parents.{Parents}
use Rattle.herd_lineage.specs.Lineage.{IsLineage, dam_rank, sire_rank}
use Rattle.herd_kinship.specs.Coefficients.{coefficient_at}
use Rattle.herd_kinship.specs.Ranks.{AreParentsAt, ranked}
use Rattle.herd_kinship.specs.Table.{entry}
use Rattle.herd_kinship.proofs.lemmas.ancestry.Bounds.{coefficient-bound, coefficient-none, entry-itself}
use Rattle.herd_kinship.proofs.lemmas.ancestry.Depth.{known_some}
use Rattle.herd_kinship.proofs.lemmas.ancestry.Shares.{entry-halved}
use Rattle.herd_kinship.proofs.lemmas.ancestry.Table.{entry-none_right}
use Rattle.herd_kinship.proofs.lemmas.laws.Decompose.{entry-swap}
use Rattle.herd_kinship.proofs.lemmas.lineages.LineageFacts.{ranked-below_limit, ranked-lawful}
use Rattle.herd_kinship.proofs.lemmas.lineages.ParentsFacts.{parents-dam, parents-sire, parents-within}
use Rattle.herd_kinship.proofs.lemmas.lineages.Ranks.{rank-in}
use Rattle.herd_kinship.proofs.lemmas.sires.ColumnFacts.{coefficient-related}
use Rattle.herd_pruned.specs.Window.{HasParentsWithin, IsLast, IsWindow, Window, at, window_of, with_parent}

-- an animal stands before one, fewer than so many back
pub record IsNear (rank span x : ℕ) : Type 0 where
  pub before : x < rank
  pub near : rank < x + span

pub near-last : (rank span x : ℕ) → IsNear rank span x → IsLast span rank x
near-last rank span x n = let b = n.before in let c = n.near in record { before = b; near = omega (arith, c) }

-- successive animals have places of their own, as many as there are places
pub places-differ : (places x y : ℕ) → 0 < places → x < y → y < x + places → x % places ≢ y % places
places-differ places x y some low near same =
    let a : x / places * places + x % places ≡ x = div-add-mod' x places in
    let b : y / places * places + y % places ≡ y = div-add-mod' y places in
    ⊎_elim
    (λ (more : x / places < y / places). let m = mul-le (x / places + 1) places (y / places) places (omega (arith, more)) (omega arith) in omega (arith, a, b, m, same, near))
    (λ (less : y / places ≤ x / places). let m = mul-le (y / places) places (x / places) places less (omega arith) in omega (arith, a, b, m, same, low))
    (cases_lt (x / places) (y / places))

-- an entry that is written at two places
module _ (places : ℕ) (entries : List ℕ) (p q value : ℕ) (low : q < places) where
  pub written : p < places → length entries ≡ places * places → at places (set entries (p * places + q) value) p q ≡ value
  written pl long = let within = mul-add-lt p places q places pl low in get_or-set_same entries (p * places + q) value 0 (omega (arith, within, long))

  pub other-row : (x y : ℕ) → y < places → x ≢ p → at places (set entries (p * places + q) value) x y ≡ at places entries x y
  other-row x y yl apart = get_or-set_other entries (p * places + q) (x * places + y) value 0 (λ e. apart (same_from_place x y p q places yl low e).0)

  pub other-column : (x y : ℕ) → y < places → y ≢ q → at places (set entries (p * places + q) value) x y ≡ at places entries x y
  other-column x y yl apart = get_or-set_other entries (p * places + q) (x * places + y) value 0 (λ e. apart (same_from_place x y p q places yl low e).1)

-- what a parent adds to a row is read of rows that stand as they did
pub parent-read : (places : ℕ) (old entries : List ℕ) (p y : ℕ) (parent row : Option ℕ) (result : ℕ) → row ≡ option_map (λ s. s * places) parent → ForSome parent (λ s. (s < places) × (s ≢ p)) → y < places
    → ((x z : ℕ) → x < places → z < places → x ≢ p → at places entries x z ≡ at places old x z)
    → result ≡ option_map_or (λ r. slice_index entries (r + y)) row 0 → result ≡ with_parent places old parent y
parent-read places old entries p y None row result is apart low others read = read ∙ ap (λ r. option_map_or (λ n. slice_index entries (n + y)) r 0) is
parent-read places old entries p y (Some s) row result is apart low others read =
    read ∙ ap (λ r. option_map_or (λ n. slice_index entries (n + y)) r 0) is ∙ others s y (apart s refl).0 low (apart s refl).1

pub small-set : (entries : List ℕ) (i value most : ℕ) → All (λ e. e < most) entries → value < most → All (λ e. e < most) (set entries i value)
small-set entries i value most small new k d low =
    let long = length-set entries i value in
    ⊎_elim
    (λ (same : k ≡ i).
    let it : get_or (set entries i value) k d ≡ value = ap (λ n. get_or (set entries i value) n d) same ∙ get_or-set_same entries i value d (omega (arith, low, long, same)) in
    omega (arith, it, new))
    (λ (other : k ≢ i).
    let it = get_or-set_other entries i k value d other in
    let was = small k d (omega (arith, low, long)) in
    omega (arith, it, was))
    (cases_eq k i)

-- one more entry of the row
pub row-more : (places : ℕ) (entries : List ℕ) (p y value : ℕ) (half : ℕ → ℕ) → p < places → y < places → length entries ≡ places * places → ((z : ℕ) → z < y → at places entries p z ≡ half z) → value ≡ half y
    → (z : ℕ) → z < y + 1 → at places (set entries (p * places + y) value) p z ≡ half z
row-more places entries p y value half pl yl long row is z low =
    ⊎_elim
    (λ (before : z < y). other-column places entries p y value yl p z (omega (arith, before, yl)) (λ e. omega (arith, e, before)) ∙ row z before)
    (λ (last : y ≤ z).
    let same : z ≡ y = omega (arith, low, last) in
    ap (λ n. at places (set entries (p * places + y) value) p n) same ∙ written places entries p y value yl pl long ∙ is ∙ ap half (sym same))
    (cases_lt z y)

-- one more entry of the column
pub column-more : (places : ℕ) (entries : List ℕ) (x p value : ℕ) (wanted : ℕ → ℕ) → x < places → p < places → length entries ≡ places * places → ((z : ℕ) → z < x → at places entries z p ≡ wanted z) → value ≡ wanted x
    → (z : ℕ) → z < x + 1 → at places (set entries (x * places + p) value) z p ≡ wanted z
column-more places entries x p value wanted xl pl long column is z low =
    ⊎_elim
    (λ (before : z < x). other-row places entries x p value pl z p pl (λ e. omega (arith, e, before)) ∙ column z before)
    (λ (last : x ≤ z).
    let same : z ≡ x = omega (arith, low, last) in
    ap (λ n. at places (set entries (x * places + p) value) n p) same ∙ written places entries x p value pl xl long ∙ is ∙ ap wanted (sym same))
    (cases_lt z x)

module _ (l : ℕ) (rows : List Parents) (f : IsLineage l MOST_ANIMALS rows) where
  pub swapped : (k x y : ℕ) → x < length rows → y < length rows → entry (ranked rows) k (Some x) (Some y) ≡ entry (ranked rows) k (Some y) (Some x)
  swapped k x y lx ly =
      let kin = ranked rows in
      entry-swap kin (ranked-lawful l MOST_ANIMALS rows f) k (Some x) (Some y) (known_some kin x (rank-in (length rows) x lx)) (known_some kin y (rank-in (length rows) y ly))

  pub own-entry : (x : ℕ) → x < length rows → 2 ^ (2 * l) + coefficient_at l rows x ≡ entry (ranked rows) (2 * l) (Some x) (Some x)
  own-entry x lx = sym (entry-itself (ranked rows) (ranked-lawful l MOST_ANIMALS rows f) l x (ranked-below_limit l MOST_ANIMALS rows f x lx))

  pub below-one : (x : ℕ) → x < length rows → coefficient_at l rows x < 2 ^ (2 * l)
  below-one x lx = coefficient-bound (ranked rows) (ranked-lawful l MOST_ANIMALS rows f) l x (ranked-below_limit l MOST_ANIMALS rows f x lx)

  pub sire-before : (rank p : ℕ) (parents : Parents) → AreParentsAt rows rank parents → parents.sire ≡ Some p → p < rank
  sire-before rank p parents at is = f.sire rank p (parents-sire rows rank parents at ∙ is)

  pub dam-before : (rank p : ℕ) (parents : Parents) → AreParentsAt rows rank parents → parents.dam ≡ Some p → p < rank
  dam-before rank p parents at is = f.dam rank p (parents-dam rows rank parents at ∙ is)

  module _ (span : ℕ) (w : HasParentsWithin rows span) where
    pub sire-near : (rank p : ℕ) (parents : Parents) → AreParentsAt rows rank parents → parents.sire ≡ Some p → IsNear rank span p
    sire-near rank p parents at is = record {
      before = sire-before rank p parents at is;
      near = w rank p (parents-within rows rank parents at) (inl (parents-sire rows rank parents at ∙ is));
    }

    pub dam-near : (rank p : ℕ) (parents : Parents) → AreParentsAt rows rank parents → parents.dam ≡ Some p → IsNear rank span p
    dam-near rank p parents at is = record {
      before = dam-before rank p parents at is;
      near = w rank p (parents-within rows rank parents at) (inr (parents-dam rows rank parents at ∙ is));
    }

  -- the entry of an older animal with the one at a rank
  pub half-entry : (old rank a b : ℕ) (parents : Parents) → AreParentsAt rows rank parents → old < rank → a ≡ entry (ranked rows) (2 * l) (Some old) parents.sire → b ≡ entry (ranked rows) (2 * l) (Some old) parents.dam
      → (a + b) / 2 ≡ entry (ranked rows) (2 * l) (Some old) (Some rank)
  half-entry old rank a b parents at low ea eb =
      let kin = ranked rows in
      let within = parents-within rows rank parents at in
      let s : a ≡ entry kin (2 * l) (Some old) (sire_rank rows rank) = ea ∙ ap (λ o. entry kin (2 * l) (Some old) o) (sym (parents-sire rows rank parents at)) in
      let d : b ≡ entry kin (2 * l) (Some old) (dam_rank rows rank) = eb ∙ ap (λ o. entry kin (2 * l) (Some old) o) (sym (parents-dam rows rank parents at)) in
      let h = entry-halved kin (ranked-lawful l MOST_ANIMALS rows f) l old rank (ranked-below_limit l MOST_ANIMALS rows f old (omega (arith, low, within))) (ranked-below_limit l MOST_ANIMALS rows f rank within) (lt-ltb old rank low) in
      omega (arith, h, s, d)

  -- half the parents' entry, 0 where one is unknown
  pub half-of_parents : (rank s d a : ℕ) (parents : Parents) → AreParentsAt rows rank parents → parents.sire ≡ Some s → parents.dam ≡ Some d → a ≡ entry (ranked rows) (2 * l) (Some s) (Some d) → a / 2 ≡ coefficient_at l rows rank
  half-of_parents rank s d a parents at is_sire is_dam e =
      let within = parents-within rows rank parents at in
      let before = sire-before rank s parents at is_sire in
      ap (λ n. n / 2) e ∙ coefficient-related l MOST_ANIMALS rows f s (omega (arith, before, within)) d rank within (parents-sire rows rank parents at ∙ is_sire) (parents-dam rows rank parents at ∙ is_dam)

  pub none-of_dam : (rank : ℕ) (parents : Parents) → AreParentsAt rows rank parents → parents.dam ≡ None → 0 ≡ coefficient_at l rows rank
  none-of_dam rank parents at none = sym (coefficient-none (ranked rows) l rank (inr (parents-dam rows rank parents at ∙ none)))

  pub none-of_sire : (rank : ℕ) (parents : Parents) → AreParentsAt rows rank parents → parents.sire ≡ None → 0 ≡ coefficient_at l rows rank
  none-of_sire rank parents at none = sym (coefficient-none (ranked rows) l rank (inl (parents-sire rows rank parents at ∙ none)))

-- a lineage's window, and the next animal
module _ (l : ℕ) (window : Window) (f : IsLineage l MOST_ANIMALS window.lineage) (w : HasParentsWithin window.lineage window.places) (held : IsWindow l window) where
  -- what stands in the window of one of the last animals and a parent is their entry
  pub parent-entry : (z : ℕ) (parent : Option ℕ) → IsLast window.places (length window.coefficients) z
      → ((p : ℕ) → parent ≡ Some p → IsNear (length window.coefficients) window.places p)
      → with_parent window.places window.entries (option_map (λ p. p % window.places) parent) (z % window.places) ≡ entry (ranked window.lineage) (2 * l) (Some z) parent
  parent-entry z None last near = sym (entry-none_right (ranked window.lineage) (2 * l) (Some z))
  parent-entry z (Some p) last near =
      let few = held.few in
      let before = (near p refl).before in
      let low = last.before in
      held.entries_are p z (near-last (length window.coefficients) window.places p (near p refl)) last
      ∙ swapped l window.lineage f (2 * l) p z (omega (arith, few, before)) (omega (arith, few, low))

  -- a parent's place isn't that of the next animal
  pub parent-apart : (parent : Option ℕ) → ((p : ℕ) → parent ≡ Some p → IsNear (length window.coefficients) window.places p)
      → ForSome (option_map (λ p. p % window.places) parent) (λ s. (s < window.places) × (s ≢ length window.coefficients % window.places))
  parent-apart None near place is = absurd (none-some place is)
  parent-apart (Some p) near place is =
      let same : p % window.places ≡ place = ap (λ o. unwrap_or o 0) is in
      let n = near p refl in
      subst (λ s. (s < window.places) × (s ≢ length window.coefficients % window.places)) same
      (mod_below p window.places held.some, places-differ window.places p (length window.coefficients) held.some n.before n.near)

  module _ (parents : Parents) (at_rank : AreParentsAt window.lineage (length window.coefficients) parents) where
    pub sire_near : (p : ℕ) → parents.sire ≡ Some p → IsNear (length window.coefficients) window.places p
    sire_near p is = sire-near l window.lineage f window.places w (length window.coefficients) p parents at_rank is

    pub dam_near : (p : ℕ) → parents.dam ≡ Some p → IsNear (length window.coefficients) window.places p
    dam_near p is = dam-near l window.lineage f window.places w (length window.coefficients) p parents at_rank is

    -- the window with the entries of the next animal
    pub window-more : (place coefficient : ℕ) (sire dam : Option ℕ) (entries coefficients : List ℕ) → place ≡ length window.coefficients % window.places
        → sire ≡ option_map (λ p. p % window.places) parents.sire → dam ≡ option_map (λ p. p % window.places) parents.dam
        → coefficient ≡ coefficient_at l window.lineage (length window.coefficients) → coefficients ≡ window.coefficients ++ coefficient ∷ []
        → length entries ≡ length window.entries → All (λ e. e < 2 ^ (2 * l + 1)) entries
        → at window.places entries place place ≡ 2 ^ (2 * l) + coefficient
        → ((y : ℕ) → y < window.places → y ≢ place → at window.places entries place y ≡ (with_parent window.places window.entries sire y + with_parent window.places window.entries dam y) / 2)
        → ((x : ℕ) → x < window.places → at window.places entries x place ≡ at window.places entries place x)
        → ((x y : ℕ) → x < window.places → y < window.places → x ≢ place → y ≢ place → at window.places entries x y ≡ at window.places window.entries x y)
        → IsWindow l (window_of window.lineage window.places entries coefficients)
    window-more place coefficient sire dam entries coefficients at_place sire_is dam_is is pushed long small own row column others =
        let rows = window.lineage in
        let kin = ranked rows in
        let places = window.places in
        let rank : ℕ = length window.coefficients in
        let within : rank < length rows = parents-within rows rank parents at_rank in
        let count : length coefficients ≡ rank + 1 = ap length pushed ∙ length_push window.coefficients coefficient in
        let there : (z : ℕ) → z ≡ rank → z % places ≡ place = λ z same. ap (λ n. n % places) same ∙ sym at_place in
        let near : (z : ℕ) → z < rank → IsLast places (length coefficients) z → IsNear rank places z = λ z low last. let n = last.near in record { before = low; near = omega (arith, count, n) } in
        let apart : (z : ℕ) → z < rank → IsLast places (length coefficients) z → z % places ≢ place = λ z low last e. places-differ places z rank held.some low (near z low last).near (e ∙ at_place) in
        let older : (z : ℕ) → z < rank → IsLast places (length coefficients) z → at places entries place (z % places) ≡ entry kin (2 * l) (Some z) (Some rank) = λ z low last.
        let was : IsLast places rank z = near-last rank places z (near z low last) in
        row (z % places) (mod_below z places held.some) (apart z low last)
        ∙ half-entry l rows f z rank _ _ parents at_rank low
        (ap (λ o. with_parent places window.entries o (z % places)) sire_is ∙ parent-entry z parents.sire was sire_near)
        (ap (λ o. with_parent places window.entries o (z % places)) dam_is ∙ parent-entry z parents.dam was dam_near) in
        record {
          few = omega (arith, count, within);
          some = held.some;
          long = long ∙ held.long;
          small = small;
          coefficients_are = λ r low.
              ⊎_elim
              (λ (before : r < rank). ap (λ cs. slice_index cs r) pushed ∙ get_or_append_left window.coefficients (coefficient ∷ []) 0 r before ∙ held.coefficients_are r before)
              (λ (last : rank ≤ r).
              let same : r ≡ rank = omega (arith, count, low, last) in
              ap (λ cs. slice_index cs r) pushed ∙ get_or_push window.coefficients coefficient 0 r (sym same) ∙ is ∙ ap (λ n. coefficient_at l rows n) (sym same))
              (cases_lt r rank);
          entries_are = λ x y lx ly.
              ⊎_elim
              (λ (x_low : x < rank).
              ⊎_elim
              (λ (y_low : y < rank).
              others (x % places) (y % places) (mod_below x places held.some) (mod_below y places held.some) (apart x x_low lx) (apart y y_low ly)
              ∙ held.entries_are x y (near-last rank places x (near x x_low lx)) (near-last rank places y (near y y_low ly)))
              (λ (y_last : rank ≤ y).
              let same : y ≡ rank = let b = ly.before in omega (arith, count, b, y_last) in
              ap (λ n. at places entries (x % places) n) (there y same) ∙ column (x % places) (mod_below x places held.some) ∙ older x x_low lx
              ∙ ap (λ n. entry kin (2 * l) (Some x) (Some n)) (sym same))
              (cases_lt y rank))
              (λ (x_last : rank ≤ x).
              let same : x ≡ rank = let b = lx.before in omega (arith, count, b, x_last) in
              ⊎_elim
              (λ (y_low : y < rank).
              ap (λ n. at places entries n (y % places)) (there x same) ∙ older y y_low ly ∙ swapped l rows f (2 * l) y rank (omega (arith, y_low, within)) within
              ∙ ap (λ n. entry kin (2 * l) (Some n) (Some y)) (sym same))
              (λ (y_last : rank ≤ y).
              let other : y ≡ rank = let b = ly.before in omega (arith, count, b, y_last) in
              ap (λ n. at places entries n (y % places)) (there x same) ∙ ap (λ n. at places entries place n) (there y other) ∙ own
              ∙ ap (λ n. 2 ^ (2 * l) + n) is ∙ own-entry l rows f rank within
              ∙ ap (λ n. entry kin (2 * l) (Some n) (Some rank)) (sym same) ∙ ap (λ n. entry kin (2 * l) (Some x) (Some n)) (sym other))
              (cases_lt y rank))
              (cases_lt x rank);
        }
