-- A tracing over a lineage: its start, its steps, and what is met.
use Rattle.std.proofs.Common.{ℕ, zero, suc, ◌+◌, ◌*◌, ◌-◌, ◌/◌, ◌%◌, ◌^◌, ◌<◌, ◌≤◌, ◌≡◌, inl, inr, ⊎_elim, List, length, slice_get, get_or, set, Some, None, Option, arith, refl, sym, ap, subst, ◌∙◌}
use Rattle.std.proofs.Math.Nat.{mod-eq_of_lt, mul-le-mul_left}
use Rattle.std.proofs.Math.Pow.{pow_pos}
use Rattle.std.proofs.lemmas.Bool.{cases_eq}
use Rattle.std.proofs.lemmas.List.{get_or-set_same, get_or-set_other, length-set}
use Rattle.herd_lineage.specs.declared.lineage.Parents.{Parents}
use Rattle.herd_lineage.specs.declared.TheConstants.{MOST_ANIMALS}
use Rattle.herd_lineage.specs.Lineage.{IsLineage, depth_at, dam_rank, sire_rank}
use Rattle.herd_kinship.specs.Ancestry.{PathTo}
use Rattle.herd_kinship.specs.Shares.{share}
use Rattle.herd_kinship.specs.Ranks.{AreParentsAt, ranked}
use Rattle.herd_kinship.specs.Tracing.{brought, given, kept_share, HasRoom, IsTracing, IsNext, IsShareOf}
use Rattle.herd_kinship.proofs.lemmas.ancestry.Ancestors.{share-reached, path-joined}
use Rattle.herd_kinship.proofs.lemmas.tracing.Brought.{brought-agree, brought-more, brought-none, brought-add, share-within, of_known, own-share, lowered, passed_on}
use Rattle.herd_kinship.proofs.lemmas.numbers.Sums.{cancel}
use Rattle.herd_kinship.proofs.lemmas.lineages.LineageFacts.{ranked-depth, ranked-below_depth, depth-at_most, parent-less_deep}
use Rattle.herd_kinship.proofs.lemmas.lineages.LineageFacts.{lineage-ranked, ranked-lawful, ranked-shallow}
use Rattle.herd_kinship.proofs.lemmas.tracing.OwnUnits.{half-own, share-own}
use Rattle.herd_kinship.proofs.lemmas.lineages.ParentsFacts.{parents-depth}
use Rattle.herd_kinship.proofs.lemmas.lineages.Ranks.{rank-in}

pub length-given : (rows : List Parents) (x : ℕ) (shares : List ℕ) (y own : ℕ) (o : Option ℕ) → length (given rows x shares y own o) ≡ length shares
length-given rows x shares y own None = refl
length-given rows x shares y own (Some p) = length-set shares (x - p) _

-- what the depths of y and of its parent p say of the share that p gets
pub record IsGift (l : ℕ) (rows : List Parents) (x : ℕ) (shares : List ℕ) (y own p deep depth : ℕ) : Type 0 where
  pub distance : p ≤ x
  pub less_deep : depth < deep
  pub steps : deep - depth - 1 < 64
  pub exact : own * 2 ^ (deep - depth - 1) % 2 ^ 64 ≡ own * 2 ^ (depth_at rows y - depth_at rows p - 1)
  pub fits : get_or shares (x - p) 0 + own * 2 ^ (deep - depth - 1) % 2 ^ 64 < 2 ^ 64

pub gift-is : (l : ℕ) (rows : List Parents) (x : ℕ) (shares : List ℕ) (y own p : ℕ) (deep : ℕ) (older : Parents) → l < 64 → 2 ^ l < 2 ^ 64 → HasRoom l rows x shares y own p →
    deep ≡ depth_at rows y → AreParentsAt rows p older → IsGift l rows x shares y own p deep older.depth
gift-is l rows x shares y own p deep older small power h at there =
    let dy : depth_at rows y ≡ deep = sym at in
    let dp = parents-depth rows p older there in
    let lower : p < y = h.lower in
    let met : y ≤ x = h.met in
    let less : depth_at rows p < depth_at rows y = h.less_deep in
    let shallow : depth_at rows y ≤ l = h.shallow in
    let room = h.room in
    let more : ℕ = own * 2 ^ (depth_at rows y - depth_at rows p - 1) in
    let fits : more < 2 ^ 64 = omega arith in
    let exact : own * 2 ^ (deep - older.depth - 1) % 2 ^ 64 ≡ more = rw (← dy, ← dp) (mod-eq_of_lt fits) in
    record {
      distance = omega arith;
      less_deep = omega (arith, dy, dp);
      steps = omega (arith, dy, dp);
      exact = exact;
      fits = omega (arith, exact);
    }

-- a known parent of y: below it, and less deep
abbrev pub IsLower : List Parents → ℕ → Option ℕ → Type 0
IsLower rows y o = (p : ℕ) → o ≡ Some p → (p < y) × (depth_at rows p < depth_at rows y)

module _ (l : ℕ) (rows : List Parents) (x : ℕ) (limit : depth_at rows x ≤ l) where
  -- what is kept for the parent grows by half of y's share
  given-parent : (shares : List ℕ) (y own p : ℕ) → p < y → y ≤ x → x < length shares → depth_at rows p < depth_at rows y →
      kept_share l rows x (given rows x shares y own (Some p)) p
      ≡ kept_share l rows x shares p + own * 2 ^ (l - depth_at rows x + depth_at rows y) / 2
  given-parent shares y own p lp ly long less =
      let unit : ℕ = 2 ^ (l - depth_at rows x + depth_at rows p) in
      let more : ℕ = own * 2 ^ (depth_at rows y - depth_at rows p - 1) in
      let here : get_or (given rows x shares y own (Some p)) (x - p) 0 ≡ get_or shares (x - p) 0 + more =
      get_or-set_same shares (x - p) (get_or shares (x - p) 0 + more) 0 (omega arith) in
      let half = half-own l (depth_at rows x) (depth_at rows y) (depth_at rows p) own limit less in
      ap (λ v. v * unit) here ∙ (let e : (get_or shares (x - p) 0 + more) * unit ≡ get_or shares (x - p) 0 * unit + more * unit = omega arith in e ∙ ap (λ v. get_or shares (x - p) 0 * unit + v) (sym half))

  given-other : (shares : List ℕ) (y own p q : ℕ) → p ≤ x → q ≤ x → (q ≡ p → ⊥) →
      kept_share l rows x (given rows x shares y own (Some p)) q ≡ kept_share l rows x shares q
  given-other shares y own p q lp lq other =
      ap (λ v. v * 2 ^ (l - depth_at rows x + depth_at rows q))
      (get_or-set_other shares (x - p) (x - q) _ 0 (λ e. other (omega arith)))

  brought-given : (shares : List ℕ) (y own : ℕ) (o : Option ℕ) (has : ℕ → ℕ) → y ≤ x → x < length shares → IsLower rows y o →
      brought (kept_share l rows x (given rows x shares y own o)) y has
      ≡ brought (kept_share l rows x shares) y has + own * 2 ^ (l - depth_at rows x + depth_at rows y) / 2 * of_known has o
  brought-given shares y own None has ly long lower = omega arith
  brought-given shares y own (Some p) has ly long lower =
      let low = lower p refl in
      let lp : p < y = low.0 in
      brought-add (kept_share l rows x shares) (kept_share l rows x (given rows x shares y own (Some p))) y p
      (own * 2 ^ (l - depth_at rows x + depth_at rows y) / 2) has lp (given-parent shares y own p lp ly long low.1)
      (λ q lq other. given-other shares y own p q (omega arith) (omega arith) other)

-- what is kept for animals that are met stays
given-met : (rows : List Parents) (x : ℕ) (shares : List ℕ) (y own : ℕ) (o : Option ℕ) → y ≤ x → IsLower rows y o → (d : ℕ) → (d ≤ x → y ≤ x - d) →
    get_or (given rows x shares y own o) d 0 ≡ get_or shares d 0
given-met rows x shares y own None ly lower d above = refl
given-met rows x shares y own (Some p) ly lower d above =
    let low : p < y = (lower p refl).0 in
    get_or-set_other shares (x - p) d _ 0 (λ e. let high = above (omega arith) in omega arith)

-- nothing is kept any more for y
abbrev pub emptied : ℕ → ℕ → List ℕ → List ℕ
emptied x y shares = set shares (x - y) 0

-- what is kept below y brings the same
brought-emptied : (l : ℕ) (rows : List Parents) (x y : ℕ) (shares : List ℕ) (has : ℕ → ℕ) → y ≤ x →
    brought (kept_share l rows x (emptied x y shares)) y has ≡ brought (kept_share l rows x shares) y has
brought-emptied l rows x y shares has ly =
    brought-agree (kept_share l rows x (emptied x y shares)) (kept_share l rows x shares) y has has
    (λ p low. ap (λ v. v * 2 ^ (l - depth_at rows x + depth_at rows p) * has p) (get_or-set_other shares (x - y) (x - p) 0 0 (λ e. omega arith)))

known_one : (o : Option ℕ) → of_known (λ _. 1) o ≤ 1
known_one None = omega arith
known_one (Some p) = omega arith

le_halves : (s a b : ℕ) → a ≤ 1 → b ≤ 1 → s / 2 * a + s / 2 * b ≤ s
le_halves s a b la lb =
    let x : s / 2 * a ≤ s / 2 * 1 = mul-le-mul_left (s / 2) la in
    let y : s / 2 * b ≤ s / 2 * 1 = mul-le-mul_left (s / 2) lb in
    omega arith

module _ (l : ℕ) (rows : List Parents) (f : IsLineage l MOST_ANIMALS rows) where
  lower-sire : (y : ℕ) → y < length rows → IsLower rows y (sire_rank rows y)
  lower-sire y ly p e =
      let low : p < y = (lineage-ranked l MOST_ANIMALS rows f).below y p ly (inl e) in
      (low, parent-less_deep l MOST_ANIMALS rows f y p ly (omega arith) (inl e))

  lower-dam : (y : ℕ) → y < length rows → IsLower rows y (dam_rank rows y)
  lower-dam y ly p e =
      let low : p < y = (lineage-ranked l MOST_ANIMALS rows f).below y p ly (inr e) in
      (low, parent-less_deep l MOST_ANIMALS rows f y p ly (omega arith) (inr e))

  -- the share that is kept for the youngest pending rank is all that x has of it
  kept-is : (x y : ℕ) (shares : List ℕ) → IsTracing l rows x (y + 1) shares →
      kept_share l rows x shares y ≡ share (ranked rows) l (Some x) y
  kept-is x y shares t =
      let lx : x < length rows = t.rank in
      let b : y + 1 ≤ x + 1 = t.border_in in
      own-share (length rows) (sire_rank rows) (dam_rank rows) (lineage-ranked l MOST_ANIMALS rows f) l (ranked-shallow l MOST_ANIMALS rows f) x y
      (kept_share l rows x shares) (omega arith) t.pending

  -- where nothing is kept for it the border goes down
  tracing-lower : (x y : ℕ) (shares : List ℕ) → IsTracing l rows x (y + 1) shares → get_or shares (x - y) 0 ≡ 0 → IsTracing l rows x y shares
  tracing-lower x y shares t none =
      let kept : ℕ → ℕ = kept_share l rows x shares in
      let b : y + 1 ≤ x + 1 = t.border_in in
      let zero : kept y ≡ 0 = ap (λ v. v * 2 ^ (l - depth_at rows x + depth_at rows y)) none ∙ omega arith in
      let more = brought-more kept y (λ _. 1) in
      let all = t.whole in
      let b : y + 1 ≤ x + 1 = t.border_in in
      record {
        lineage = f;
        rank = t.rank;
        border_in = omega arith;
        long = t.long;
        whole = omega (arith, more, all);
        pending = lowered (length rows) (sire_rank rows) (dam_rank rows) (lineage-ranked l MOST_ANIMALS rows f) l (ranked-shallow l MOST_ANIMALS rows f) x y kept zero t.pending;
        met = λ d above.
            ⊎_elim
            (λ (e : x - y ≡ d). subst (λ v. get_or shares v 0 ≡ 0) e none)
            (λ (n : x - y ≡ d → ⊥). t.met d (λ near. let low = above near in omega arith))
            (cases_eq (x - y) d);
      }

  abbrev pub passed : ℕ → ℕ → List ℕ → List ℕ
  passed x y shares =
      given rows x (given rows x (emptied x y shares) y (get_or shares (x - y) 0) (sire_rank rows y)) y (get_or shares (x - y) 0) (dam_rank rows y)

  emptied-long : (x y : ℕ) (shares : List ℕ) → x < length shares → x < length (emptied x y shares)
  emptied-long x y shares long = let e = length-set shares (x - y) 0 in omega (arith, e, long)

  given-long : (x : ℕ) (shares : List ℕ) (y own : ℕ) (o : Option ℕ) → x < length shares → x < length (given rows x shares y own o)
  given-long x shares y own o long = let e = length-given rows x shares y own o in omega (arith, e, long)

  grown : (x y : ℕ) (shares : List ℕ) → IsTracing l rows x (y + 1) shares → (has : ℕ → ℕ) →
      brought (kept_share l rows x (passed x y shares)) y has
      ≡ brought (kept_share l rows x shares) y has
      + (kept_share l rows x shares y / 2 * of_known has (sire_rank rows y) + kept_share l rows x shares y / 2 * of_known has (dam_rank rows y))
  grown x y shares t has =
      let own : ℕ = get_or shares (x - y) 0 in
      let lx : x < length rows = t.rank in
      let b : y + 1 ≤ x + 1 = t.border_in in
      let ly : y < length rows = omega arith in
      let limit = depth-at_most l MOST_ANIMALS rows f x lx in
      let empty = emptied x y shares in
      let first = given rows x empty y own (sire_rank rows y) in
      let same = brought-emptied l rows x y shares has (omega arith) in
      let long = emptied-long x y shares t.long in
      let a = brought-given l rows x limit empty y own (sire_rank rows y) has (omega arith) long (lower-sire y ly) in
      let c = brought-given l rows x limit first y own (dam_rank rows y) has (omega arith) (given-long x empty y own (sire_rank rows y) long) (lower-dam y ly) in
      omega (arith, same, a, c)

  -- and else its share is passed on to its parents
  tracing-next : (x y : ℕ) (shares : List ℕ) → IsTracing l rows x (y + 1) shares → IsTracing l rows x y (passed x y shares)
  tracing-next x y shares t =
      let own : ℕ = get_or shares (x - y) 0 in
      let kept : ℕ → ℕ = kept_share l rows x shares in
      let empty = emptied x y shares in
      let first = given rows x empty y own (sire_rank rows y) in
      let lx : x < length rows = t.rank in
      let b : y + 1 ≤ x + 1 = t.border_in in
      let ly : y < length rows = omega arith in
      let long = emptied-long x y shares t.long in
      let more = brought-more kept y (λ _. 1) in
      let all = t.whole in
      let g = grown x y shares t (λ _. 1) in
      let h = le_halves (kept y) _ _ (known_one (sire_rank rows y)) (known_one (dam_rank rows y)) in
      record {
        lineage = f;
        rank = lx;
        border_in = omega arith;
        long = given-long x first y own (dam_rank rows y) (given-long x empty y own (sire_rank rows y) long);
        whole = omega (arith, more, all, g, h);
        pending = passed_on (length rows) (sire_rank rows) (dam_rank rows) (lineage-ranked l MOST_ANIMALS rows f) l (ranked-shallow l MOST_ANIMALS rows f) x y
            kept (kept_share l rows x (passed x y shares)) lx ly t.pending (grown x y shares t);
        met = λ d above.
            given-met rows x first y own (dam_rank rows y) (omega arith) (lower-dam y ly) d above
            ∙ (given-met rows x empty y own (sire_rank rows y) (omega arith) (lower-sire y ly) d above
            ∙ ⊎_elim
            (λ (e : d ≡ x - y). rw e (get_or-set_same shares (x - y) 0 0 (let n = t.long in omega arith)))
            (λ (n : d ≡ x - y → ⊥).
            get_or-set_other shares (x - y) d 0 0 n ∙ t.met d (λ near. let low = above near in omega arith))
            (cases_eq d (x - y)));
      }

  -- a share in its own unit is at most the whole
  within-whole : (x p : ℕ) (shares : List ℕ) (b : ℕ) → p < b → brought (kept_share l rows x shares) b (λ _. 1) ≤ 2 ^ l → get_or shares (x - p) 0 ≤ 2 ^ l
  within-whole x p shares b low whole =
      let s : ℕ = get_or shares (x - p) 0 in
      let unit : ℕ = 2 ^ (l - depth_at rows x + depth_at rows p) in
      let one : 1 ≤ unit = pow_pos (l - depth_at rows x + depth_at rows p) in
      let grows : s * 1 ≤ s * unit = mul-le-mul_left s one in
      let part = share-within (kept_share l rows x shares) b p low in
      omega arith

  given-whole : (x y : ℕ) (shares : List ℕ) (o : Option ℕ) → x < length rows → y ≤ x → x < length shares → IsLower rows y o → (own left : ℕ) →
      brought (kept_share l rows x shares) y (λ _. 1) + left ≤ 2 ^ l → own * 2 ^ (l - depth_at rows x + depth_at rows y) / 2 ≤ left →
      brought (kept_share l rows x (given rows x shares y own o)) y (λ _. 1) ≤ 2 ^ l
  given-whole x y shares o lx ly long lower own left room half =
      let a = brought-given l rows x (depth-at_most l MOST_ANIMALS rows f x lx) shares y own o (λ _. 1) ly long lower in
      let k = known_one o in
      let h : own * 2 ^ (l - depth_at rows x + depth_at rows y) / 2 * of_known (λ _. 1) o ≤ own * 2 ^ (l - depth_at rows x + depth_at rows y) / 2 * 1 =
      mul-le-mul_left (own * 2 ^ (l - depth_at rows x + depth_at rows y) / 2) k in
      omega (arith, a, h)

  room-given : (x y : ℕ) (shares : List ℕ) (o : Option ℕ) → x < length rows → y ≤ x → x < length shares → IsLower rows y o → (own left : ℕ) →
      brought (kept_share l rows x shares) y (λ _. 1) + left ≤ 2 ^ l → own * 2 ^ (l - depth_at rows x + depth_at rows y) / 2 ≤ left →
      (p : ℕ) → o ≡ Some p → HasRoom l rows x shares y own p
  room-given x y shares o lx ly long lower own left room half p e =
      let low = lower p e in
      let lp : p < y = low.0 in
      let whole : brought (kept_share l rows x (given rows x shares y own (Some p))) y (λ _. 1) ≤ 2 ^ l =
      subst (λ v. brought (kept_share l rows x (given rows x shares y own v)) y (λ _. 1) ≤ 2 ^ l) e
      (given-whole x y shares o lx ly long lower own left room half) in
      let here : get_or (given rows x shares y own (Some p)) (x - p) 0 ≡ get_or shares (x - p) 0 + own * 2 ^ (depth_at rows y - depth_at rows p - 1) =
      get_or-set_same shares (x - p) (get_or shares (x - p) 0 + own * 2 ^ (depth_at rows y - depth_at rows p - 1)) 0 (omega arith) in
      let fits = within-whole x p (given rows x shares y own (Some p)) y lp whole in
      record {
        rank = lx;
        met = ly;
        lower = lp;
        long = long;
        less_deep = low.1;
        shallow = depth-at_most l MOST_ANIMALS rows f y (omega arith);
        room = omega (arith, fits, here);
      }

  -- there is room for what the sire gets
  room-sire : (x y : ℕ) (shares : List ℕ) → IsTracing l rows x (y + 1) shares → (p : ℕ) → sire_rank rows y ≡ Some p →
      HasRoom l rows x (emptied x y shares) y (get_or shares (x - y) 0) p
  room-sire x y shares t p e =
      let lx : x < length rows = t.rank in
      let b : y + 1 ≤ x + 1 = t.border_in in
      let ly : y < length rows = omega arith in
      let kept : ℕ → ℕ = kept_share l rows x shares in
      let more = brought-more kept y (λ _. 1) in
      let all = t.whole in
      let same = brought-emptied l rows x y shares (λ _. 1) (omega arith) in
      room-given x y (emptied x y shares) (sire_rank rows y) lx (omega arith) (emptied-long x y shares t.long) (lower-sire y ly) (get_or shares (x - y) 0) (kept y)
      (omega (arith, same, more, all)) (omega arith) p e

  -- and for what the dam gets then
  room-dam : (x y : ℕ) (shares : List ℕ) → IsTracing l rows x (y + 1) shares → (p : ℕ) → dam_rank rows y ≡ Some p →
      HasRoom l rows x (given rows x (emptied x y shares) y (get_or shares (x - y) 0) (sire_rank rows y)) y (get_or shares (x - y) 0) p
  room-dam x y shares t p e =
      let lx : x < length rows = t.rank in
      let b : y + 1 ≤ x + 1 = t.border_in in
      let ly : y < length rows = omega arith in
      let own : ℕ = get_or shares (x - y) 0 in
      let kept : ℕ → ℕ = kept_share l rows x shares in
      let more = brought-more kept y (λ _. 1) in
      let all = t.whole in
      let empty = emptied x y shares in
      let long = emptied-long x y shares t.long in
      let same = brought-emptied l rows x y shares (λ _. 1) (omega arith) in
      let a = brought-given l rows x (depth-at_most l MOST_ANIMALS rows f x lx) empty y own (sire_rank rows y) (λ _. 1) (omega arith) long (lower-sire y ly) in
      let k = known_one (sire_rank rows y) in
      let h : kept y / 2 * of_known (λ _. 1) (sire_rank rows y) ≤ kept y / 2 * 1 = mul-le-mul_left (kept y / 2) k in
      room-given x y (given rows x empty y own (sire_rank rows y)) (dam_rank rows y) lx (omega arith)
      (given-long x empty y own (sire_rank rows y) long) (lower-dam y ly) own (kept y / 2)
      (omega (arith, same, more, all, a, h)) (omega arith) p e

  -- the whole of x is pending at first
  pub tracing-start : (x : ℕ) (nothing : List ℕ) → x < length rows → x < length nothing → ((d : ℕ) → get_or nothing d 0 ≡ 0) →
      IsTracing l rows x (x + 1) (set nothing 0 1)
  tracing-start x nothing lx long empty_is =
      let kin = ranked rows in
      let shares : List ℕ = set nothing 0 1 in
      let kept : ℕ → ℕ = kept_share l rows x shares in
      let limit = depth-at_most l MOST_ANIMALS rows f x lx in
      let first : get_or shares 0 0 ≡ 1 = get_or-set_same nothing 0 1 0 (omega arith) in
      let own : kept x ≡ 2 ^ l =
      (let e : x - x ≡ 0 = omega arith in
      let g : l - depth_at rows x + depth_at rows x ≡ l = omega arith in
      rw (e, g, first) (omega arith)) in
      let rest : (d : ℕ) → (d ≡ 0 → ⊥) → get_or shares d 0 ≡ 0 = λ d other. get_or-set_other nothing 0 d 1 0 other ∙ empty_is d in
      let others : (p : ℕ) → p < x → kept p ≡ 0 = λ p low.
      (let e : get_or shares (x - p) 0 ≡ 0 = rest (x - p) (λ z. omega arith) in
      ap (λ v. v * 2 ^ (l - depth_at rows x + depth_at rows p)) e ∙ omega arith) in
      let brings : (has : ℕ → ℕ) → brought kept (x + 1) has ≡ 2 ^ l * has x = λ has.
      (let more = brought-more kept x has in
      let none = brought-none kept x has (λ p low. let z = others p low in rw z (omega arith)) in
      let last : kept x * has x ≡ 2 ^ l * has x = ap (λ v. v * has x) own in
      omega (arith, more, none, last)) in
      record {
        lineage = f;
        rank = lx;
        border_in = omega arith;
        long = let e = length-set nothing 0 1 in omega (arith, e, long);
        whole = let b = brings (λ _. 1) in omega (arith, b);
        pending = λ j lj. brings (λ p. share kin l (Some p) j);
        met = λ d above. rest d (λ e. let high = above (omega arith) in omega arith);
      }

  -- a kept share that isn't 0 is that of an ancestor which isn't deeper
  kept-share_of : (x j own : ℕ) → x < length rows → j < length rows → own * 2 ^ (l - depth_at rows x + depth_at rows j) ≡ share (ranked rows) l (Some x) j →
      0 < own → IsShareOf rows x j own
  kept-share_of x j own lx lj is pos =
      let kin = ranked rows in
      let w = ranked-lawful l MOST_ANIMALS rows f in
      let dx = ranked-depth l MOST_ANIMALS rows f x lx in
      let dj = ranked-depth l MOST_ANIMALS rows f j lj in
      let limit = depth-at_most l MOST_ANIMALS rows f x lx in
      let unit : ℕ = 2 ^ (l - depth_at rows x + depth_at rows j) in
      let not_deeper : depth_at rows j ≤ depth_at rows x =
      ⊎_elim
      (λ (z : share kin l (Some x) j ≡ 0).
      let none : unit * own ≡ unit * 0 = omega (arith, is, z) in
      let zero : own ≡ 0 = cancel unit own 0 (pow_pos (l - depth_at rows x + depth_at rows j)) none in
      absurd (omega arith))
      (λ r.
      let same : r.0 ≡ x = cc (r.1) in
      let k : ℕ = r.2.0 in
      let to : PathTo kin k x j = subst (λ v. PathTo kin k v j) same r.2.1 in
      let long : k + depth_at rows j ≤ depth_at rows x =
      dx.1 (k + depth_at rows j) (path-joined kin w k (depth_at rows j) x j (rank-in (length rows) x lx) to dj.0) in
      omega arith)
      (share-reached kin w l (Some x) j) in
      record {
        some = pos;
        less_deep = not_deeper;
        own_is = share-own kin w l (depth_at rows x) (depth_at rows j) own x j limit not_deeper (ranked-below_depth l MOST_ANIMALS rows f x lx) dj.0 is;
      }

  -- of a rank with a share that isn't 0, below which the border goes next
  next-is : (x y b : ℕ) (shares : List ℕ) → IsTracing l rows x (y + 1) shares →
      y < b → b ≤ x + 1 → ((j : ℕ) → y < j → j < b → share (ranked rows) l (Some x) j ≡ 0) → 0 < get_or shares (x - y) 0 →
      IsNext l rows x b y (get_or shares (x - y) 0)
  next-is x y b shares t lb bx between pos =
      let lx : x < length rows = t.rank in
      let by' : y + 1 ≤ x + 1 = t.border_in in
      record {
        below = lb;
        share_is = kept-share_of x y (get_or shares (x - y) 0) lx (omega arith) (kept-is x y shares t) pos;
        between = between;
      }

-- what a tracing's step finds at the youngest pending rank
pub record IsStep (l : ℕ) (rows : List Parents) (x y : ℕ) (shares : List ℕ) (own : ℕ) : Type 0 where
  pub tracing : IsTracing l rows x (y + 1) shares
  pub own_is : own ≡ get_or shares (x - y) 0

module _ (l : ℕ) (rows : List Parents) (x y : ℕ) (shares : List ℕ) (own : ℕ) (step : IsStep l rows x y shares own) where
  f : IsLineage l MOST_ANIMALS rows
  f = step.tracing.lineage

  pub step-room_sire : (row : Parents) → slice_get rows y ≡ Some row → (p : ℕ) → row.sire ≡ Some p → HasRoom l rows x (emptied x y shares) y own p
  step-room_sire row e p is =
      subst (λ v. HasRoom l rows x (emptied x y shares) y v p) (sym step.own_is)
      (room-sire l rows f x y shares step.tracing p ((let s : sire_rank rows y ≡ row.sire = rw e refl in s) ∙ is))

  pub step-room_dam : (row : Parents) → slice_get rows y ≡ Some row → (p : ℕ) → row.dam ≡ Some p →
      HasRoom l rows x (given rows x (emptied x y shares) y own row.sire) y own p
  step-room_dam row e p is =
      let s : sire_rank rows y ≡ row.sire = rw e refl in
      let d : dam_rank rows y ≡ row.dam = rw e refl in
      subst (λ o. HasRoom l rows x (given rows x (emptied x y shares) y own o) y own p) s
      (subst (λ v. HasRoom l rows x (given rows x (emptied x y shares) y v (sire_rank rows y)) y v p) (sym step.own_is)
      (room-dam l rows f x y shares step.tracing p (d ∙ is)))

  -- its share is passed on
  pub step-next : (row : Parents) → slice_get rows y ≡ Some row →
      IsTracing l rows x y (given rows x (given rows x (emptied x y shares) y own row.sire) y own row.dam)
  step-next row e =
      let s : sire_rank rows y ≡ row.sire = rw e refl in
      let d : dam_rank rows y ≡ row.dam = rw e refl in
      subst (λ o. IsTracing l rows x y (given rows x (given rows x (emptied x y shares) y own row.sire) y own o)) d
      (subst (λ o. IsTracing l rows x y (given rows x (given rows x (emptied x y shares) y own o) y own (dam_rank rows y))) s
      (subst (λ v. IsTracing l rows x y (given rows x (given rows x (emptied x y shares) y v (sire_rank rows y)) y v (dam_rank rows y))) (sym step.own_is)
      (tracing-next l rows f x y shares step.tracing)))

  -- it is the next ancestor, where x has nothing of those between it and the border
  pub step-is : (top : ℕ) → ((j : ℕ) → y < j → j < top → share (ranked rows) l (Some x) j ≡ 0) → y < top → top ≤ x + 1 → 0 < own → IsNext l rows x top y own
  step-is top between low high some =
      let is = step.own_is in
      subst (λ v. IsNext l rows x top y v) (sym is)
      (next-is l rows f x y top shares step.tracing low high between (let q : 0 < get_or shares (x - y) 0 = omega arith in q))

  pub step-lower_sire : (row : Parents) → slice_get rows y ≡ Some row → IsLower rows y row.sire
  step-lower_sire row e =
      let lx : x < length rows = step.tracing.rank in
      let high : y + 1 ≤ x + 1 = step.tracing.border_in in
      subst (λ o. IsLower rows y o) (let s : sire_rank rows y ≡ row.sire = rw e refl in s) (lower-sire l rows f y (omega arith))

  pub step-lower_dam : (row : Parents) → slice_get rows y ≡ Some row → IsLower rows y row.dam
  step-lower_dam row e =
      let lx : x < length rows = step.tracing.rank in
      let high : y + 1 ≤ x + 1 = step.tracing.border_in in
      subst (λ o. IsLower rows y o) (let d : dam_rank rows y ≡ row.dam = rw e refl in d) (lower-dam l rows f y (omega arith))

-- the border goes down past ranks for which nothing is kept
pub lowered-to : (l : ℕ) (rows : List Parents) (x b n : ℕ) (shares : List ℕ) → IsTracing l rows x (n + b) shares →
    ((j : ℕ) → b ≤ j → j < n + b → get_or shares (x - j) 0 ≡ 0) → IsTracing l rows x b shares
lowered-to l rows x b zero shares t none = subst (λ v. IsTracing l rows x v shares) (let e : zero + b ≡ b = omega arith in e) t
lowered-to l rows x b (suc n) shares t none =
    let e : suc n + b ≡ n + b + 1 = omega arith in
    let t' : IsTracing l rows x (n + b + 1) shares = subst (λ v. IsTracing l rows x v shares) e t in
    lowered-to l rows x b n shares (tracing-lower l rows t'.lineage x (n + b) shares t' (none (n + b) (omega arith) (omega arith)))
    (λ j bj jb. none j bj (omega arith))

-- of an animal for which nothing is kept, nor for those between it and the border, x has nothing
pub share-none_kept : (l : ℕ) (rows : List Parents) (x b : ℕ) (shares : List ℕ) → IsTracing l rows x b shares → (j : ℕ) → j < b →
    ((i : ℕ) → j ≤ i → i < b → get_or shares (x - i) 0 ≡ 0) → share (ranked rows) l (Some x) j ≡ 0
share-none_kept l rows x b shares t j low none =
    let n : ℕ = b - (j + 1) in
    let e : b ≡ n + (j + 1) = omega arith in
    let t' : IsTracing l rows x (j + 1) shares =
    lowered-to l rows x (j + 1) n shares (subst (λ v. IsTracing l rows x v shares) e t) (λ i ji ib. none i (omega arith) (omega arith)) in
    sym (kept-is l rows t.lineage x j shares t')
    ∙ (ap (λ v. v * 2 ^ (l - depth_at rows x + depth_at rows j)) (none j (omega arith) low) ∙ omega arith)
