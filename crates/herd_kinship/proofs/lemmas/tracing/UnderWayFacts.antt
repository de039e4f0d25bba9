-- A tracing whose pending ancestors are marked: its start, the nearest one taken, and shares given.
use Rattle.std.proofs.Common.{ℕ, ◌+◌, ◌*◌, ◌-◌, ◌/◌, ◌%◌, ◌^◌, ◌<◌, ◌≤◌, ◌≡◌, ⊎_elim, List, length, get_or, replicate, set, slice_get, Some, None, Option, arith, refl, sym, ap, subst, ◌∙◌}
use Rattle.std.proofs.Math.Nat.{mul-le-mul_left}
use Rattle.std.proofs.Math.Pow.{pow_pos}
use Rattle.std.proofs.lemmas.Bool.{cases_eq, cases_lt}
use Rattle.std.proofs.lemmas.Nat.Bits.{bit_at-lt}
use Rattle.std.proofs.lemmas.List.{get_or-replicate, get_or-set_same, get_or-set_other, get_or_past, length-replicate, length-set}
use Rattle.herd_lineage.specs.declared.TheConstants.{MOST_ANIMALS}
use Rattle.herd_lineage.specs.declared.lineage.Parents.{Parents}
use Rattle.herd_lineage.specs.Lineage.{IsLineage, depth_at}
use Rattle.herd_kinship.specs.Pending.{mark, Marks}
use Rattle.herd_kinship.specs.Ranks.{AreParentsAt, ranked}
use Rattle.herd_kinship.specs.Shares.{share}
use Rattle.herd_kinship.specs.Tracing.{given, GivesMark, HasRoom, AreIdle, IsMarked, IsNext, IsPendingAt, IsTracing, AreUnderWay}
use Rattle.herd_kinship.proofs.lemmas.numbers.PendingFacts.{IsNearest}
use Rattle.herd_kinship.proofs.lemmas.tracing.TracingFacts.{IsLower, IsStep, length-given, lowered-to, share-none_kept, step-is, step-room_sire, step-room_dam, step-lower_sire, step-lower_dam, step-next, tracing-start}

-- the animal itself alone is pending at first
pub under_way-start : (l : ℕ) (rows : List Parents) (x : ℕ) (nothing empty chunks : List ℕ) → IsLineage l MOST_ANIMALS rows → x < length rows → AreIdle (x + 1) nothing empty →
    Marks empty chunks 0 1 → AreUnderWay l rows x (x + 1) (set nothing 0 1) chunks
under_way-start l rows x nothing empty chunks f lx idle marks =
    let start : List ℕ = set nothing 0 1 in
    let long = idle.room in
    let first : get_or start 0 0 ≡ 1 = get_or-set_same nothing 0 1 0 (omega arith) in
    record {
      tracing = tracing-start l rows f x nothing lx (omega arith) idle.nothing;
      marks = record {
        room = let e = marks.room in let room = idle.marks in omega (arith, e);
        marked = λ p low some.
            ⊎_elim
            (λ (here : x - p ≡ 0). rw here marks.here)
            (λ (other : x - p ≡ 0 → ⊥).
            let e : get_or start (x - p) 0 ≡ 0 = get_or-set_other nothing 0 (x - p) 1 0 other ∙ idle.nothing (x - p) in
            let kept : 0 < get_or start (x - p) 0 = some in
            let nothing_kept : 0 < 0 = subst (λ v. 0 < v) e kept in
            absurd (omega arith))
            (cases_eq (x - p) 0);
        pending = λ d is.
            ⊎_elim
            (λ (here : d ≡ 0).
            record {
              near = omega arith;
              below = omega arith;
              some = rw (here, first) (omega arith);
            })
            (λ (other : d ≡ 0 → ⊥). let z = marks.others d other in let n = idle.unmarked d in absurd (omega arith))
            (cases_eq d 0);
      };
    }

-- a share that is given to a parent is marked
given-marks : (rows : List Parents) (x y own : ℕ) (shares chunks chunks' : List ℕ) (o : Option ℕ) → IsMarked x y shares chunks → 0 < own → y ≤ x → x < length shares →
    IsLower rows y o → GivesMark x chunks chunks' o → IsMarked x y (given rows x shares y own o) chunks'
given-marks rows x y own shares chunks chunks' None m some high long lower gives = subst (λ v. IsMarked x y shares v) (sym gives) m
given-marks rows x y own shares chunks chunks' (Some p) m some high long lower gives =
    let low : p < y = (lower p refl).0 in
    let unit : ℕ = 2 ^ (depth_at rows y - depth_at rows p - 1) in
    let more : ℕ = own * unit in
    let one : 1 ≤ unit = pow_pos (depth_at rows y - depth_at rows p - 1) in
    let grows : own * 1 ≤ own * unit = mul-le-mul_left own one in
    let here : get_or (given rows x shares y own (Some p)) (x - p) 0 ≡ get_or shares (x - p) 0 + more =
    get_or-set_same shares (x - p) (get_or shares (x - p) 0 + more) 0 (omega arith) in
    let others : (e : ℕ) → (e ≡ x - p → ⊥) → get_or (given rows x shares y own (Some p)) e 0 ≡ get_or shares e 0 =
    λ e apart. get_or-set_other shares (x - p) e (get_or shares (x - p) 0 + more) 0 apart in
    record {
      room = let r = m.room in let e = gives.room in omega (arith, e);
      marked = λ q lq s.
          ⊎_elim
          (λ (same : x - q ≡ x - p). rw same gives.here)
          (λ (apart : x - q ≡ x - p → ⊥).
          let old : 0 < get_or shares (x - q) 0 = (let e = others (x - q) apart in omega arith) in
          gives.others (x - q) apart ∙ m.marked q lq old)
          (cases_eq (x - q) (x - p));
      pending = λ e is.
          ⊎_elim
          (λ (same : e ≡ x - p).
          record {
            near = omega arith;
            below = omega arith;
            some = rw (same, here) (omega (arith, grows));
          })
          (λ (apart : e ≡ x - p → ⊥).
          let at = m.pending e (sym (gives.others e apart) ∙ is) in
          record {
            near = at.near;
            below = at.below;
            some = rw (others e apart) at.some;
          })
          (cases_eq e (x - p));
    }

-- what is taken: the nearest distance that is marked, and the share that is kept there
pub record IsTaken (shares chunks chunks' : List ℕ) (d own : ℕ) : Type 0 where
  pub distance : IsNearest chunks chunks' d
  pub own_is : own ≡ get_or shares d 0

-- what is met there: the next ancestor, room for what its parents get, and the tracing once they have it
pub record IsMet (l : ℕ) (rows : List Parents) (x b : ℕ) (shares chunks' : List ℕ) (d own : ℕ) (parents : Parents) : Type 0 where
  pub next : IsNext l rows x b (x - d) own
  pub room_sire : (p : ℕ) → parents.sire ≡ Some p → HasRoom l rows x (set shares d 0) (x - d) own p
  pub room_dam : (p : ℕ) → parents.dam ≡ Some p → HasRoom l rows x (given rows x (set shares d 0) (x - d) own parents.sire) (x - d) own p
  pub under_way : (after last : List ℕ) → GivesMark x chunks' after parents.sire → GivesMark x after last parents.dam →
      AreUnderWay l rows x (x - d) (given rows x (given rows x (set shares d 0) (x - d) own parents.sire) (x - d) own parents.dam) last

module _ (l : ℕ) (rows : List Parents) (x b : ℕ) (shares chunks : List ℕ) (way : AreUnderWay l rows x b shares chunks) where
  -- nothing is kept for a rank below the border that isn't marked
  none-kept : (j : ℕ) → j < b → mark chunks (x - j) ≡ 0 → get_or shares (x - j) 0 ≡ 0
  none-kept j low none =
      ⊎_elim
      (λ (some : 0 < get_or shares (x - j) 0). let m = way.marks.marked j low some in absurd (omega arith))
      (λ (z : get_or shares (x - j) 0 ≤ 0). omega arith)
      (cases_lt 0 (get_or shares (x - j) 0))

  -- where nothing is marked all is met
  pub under_way-end : ((d : ℕ) → mark chunks d ≡ 0) → AreUnderWay l rows x 0 shares chunks
  under_way-end none = record {
    tracing =
        lowered-to l rows x 0 b shares (subst (λ v. IsTracing l rows x v shares) (let e : b ≡ b + 0 = omega arith in e) way.tracing)
        (λ j _ jb. none-kept j (omega arith) (none (x - j)));
    marks = record {
      room = way.marks.room;
      marked = λ p low some. absurd (omega arith);
      pending = λ d is. let z = none d in absurd (omega arith);
    };
  }

  pub none-left : ((d : ℕ) → mark chunks d ≡ 0) → (j : ℕ) → j < b → share (ranked rows) l (Some x) j ≡ 0
  none-left none = λ j jb. share-none_kept l rows x b shares way.tracing j jb (λ i ji ib. none-kept i ib (none (x - i)))

  module _ (chunks' : List ℕ) (d own : ℕ) (taken : IsTaken shares chunks chunks' d own) where
    taken-at : IsPendingAt x b shares d
    taken-at = way.marks.pending d taken.distance.found

    between : (j : ℕ) → x - d < j → j < b → get_or shares (x - j) 0 ≡ 0
    between j low high =
        let near : d ≤ x = taken-at.near in
        let border : b ≤ x + 1 = way.tracing.border_in in
        none-kept j high (taken.distance.nearest (x - j) (omega arith))

    taken-step : IsStep l rows x (x - d) shares own
    taken-step =
        let near : d ≤ x = taken-at.near in
        let below : x - d < b = taken-at.below in
        let n : ℕ = b - (x - d + 1) in
        let e : b ≡ n + (x - d + 1) = omega arith in
        record {
          tracing =
              lowered-to l rows x (x - d + 1) n shares (subst (λ v. IsTracing l rows x v shares) e way.tracing)
              (λ j low high. between j (omega arith) (omega arith));
          own_is = taken.own_is ∙ ap (λ v. get_or shares v 0) (let q : d ≡ x - (x - d) = omega arith in q);
        }

    own-some : 0 < own
    own-some = let is = taken.own_is in let some = taken-at.some in omega (arith, is, some)

    taken-next : IsNext l rows x b (x - d) own
    taken-next =
        step-is l rows x (x - d) shares own taken-step b
        (λ j low high. share-none_kept l rows x b shares way.tracing j high (λ i ji ib. between i (omega arith) ib))
        taken-at.below way.tracing.border_in own-some

    back : x - (x - d) ≡ d
    back = let near : d ≤ x = taken-at.near in omega arith

    -- the other marks stay, and nothing is kept any more at the distance
    taken-marks : IsMarked x (x - d) (set shares d 0) chunks'
    taken-marks =
        let near : d ≤ x = taken-at.near in
        let below : x - d < b = taken-at.below in
        record {
          room = let r = way.marks.room in let e = taken.distance.taken.room in omega (arith, e);
          marked = λ p low some.
              let apart : x - p ≡ d → ⊥ = λ e. omega arith in
              let same = get_or-set_other shares d (x - p) 0 0 apart in
              let kept : 0 < get_or (set shares d 0) (x - p) 0 = some in
              let was : 0 < get_or shares (x - p) 0 = subst (λ v. 0 < v) same kept in
              taken.distance.taken.others (x - p) apart ∙ way.marks.marked p (omega arith) was;
          pending = λ e is.
              let other : e ≡ d → ⊥ = λ same. (let z : mark chunks' e ≡ 0 = subst (λ v. mark chunks' v ≡ 0) (sym same) taken.distance.taken.here in let q : 1 ≡ 0 = sym is ∙ z in omega arith) in
              let was : mark chunks e ≡ 1 = sym (taken.distance.taken.others e other) ∙ is in
              let at = way.marks.pending e was in
              let far : d < e =
              ⊎_elim (λ (less : e < d). let z = taken.distance.nearest e less in absurd (omega arith)) (λ (more : d ≤ e). let o = other in omega arith) (cases_lt e d) in
              let close : e ≤ x = at.near in
              record { near = close; below = omega arith; some = rw (get_or-set_other shares d e 0 0 other) at.some };
        }

    -- the shares given to both parents are marked
    next-marks : (row : Parents) → slice_get rows (x - d) ≡ Some row → (after last : List ℕ) → GivesMark x chunks' after row.sire → GivesMark x after last row.dam →
        IsMarked x (x - d) (given rows x (given rows x (set shares d 0) (x - d) own row.sire) (x - d) own row.dam) last
    next-marks row e after last first second =
        let empty : List ℕ = set shares d 0 in
        let was : x < length shares = way.tracing.long in
        let long : x < length empty = (let same = length-set shares d 0 in omega (arith, same, was)) in
        let sire = given-marks rows x (x - d) own empty chunks' after row.sire taken-marks own-some (omega arith) long
        (step-lower_sire l rows x (x - d) shares own taken-step row e) first in
        let given_long = length-given rows x empty (x - d) own row.sire in
        given-marks rows x (x - d) own (given rows x empty (x - d) own row.sire) after last row.dam sire own-some (omega arith)
        (omega (arith, given_long, long)) (step-lower_dam l rows x (x - d) shares own taken-step row e) second

    pub taken-met : (parents : Parents) → AreParentsAt rows (x - d) parents → IsMet l rows x b shares chunks' d own parents
    taken-met parents is =
        let row : Parents = parents in
        let there : slice_get rows (x - d) ≡ Some row = is in
        record {
          next = taken-next;
          room_sire = λ p is.
              subst (λ v. HasRoom l rows x (set shares v 0) (x - d) own p) back (step-room_sire l rows x (x - d) shares own taken-step row there p is);
          room_dam = λ p is.
              subst (λ v. HasRoom l rows x (given rows x (set shares v 0) (x - d) own row.sire) (x - d) own p) back
              (step-room_dam l rows x (x - d) shares own taken-step row there p is);
          under_way = λ after last first second.
              record {
                tracing =
                    subst (λ v. IsTracing l rows x (x - d) (given rows x (given rows x (set shares v 0) (x - d) own row.sire) (x - d) own row.dam)) back
                    (step-next l rows x (x - d) shares own taken-step row there);
                marks = next-marks row there after last first second;
              };
        }

-- a tracing whose animals are all met leaves nothing behind
pub under_way-idle : (l : ℕ) (rows : List Parents) (x animals : ℕ) (shares chunks : List ℕ) → AreUnderWay l rows x 0 shares chunks →
    animals ≤ length shares → animals ≤ 64 * length chunks → AreIdle animals shares chunks
under_way-idle l rows x animals shares chunks way room marks = record {
  room = room;
  marks = marks;
  nothing = λ d. way.tracing.met d (λ near. omega arith);
  unmarked = λ d.
      let bit = bit_at-lt (get_or chunks (d / 64) 0) (d % 64) in
      ⊎_elim
      (λ (is : mark chunks d ≡ 1). let low = (way.marks.pending d is).below in absurd (omega arith))
      (λ (other : mark chunks d ≡ 1 → ⊥). omega (arith, bit))
      (cases_eq (mark chunks d) 1);
}

-- room for many is room for fewer
pub idle-fewer : (animals fewer : ℕ) (shares chunks : List ℕ) → fewer ≤ animals → AreIdle animals shares chunks → AreIdle fewer shares chunks
idle-fewer animals fewer shares chunks less idle =
    let room = idle.room in
    let marks = idle.marks in
    record { room = omega arith; marks = omega arith; nothing = idle.nothing; unmarked = idle.unmarked }

-- at first there is 0 everywhere
pub idle-start : (animals : ℕ) (chunks : List ℕ) → animals ≤ 64 * length chunks → ((d : ℕ) → mark chunks d ≡ 0) → AreIdle animals (replicate animals 0) chunks
idle-start animals chunks marks none = record {
  room = let e : length (replicate {A = ℕ} animals 0) ≡ animals = length-replicate animals 0 in omega (arith, e);
  marks = marks;
  nothing = λ d.
      ⊎_elim (λ (within : d < animals). get_or-replicate animals d 0 0 within)
      (λ (past : animals ≤ d). get_or_past (replicate animals 0) d 0 (let e : length (replicate {A = ℕ} animals 0) ≡ animals = length-replicate animals 0 in omega (arith, e)))
      (cases_lt d animals);
  unmarked = none;
}
