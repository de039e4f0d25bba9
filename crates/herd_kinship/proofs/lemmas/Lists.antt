-- Lists: what is mapped, one of two lists that are joined, where an element stands and how often, what is written over,
-- and what holds of each two elements. What clauses say of options.
use Rattle.std.proofs.Common.{ℕ, suc, ◌+◌, ◌-◌, ◌<◌, ◌≤◌, ◌≡◌, ◌++◌, ⊎_elim, All, AllPairs, Bool, true, false, cond, IfNone, IfSome, is_some, List, [], ◌∷◌, length, get_or, map, take, drop, None, Option, Some, lit<, refl, sym, ◌∙◌, ap, Contains, subst, arith}
use Rattle.std.specs.List.{Any, IsDistinct, AllByRecursion, count_by}
use Rattle.std.proofs.lemmas.Bool.{cases_Bool, cases_lt}
use Rattle.std.proofs.lemmas.List.{get_or-append-add, get_or_append_left, length-append, take-append-le, take_all}
use Rattle.std.proofs.lemmas.List.Elements.{All-contains, All-cons, All-map, All-nil, All-weaker, Contains-append_left, Contains-append_right}
use Rattle.std.proofs.lemmas.List.Kept.{AllPairs-cons}
use Rattle.std.proofs.lemmas.List.Sums.{sum_by-cons}
use Rattle.std.proofs.lemmas.Option.{get_or_from_slice_get, slice_get-get_or}
use Rattle.herd_lineage.proofs.lemmas.Contained.{contains_cases}

all_mapped : {X Y : Type 0} (f : X → Y) (xs : List X) → All (λ v. Contains (map f xs) (f v)) xs
all_mapped f [] = All-nil (λ v. Contains [] (f v))
all_mapped f (x ∷ xs) =
    All-cons (λ v. Contains (map f (x ∷ xs)) (f v)) x xs (Contains-append_left (f x ∷ []) (map f xs) (f x) (0, lit< tt, refl))
    (All-weaker (λ v. Contains (map f xs) (f v)) (λ v. Contains (map f (x ∷ xs)) (f v))
    (λ v c. Contains-append_right (f x ∷ []) (map f xs) (f v) c) xs (all_mapped f xs))

pub Contains-map : {X Y : Type 0} (f : X → Y) (xs : List X) (x : X) → Contains xs x → Contains (map f xs) (f x)
Contains-map f xs x c = All-contains (λ v. Contains (map f xs) (f v)) xs x (all_mapped f xs) c

-- a test that one of a list passes, one of the whole passes
pub any-left : {X : Type 0} (P : X → Type 0) (xs ys : List X) → Any P xs → Any P (xs ++ ys)
any-left P xs ys (k, x, low, at, is) = (k, x, let n = length-append xs ys in omega (arith, low), get_or_append_left xs ys x k low ∙ at, is)

pub any-right : {X : Type 0} (P : X → Type 0) (xs ys : List X) → Any P ys → Any P (xs ++ ys)
any-right P xs ys (k, x, low, at, is) = (length xs + k, x, let n = length-append xs ys in omega (arith, low), get_or-append-add xs ys k x ∙ at, is)

-- where an element that is contained stands
pub contains-at : (xs : List ℕ) (p : ℕ) → (c : Contains xs p) → get_or xs c.0 0 ≡ p
contains-at xs p c = get_or_from_slice_get xs c.0 p 0 (slice_get-get_or xs c.0 p c.1 ∙ ap Some c.2)

count-none : {X : Type 0} (e : X → X → Bool) (x : X) (xs : List X) → AllByRecursion (λ y. e x y ≡ false) xs → count_by (e x) xs ≡ 0
count-none e x [] a = refl
count-none e x (y ∷ ys) a = rw (sum_by-cons (λ z. cond (e x z) 1 0) y ys, a.0, count-none e x ys a.1) refl

-- in a list with no two alike, one is like x
pub count-one : {X : Type 0} (e : X → X → Bool) → ((x y : X) → e x y ≡ true → x ≡ y) → ((x : X) → e x x ≡ true) →
    (x : X) (xs : List X) → IsDistinct e xs → Contains xs x → count_by (e x) xs ≡ 1
unfolding IsDistinct
count-one e exact itself x [] d c = absurd (omega (arith, c.1))
count-one {X} e exact itself x (y ∷ ys) d c =
    ⊎_elim
    (λ (t : e x y ≡ true).
    let same : y ≡ x = sym (exact x y t) in
    let P : X → Type 0 = λ v. AllByRecursion (λ z. e v z ≡ false) ys in
    rw (sum_by-cons (λ z. cond (e x z) 1 0) y ys, t, count-none e x ys (subst P same d.0)) refl)
    (λ (t : e x y ≡ false).
    ⊎_elim
    (λ (same : y ≡ x). let u : e x y ≡ true = subst (λ v. e x v ≡ true) (sym same) (itself x) in absurd (cc))
    (λ (rest : Contains ys x).
    rw (sum_by-cons (λ z. cond (e x z) 1 0) y ys, t, count-one e exact itself x ys d.1 rest) refl)
    (contains_cases y x ys c))
    (cases_Bool (e x y))

-- a list that is written over as a whole, by way of a slice
pub take-written : {X : Type 0} (n : ℕ) (new old : List X) → n ≡ length new → take n (new ++ drop (length new) old) ≡ new
take-written n new old is = take-append-le n new (drop (length new) old) (omega arith) ∙ take_all n new (omega arith)

-- what holds of each two elements of two lists, and of each of the first with each of the second, holds of each two of
-- the lists joined
pub pairs-append : {X : Type 0} (R : X → X → Type 0) (xs ys : List X) → AllPairs R xs → AllPairs R ys
    → ((i j : ℕ) (d : X) → i < length xs → j < length ys → R (get_or xs i d) (get_or ys j d)) → AllPairs R (xs ++ ys)
pairs-append R xs ys first second across i j d before within =
    let long = length-append xs ys in
    let front : (k : ℕ) → k < length xs → get_or (xs ++ ys) k d ≡ get_or xs k d = λ k low. get_or_append_left xs ys d k low in
    let back : (k : ℕ) → length xs ≤ k → get_or (xs ++ ys) k d ≡ get_or ys (k - length xs) d = λ k high.
    (let e : k ≡ length xs + (k - length xs) = omega arith in ap (λ n. get_or (xs ++ ys) n d) e) ∙ get_or-append-add xs ys (k - length xs) d in
    ⊎_elim
    (λ (low : j < length xs). rw (front i (omega arith), front j low) (first i j d before low))
    (λ (high : length xs ≤ j).
    ⊎_elim
    (λ (low : i < length xs). rw (front i low, back j high) (across i (j - length xs) d low (omega arith)))
    (λ (later : length xs ≤ i). rw (back i later, back j high) (second (i - length xs) (j - length xs) d (omega arith) (omega arith)))
    (cases_lt i (length xs)))
    (cases_lt j (length xs))

-- and of what is mapped, where it holds of what that is made of
pub pairs-map : {X Y : Type 0} (R : X → X → Type 0) (S : Y → Y → Type 0) (f : X → Y) → ((x later : X) → R x later → S (f x) (f later)) → (xs : List X) → AllPairs R xs → AllPairs S (map f xs)
pairs-map R S f keeps [] pairs = λ i j d before within. absurd (omega (arith, within))
pairs-map R S f keeps (x ∷ xs) pairs =
    AllPairs-cons S (f x) (map f xs)
    (All-map (S (f x)) f xs (All-weaker (R x) (λ later. S (f x) (f later)) (keeps x) xs (λ k d within. pairs 0 (suc k) d (omega arith) (omega (arith, within)))))
    (pairs-map R S f keeps xs (λ i j d before within. pairs (suc i) (suc j) d (omega (arith, before)) (omega (arith, within))))

-- what a clause says where an option has no value, and what it says of a value
pub if-none : {X P : Type 0} (o : Option X) → is_some o ≡ false → IfNone o P → P
if-none None none p = p
if-none (Some x) none p = absurd (cc)

pub if-some : {X : Type 0} (P : X → Type 0) (o : Option X) → is_some o ≡ true → IfSome o P → (x : X) × P x
if-some P None some p = absurd (cc)
if-some P (Some x) some p = (x, p)
