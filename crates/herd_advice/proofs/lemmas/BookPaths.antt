-- The paths of a book's ancestry are the book's.
use Rattle.std.proofs.Common.{ℕ, zero, suc, ◌+◌, ◌≡◌, inl, inr, ⊎_elim, true, false, List, Contains}
use Rattle.std.specs.List.{list_any}
use Rattle.std.specs.Map.{keys_of}
use Rattle.std.proofs.lemmas.Bool.{and_parts, and_from, or_cases, or_left, or_right, not-true, both_ways}
use Rattle.std.proofs.lemmas.Cmp.{nat_list_eq_equiv}
use Rattle.std.proofs.lemmas.List.Folds.{list_any_at}
use Rattle.std.proofs.lemmas.Map.Views.{IsSome-lookup_from_Contains}
use Rattle.herd_frozen.specs.rules.Book.{Book, record_of, is_there, sire_of, dam_of, parentage_of, IsDepthOf}
use Rattle.herd_frozen.specs.rules.Lawful.{IsLawful as IsLawfulBook}
use Rattle.herd_frozen.specs.rules.Paths.{has_path}
use Rattle.herd_frozen.proofs.lemmas.rules.PathFacts.{passes_some, some_passes}
use Rattle.herd_advice.specs.FrozenAncestry.{book_ancestry}
use Rattle.herd_kinship.proofs.lemmas.ancestry.LawfulAncestry.{Path, IsDepth, IsShallow}
use Rattle.herd_advice.proofs.lemmas.BookFacts.{number_there, option_there}

path_from_has_path : (book : Book) (n : ℕ) (x : List ℕ) → has_path (parentage_of book) n x ≡ true → Path (book_ancestry book) n x
unfolding has_path Path
path_from_has_path book zero x e =
    let a = option_there (record_of book x) e in number_there book x a.0 a.1
path_from_has_path book (suc n) x e =
    let parts = and_parts (is_there book x) _ e in
    let a = option_there (record_of book x) parts.0 in
    let member = number_there book x a.0 a.1 in
    ⊎_elim
    (λ s. let q = some_passes (has_path (parentage_of book) n) (sire_of book x) s in (member, (q.0, inl q.1, path_from_has_path book n q.0 q.2)))
    (λ d. let q = some_passes (has_path (parentage_of book) n) (dam_of book x) d in (member, (q.0, inr q.1, path_from_has_path book n q.0 q.2)))
    (or_cases _ _ parts.1)

has_path_from_path : (book : Book) (n : ℕ) (x : List ℕ) → Path (book_ancestry book) n x → has_path (parentage_of book) n x ≡ true
unfolding has_path Path
has_path_from_path book zero x path = IsSome-lookup_from_Contains nat_list_eq_equiv x book path
has_path_from_path book (suc n) x path =
    let there : is_there book x ≡ true = IsSome-lookup_from_Contains nat_list_eq_equiv x book path.0 in
    let p = path.1.0 in
    let rest = has_path_from_path book n p path.1.2 in
    and_from (is_there book x) _ there
    (⊎_elim
    (λ e. or_left _ _ (passes_some (has_path (parentage_of book) n) (sire_of book x) p e rest))
    (λ e. or_right _ _ (passes_some (has_path (parentage_of book) n) (dam_of book x) p e rest))
    path.1.1)

-- depths are the book's
pub depth_from_book : (book : Book) (x : List ℕ) (n : ℕ) → IsDepthOf book x n → IsDepth (book_ancestry book) x n
depth_from_book book x n d = (path_from_has_path book n x d.reached, λ m path. d.longest m (has_path_from_path book m x path))

path_member : (book : Book) (n : ℕ) (x : List ℕ) → Path (book_ancestry book) n x → Contains (keys_of book) x
unfolding Path
path_member book zero x path = path
path_member book (suc n) x path = path.0

pub book-shallow : (l most : ℕ) (book : Book) → IsLawfulBook l most book → IsShallow (book_ancestry book) l
book-shallow l most book w x path =
    let c = path_member book (l + 1) x path in
    let is : has_path (parentage_of book) (l + 1) x ≡ true = has_path_from_path book (l + 1) x path in
    let none : list_any (has_path (parentage_of book) (l + 1)) (keys_of book) ≡ false = not-true _ w.shallow in
    let some : list_any (has_path (parentage_of book) (l + 1)) (keys_of book) ≡ true =
    list_any_at (has_path (parentage_of book) (l + 1)) (keys_of book) c.0 x c.1 (rw c.2 is) in
    both_ways _ none some
