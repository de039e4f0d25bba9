-- Whether an animal is the dam of one born after a day, by her calves alone.
use Rattle.std.proofs.Common.{ℕ, ℤ, ◌≡◌, sym, ap, ◌∙◌, subst, Bool, true, false, not, ◌&&◌, int_lt, List, Option, Some, None, slice_get, get_or}
use Rattle.std.specs.Str.{bytes_eq}
use Rattle.std.specs.List.{IsDistinct}
use Rattle.std.specs.Map.{keys_of, values_of}
use Rattle.std.specs.Option.{option_map_or}
use Rattle.std.proofs.lemmas.Bool.{false_from_ne_true, and_parts}
use Rattle.std.proofs.lemmas.Option.{same_Some, slice_get-get_or}
use Rattle.std.proofs.lemmas.List.Folds.{list_any_none}
use Rattle.herd_frozen.specs.declared.rules.animal.Animal.{Animal}
use Rattle.herd_frozen.specs.rules.Book.{Book, record_of, has_calved_after, is_calf_after}
use Rattle.herd_frozen.specs.rules.Lawful.{IsLawful}
use Rattle.herd_frozen.specs.places.Places.{parent_at, IsIndexIn, AreParents}
use Rattle.herd_frozen.proofs.lemmas.Contained.{any_found}
use Rattle.herd_frozen.proofs.lemmas.rules.BookFacts.{same_bytes, bytes_itself, lookup_at, stands_once, value_at}

-- the calf counts: it is from no stored embryo, and born after the day
abbrev pub counts : ℤ → Animal → Bool
counts day animal = not animal.embryo && int_lt day animal.birth

named : (number : List ℕ) (dam : Option (List ℕ)) → option_map_or (bytes_eq number) dam false ≡ true → dam ≡ Some number
named number None h = absurd (cc)
named number (Some d) h = ap Some (sym (same_bytes number d h))

-- nobody has a dam that isn't in the book
pub none_calved : (l most : ℕ) (book : Book) → IsLawful l most book → (number : List ℕ) (day : ℤ) → record_of book number ≡ None → has_calved_after book number day ≡ false
none_calved l most book lawful number day absent =
    list_any_none (λ entry. is_calf_after number day entry.1) book
    (λ k d h.
    let calf : List ℕ × Animal = get_or book k d in
    false_from_ne_true (is_calf_after number day calf.1)
    (λ t.
    let dam = named number calf.1.dam (and_parts (option_map_or (bytes_eq number) calf.1.dam false) (counts day calf.1) t).0 in
    let there = lookup_at book lawful.once k calf.0 calf.1 (slice_get-get_or book k d h) in
    let found = ((lawful.records calf.0 calf.1 there).dam number dam).there in absurd (cc)))

module _ (book : Book) (dams : List (Option ℕ)) (a : AreParents book (λ animal. animal.dam) dams) (number : List ℕ) (day : ℤ) where
  module _ (once : IsDistinct bytes_eq (keys_of book)) (place : ℕ) (at : slice_get (keys_of book) place ≡ Some number) where
    -- one of her calves counts
    pub calf_found : (calf : ℕ) (animal : Animal) → parent_at dams calf ≡ Some place → slice_get (values_of book) calf ≡ Some animal → counts day animal ≡ true → has_calved_after book number day ≡ true
    calf_found calf animal is read t =
        let d : List ℕ × Animal = (number, animal) in
        let v = value_at book calf animal d read in
        let entry : List ℕ × Animal = get_or book calf d in
        let there : slice_get book calf ≡ Some (get_or book calf d) = slice_get-get_or book calf d v.0 in
        let dam : (get_or book calf d).1.dam ≡ Some number = by (parent_at dams calf) (get_or book calf d).1.dam (a.each calf (get_or book calf d) there) is in
        let counts_too : counts day (get_or book calf d).1 ≡ true = ap (λ x. counts day x) v.1 ∙ t in
        let names : option_map_or (bytes_eq number) (get_or book calf d).1.dam false ≡ true = ap (λ o. option_map_or (bytes_eq number) o false) dam ∙ bytes_itself number in
        any_found (λ entry. is_calf_after number day entry.1) book calf (get_or book calf d) there (λ i. both names counts_too i)
      where
        by : (o : Option ℕ) (n : Option (List ℕ)) → IsIndexIn (keys_of book) o n → o ≡ Some place → n ≡ Some number
        by None n is e = absurd (cc)
        by (Some q) None is e = absurd is
        by (Some q) (Some x) is e = let k : q ≡ place = same_Some _ _ e in sym is ∙ ap (λ v. slice_get (keys_of book) v) k ∙ at

        both : {x y : Bool} → x ≡ true → y ≡ true → (x && y) ≡ true
        both {x} {y} e f = (λ i. e i && f i)

    -- none of them does
    pub calf_missing : ((calf : ℕ) → parent_at dams calf ≡ Some place → (entry : List ℕ × Animal) → slice_get book calf ≡ Some entry → counts day entry.1 ≡ false) → has_calved_after book number day ≡ false
    calf_missing none =
        list_any_none (λ entry. is_calf_after number day entry.1) book
        (λ k d h.
        false_from_ne_true (is_calf_after number day (get_or book k d).1)
        (λ t.
        let parts = and_parts (option_map_or (bytes_eq number) (get_or book k d).1.dam false) (counts day (get_or book k d).1) t in
        let dam = named number (get_or book k d).1.dam parts.0 in
        let there : slice_get book k ≡ Some (get_or book k d) = slice_get-get_or book k d h in
        let of_her : parent_at dams k ≡ Some place = by (parent_at dams k) (subst (λ o. IsIndexIn (keys_of book) (parent_at dams k) o) dam (a.each k (get_or book k d) there)) in
        let f : counts day (get_or book k d).1 ≡ false = none k of_her (get_or book k d) there in
        let u : counts day (get_or book k d).1 ≡ true = parts.1 in absurd (cc)))
      where
        by : (o : Option ℕ) → IsIndexIn (keys_of book) o (Some number) → o ≡ Some place
        by None is = absurd is
        by (Some q) is = ap Some (stands_once (keys_of book) once q place number is at)
