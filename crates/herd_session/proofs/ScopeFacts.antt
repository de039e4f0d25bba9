-- What is answered from the named animals and all their known ancestors is answered from the whole book.
use Rattle.std.proofs.Common.{◌≡◌, ◌∙◌, ap, arith, refl, sym, subst, ℕ, zero, suc, List, [], ◌∷◌, Contains, Some}
use Rattle.std.proofs.lemmas.Option.{same_Some}
use Rattle.herd_frozen.specs.rules.Book.{Book}
use Rattle.herd_frozen.specs.freezing.Frozen.{IsFrozenFrom, book_of}
use Rattle.herd_frozen.specs.declared.TheConstants.{DEPTH_LIMIT, MOST_ANIMALS}
use Rattle.herd_frozen.specs.declared.freezing.frozen.Row.{Row}
use Rattle.herd_frozen.proofs.lemmas.freezing.ExistsFacts.{frozen-exists}
use Rattle.herd_pedigree.specs.Part.{IsFrozenPart}
use Rattle.herd_report.specs.writing.Certificate.{certificates_of}
use Rattle.herd_report.specs.writing.CoefficientLine.{coefficient_line}
use Rattle.herd_report.specs.writing.RelationshipList.{relationships_text}
use Rattle.herd_report.proofs.lemmas.PartFacts.{certificates-part, coefficient-part, matings-part, records-part, relationships-part}
use Rattle.herd_session.specs.Texts.{text_of}
use Rattle.herd_session.specs.Scopes.{IsReadIn, IsScopeOf, SufficesFor, named_in}
use Rattle.herd_requests.specs.declared.question.Question.{Question}
use Rattle.herd_requests.specs.declared.question.Question.TheVariants.{Inbreeding, Inverse, Certificates, Mating, Relationships, Coefficient, Records, Record, Seal, Sealed, Seen}
use Rattle.herd_session.specs.declared.scope.Scope.{Scope}
use Rattle.herd_session.specs.declared.scope.Scope.TheVariants.{All, Named}

-- the frozen rows of the whole book, of which a question gets the same answer
pub record IsWholeOf (question : Question) (book : Book) (rows : List Row) : Type 0 where
  pub whole : List Row
  pub frozen : IsFrozenFrom DEPTH_LIMIT MOST_ANIMALS book whole
  pub same : (steps : ℕ) → text_of question steps rows ≡ text_of question steps whole

first_of : (x : List ℕ) (xs : List (List ℕ)) → Contains (x ∷ xs) x
first_of x xs = (zero, omega arith, refl)

later_of : (y x : List ℕ) (xs : List (List ℕ)) → Contains xs x → Contains (y ∷ xs) x
later_of y x xs has = (suc has.0, (let low = has.1 in omega (arith, low)), has.2)

module _ (book : Book) (numbers : List (List ℕ)) (rows whole : List Row) (part : IsFrozenPart DEPTH_LIMIT MOST_ANIMALS book numbers rows) (frozen : IsFrozenFrom DEPTH_LIMIT MOST_ANIMALS book whole) where
  text-part : (question : Question) → named_in question ≡ Some numbers → (steps : ℕ) → text_of question steps whole ≡ text_of question steps rows
  text-part (Certificates named) is steps =
      let same : named.items ≡ numbers = same_Some _ _ is in
      subst (λ list. certificates_of whole list ≡ certificates_of rows list) (sym same) (certificates-part book numbers rows whole part frozen)
  text-part (Mating dam sires) is steps =
      let same : dam ∷ sires.items ≡ numbers = same_Some _ _ is in
      matings-part book numbers rows whole part frozen dam sires.items
      (subst (λ list. Contains list dam) same (first_of dam sires.items))
      (λ x has. subst (λ list. Contains list x) same (later_of dam x sires.items has))
  text-part (Coefficient number) is steps =
      let same : number ∷ [] ≡ numbers = same_Some _ _ is in
      ap (coefficient_line number) (coefficient-part book numbers rows whole part frozen number (subst (λ list. Contains list number) same (first_of number [])))
  text-part (Record number) is steps =
      let same : number ∷ [] ≡ numbers = same_Some _ _ is in
      records-part book numbers rows whole part frozen number (subst (λ list. Contains list number) same (first_of number []))
  text-part Inbreeding is steps = absurd (cc)
  text-part Inverse is steps = absurd (cc)
  text-part (Relationships named) is steps =
      let same : named.items ≡ numbers = same_Some _ _ is in
      subst (λ list. relationships_text (book_of whole) list [] ≡ relationships_text (book_of rows) list []) (sym same) (relationships-part book numbers rows whole part frozen)
  text-part Records is steps = absurd (cc)
  text-part Seal is steps = absurd (cc)
  text-part (Sealed number) is steps = absurd (cc)
  text-part Seen is steps = absurd (cc)

pub whole_of : (question : Question) (scope : Scope) (book : Book) (rows : List Row) → SufficesFor question scope → IsReadIn scope book rows → IsWholeOf question book rows
whole_of question All book rows suffices frozen = record { whole = rows; frozen = frozen; same = λ steps. refl }
whole_of question (Named named) book rows suffices part =
    let all = frozen-exists DEPTH_LIMIT MOST_ANIMALS book part.lawful in
    record { whole = all.0; frozen = all.1; same = λ steps. sym (text-part book named.items rows all.0 part all.1 question suffices steps) }

-- all that a question names is enough for it
pub suffices : (question : Question) (numbers : List (List ℕ)) (scope : Scope) → named_in question ≡ Some numbers → IsScopeOf numbers scope → SufficesFor question scope
suffices question numbers All is of = tt
suffices question numbers (Named named) is of = is ∙ ap Some of
