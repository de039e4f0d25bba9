-- What was found of a certificate is the fault that is told.
use Rattle.std.proofs.Common.{◌≡◌, ◌≢◌, ◌⊎◌, ◌∙◌, ℕ, ◌<◌, List, [], length, codes, Option, Some, None, refl, sym, ap, subst, inl, inr, ⊎_elim}
use Rattle.std.specs.Option.{option_map}
use Rattle.merkle_tree.specs.Shown.{Found, found}
use Rattle.merkle_tree.specs.declared.shown.Shown.{Shown}
use Rattle.herd_lineage.specs.Lineage.{IsLineage}
use Rattle.herd_lineage.specs.declared.lineage.Parents.{Parents}
use Rattle.herd_lineage.specs.declared.TheConstants.{DEPTH_LIMIT, MOST_ANIMALS}
use Rattle.herd_kinship.specs.Coefficients.{coefficient_at}
use Rattle.herd_text.specs.CoefficientText.{coefficient_text}
use Rattle.herd_seal.specs.Certificate.{AreAncestors, AreLinked, DoAscend, IsAnimalAt, IsClosed, leaves_of}
use Rattle.herd_seal.specs.CheckCause.{no_memory}
use Rattle.herd_seal.specs.CheckFaults.{HasNoAnimal, HasParentFault, IsFirstStranger, IsOutOfOrder, IsPartsFault, at_row, at_whole, found_by}
use Rattle.herd_seal.specs.Reading.{Parts}
use Rattle.herd_seal.specs.Seal.{seal_over}
use Rattle.herd_seal.specs.declared.certificate.CertifiedRow.{CertifiedRow}
use Rattle.herd_seal.specs.declared.check_fault.CheckCause.{CheckCause}
use Rattle.herd_seal.specs.declared.check_fault.CheckCause.TheVariants.{Coefficient, Digests, Number, Order, ParentLacks, ParentNumber, Row, Seal, TooDeep, TooMany}
use Rattle.herd_seal.specs.declared.check_fault.CheckFault.{CheckFault}

-- the fault is one of these parts
abbrev pub IsTold : List ℕ → Parts → CheckFault → Type 0
IsTold seal c fault = IsPartsFault seal c fault.cause fault.line

-- a fault that is known
told_as : (seal : List ℕ) (c : Parts) (fault known : CheckFault) → fault ≡ known → IsTold seal c known → IsTold seal c fault
told_as seal c fault known is told = subst (λ (f : CheckFault). IsTold seal c f) (sym is) told

-- of the same rows
pub with_rows : (seal : List ℕ) (c : Parts) (rows : List CertifiedRow) (fault : CheckFault) → rows ≡ c.rows → IsTold seal (record c { rows = rows }) fault → IsTold seal c fault
with_rows seal c rows fault are told = subst (λ (l : List CertifiedRow). IsTold seal (record c { rows = l }) fault) are told

-- the same is found
pub found_same : (n m : ℕ) (leaves : List Shown) (rows : List CertifiedRow) (ds es : List (List ℕ)) → n ≡ m → leaves ≡ leaves_of rows → ds ≡ es
    → found n leaves ds ≡ found m (leaves_of rows) es
found_same n m leaves rows ds es same are digests =
    ap (λ (k : ℕ). found k leaves ds) same ∙ ap (λ (l : List Shown). found m l ds) are ∙ ap (λ (l : List (List ℕ)). found m (leaves_of rows) l) digests

-- the seal is wrong
pub wrong_seal : (n m steps : ℕ) (root seal told : List ℕ) → n ≡ m → (n ≡ 0) ⊎ (seal_over n steps root ≢ seal)
    → (m ≡ 0) ⊎ ((seal_over m steps root ≢ seal) ⊎ (told ≢ seal))
wrong_seal n m steps root seal told same wrong =
    ⊎_elim
    (λ (none : n ≡ 0). inl (sym same ∙ none))
    (λ (other : seal_over n steps root ≢ seal). inr (inl (subst (λ (k : ℕ). seal_over k steps root ≢ seal) same other)))
    wrong

pub of_memory : (seal : List ℕ) (c : Parts) (fault : CheckFault) → fault ≡ no_memory → IsTold seal c fault
of_memory seal c fault is = told_as seal c fault no_memory is refl

pub of_many : (seal : List ℕ) (c : Parts) (fault : CheckFault) → (fault ≡ record { cause = TooMany; line = 0 }) × (MOST_ANIMALS < length c.rows) → IsTold seal c fault
of_many seal c fault told = told_as seal c fault (record { cause = TooMany; line = 0 }) told.0 (refl, told.1)

pub of_order : (seal : List ℕ) (c : Parts) (fault : CheckFault) → (at : ℕ) × (fault ≡ at_row Order at) × IsOutOfOrder c.rows at → IsTold seal c fault
of_order seal c fault told = told_as seal c fault (at_row Order told.0) told.1 (told.0, refl, told.2)

parent_at : (seal : List ℕ) (c : Parts) (cause : CheckCause) (at : ℕ) → HasParentFault c.rows cause at → IsTold seal c (at_row cause at)
parent_at seal c ParentLacks at has = (at, refl, has)
parent_at seal c ParentNumber at has = (at, refl, has)
parent_at seal c TooDeep at has = (at, refl, has)
parent_at seal c _ at has = absurd has.wrong

pub of_parents : (seal : List ℕ) (c : Parts) (fault : CheckFault)
    → (fault ≡ no_memory) ⊎ ((cause : CheckCause) × (at : ℕ) × (fault ≡ at_row cause at) × HasParentFault c.rows cause at) → IsTold seal c fault
of_parents seal c fault told =
    ⊎_elim
    (λ (memory : fault ≡ no_memory). of_memory seal c fault memory)
    (λ has. told_as seal c fault (at_row has.0 has.1) has.2 (parent_at seal c has.0 has.1 has.3))
    told

module _ (seal : List ℕ) (c : Parts) (fault : CheckFault) (ascend : DoAscend c.rows) (lineage : List Parents) (each : length lineage ≡ length c.rows)
    (is_lineage : IsLineage DEPTH_LIMIT MOST_ANIMALS lineage) (linked : AreLinked c.rows lineage) where
  pub of_number : (fault ≡ at_whole Number) × HasNoAnimal c.rows c.claim → IsTold seal c fault
  of_number told =
      told_as seal c fault (at_whole Number) told.0
      (refl, record { ascend = ascend; lineage = lineage; linked = record { each = each; is_lineage = is_lineage; linked = linked }; wrong = told.1 })

  module _ (rank : ℕ) (animal : IsAnimalAt c.rows rank c.claim) where
    pub of_others : (fault ≡ no_memory) ⊎ ((at : ℕ) × (fault ≡ at_row Row at) × IsFirstStranger lineage rank at) → IsTold seal c fault
    of_others told =
        ⊎_elim
        (λ (memory : fault ≡ no_memory). of_memory seal c fault memory)
        (λ has. told_as seal c fault (at_row Row has.0) has.1 (
          has.0,
          refl,
          record {
            ascend = ascend;
            lineage = lineage;
            linked = record { each = each; is_lineage = is_lineage; linked = linked };
            rank = rank;
            animal = animal;
            stranger = has.2;
          },
        ))
        told

    module _ (ancestors : AreAncestors lineage rank) where
      closed : IsClosed c.rows c.claim
      closed = record {
        lineage = lineage;
        each = each;
        is_lineage = is_lineage;
        linked = linked;
        ascend = ascend;
        rank = rank;
        animal = animal;
        ancestors = ancestors;
      }

      pub of_few_digests : found_by c ≡ None → fault ≡ at_whole Digests → IsTold seal c fault
      of_few_digests none is =
          told_as seal c fault (at_whole Digests) is (
            refl,
            record {
              closed = closed;
              wrong = λ all. let lost : ◌≡◌ {A = Option (List (List ℕ))} None (Some []) = sym (ap (λ (o : Option Found). option_map (λ (f : Found). f.left) o) none) ∙ all in absurd (cc);
            },
          )

      module _ (f : Found) (found_is : found_by c ≡ Some f) where
        pub of_many_digests : (fault ≡ at_whole Digests) × (f.left ≢ []) → IsTold seal c fault
        of_many_digests told =
            told_as seal c fault (at_whole Digests) told.0 (
              refl,
              record {
                closed = closed;
                wrong = λ all.
                    let left : Some f.left ≡ Some [] = sym (ap (λ (o : Option Found). option_map (λ (x : Found). x.left) o) found_is) ∙ all in
                    let none : f.left ≡ [] = cc in
                    absurd (told.1 none);
              },
            )

        module _ (all_digests : f.left ≡ []) where
          pub of_seal : fault ≡ at_whole Seal
              → (c.claim.animals ≡ 0) ⊎ ((seal_over c.claim.animals c.claim.steps f.root ≢ seal) ⊎ (c.seal ≢ seal)) → IsTold seal c fault
          of_seal is wrong =
              told_as seal c fault (at_whole Seal) is
              (refl, record { closed = closed; f = f; found_is = found_is; all_digests = all_digests; wrong = wrong })

          pub of_coefficient : 0 < c.claim.animals → seal_over c.claim.animals c.claim.steps f.root ≡ seal → c.seal ≡ seal
              → (fault ≡ no_memory) ⊎ ((fault ≡ at_whole Coefficient) × (c.coefficient ≢ coefficient_text (codes ",") (coefficient_at DEPTH_LIMIT lineage rank)))
              → IsTold seal c fault
          unfolding closed
          of_coefficient some same told_seal told =
              ⊎_elim
              (λ (memory : fault ≡ no_memory). of_memory seal c fault memory)
              (λ has. told_as seal c fault (at_whole Coefficient) has.0 (
                refl,
                record {
                  closed = closed;
                  f = f;
                  found_is = found_is;
                  all_digests = all_digests;
                  some = some;
                  seal_is = same;
                  told = told_seal;
                  wrong = has.1;
                },
              ))
              told
