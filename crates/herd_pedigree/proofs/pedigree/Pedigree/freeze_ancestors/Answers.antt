-- `Pedigree::freeze_ancestors`: what `freeze_list` requires and its result.
use Rattle.std.proofs.Common.{◌≡◌, ◌∙◌, sym, subst, List, ℕ, IfOk}
use Rattle.std.proofs.lemmas.Result.{IfOk-weaker}
use Rattle.herd_frozen.specs.freezing.Frozen.{IsFrozenFrom}
use Rattle.herd_frozen.specs.rules.Book.{Book}
use Rattle.herd_frozen.specs.rules.Lawful.{IsLawful}
use Rattle.herd_frozen.specs.declared.TheConstants.{DEPTH_LIMIT, MOST_ANIMALS}
use Rattle.herd_pedigree.specs.Part.{IsFrozenPart, IsPartOf}
use Rattle.herd_pedigree.specs.Pedigree.{Pedigree}
use Rattle.herd_pedigree.specs.store.Ancestors.{records_at}
use Rattle.herd_pedigree.proofs.lemmas.PartOfFacts.{part-frozen, part-lawful}
use Rattle.herd_pedigree.proofs.lemmas.store.AncestorFacts.{ancestors-named, ancestors-part}
use Rattle.herd_pedigree.proofs.pedigree.Pedigree.freeze_ancestors.Goals as goal

pub freeze_list-requires : goal.freeze_list-requires
freeze_list-requires g c =
    let book : Book = c.self.inside.records.book in
    let lawful : IsLawful DEPTH_LIMIT MOST_ANIMALS book = c.self.invariant.kept.lawful in
    let is : IsPartOf book (records_at book c.in_ok-found.found.places) = ancestors-part DEPTH_LIMIT MOST_ANIMALS book lawful c.args.numbers.now c.in_ok-found.found.places c.in_ok-found.ensures.found in
    subst (λ (list : Book). IsLawful DEPTH_LIMIT MOST_ANIMALS list) (sym (c.deref.ensures.value ∙ c.in_ok-part.ensures))
    (part-lawful book (records_at book c.in_ok-found.found.places) is DEPTH_LIMIT MOST_ANIMALS lawful)

pub returns : goal.returns
returns g c =
    let book : Book = c.self.inside.records.book in
    let places : List ℕ = c.in_ok-found.found.places in
    let numbers : List (List ℕ) = c.args.numbers.now in
    let lawful : IsLawful DEPTH_LIMIT MOST_ANIMALS book = c.self.invariant.kept.lawful in
    let is : IsPartOf book (records_at book places) = ancestors-part DEPTH_LIMIT MOST_ANIMALS book lawful numbers places c.in_ok-found.ensures.found in
    let same : c.deref.result.now ≡ records_at book places = c.deref.ensures.value ∙ c.in_ok-part.ensures in
    subst (λ (p : Pedigree). IfOk c.freeze_list.result (IsFrozenPart DEPTH_LIMIT MOST_ANIMALS p.book numbers)) c.self.view_is
    (IfOk-weaker c.freeze_list.result _ _
    (λ rows frozen. part-frozen DEPTH_LIMIT MOST_ANIMALS book (records_at book places) numbers rows lawful is
    (ancestors-named DEPTH_LIMIT MOST_ANIMALS book lawful numbers places c.in_ok-found.ensures.found)
    (subst (λ (list : Book). IsFrozenFrom DEPTH_LIMIT MOST_ANIMALS list rows) same frozen))
    c.freeze_list.ensures)
