-- `Mates::append_calves`: what `append_halves` requires and its clause `calves`.
use Rattle.std.proofs.Common.{ℕ, ◌<◌, ◌++◌, All, length, map, refl, sym, ◌∙◌, ap, subst}
use Rattle.std.proofs.lemmas.List.{append-nil, nil_from_length}
use Rattle.herd_lineage.specs.declared.TheConstants.{DEPTH_LIMIT}
use Rattle.herd_kinship.specs.CalfCoefficients.{with_half}
use Rattle.herd_kinship.specs.CalfLinks.{calves_of_sire}
use Rattle.herd_kinship.specs.Coefficients.{coefficient_at}
use Rattle.herd_kinship.specs.declared.calves.CalfCoefficient.{CalfCoefficient}
use Rattle.herd_kinship.proofs.lemmas.sires.CalvesBelow.{below-within}
use Rattle.herd_kinship.proofs.lemmas.sires.CalfListFacts.{goes-on}
use Rattle.herd_kinship.proofs.mates.Mates.append_calves.Goals as goal

pub append_halves-requires-clause-calves : goal.append_halves-requires-clause-calves
append_halves-requires-clause-calves g c =
    let rows = c.args.lineage.now in
    subst (λ xs. All (λ calf. calf < length rows) xs) (sym c.of_sire-2.ensures) (below-within rows c.args.sire (length rows))

pub returns-clause-calves : goal.returns-clause-calves
returns-clause-calves g c =
    let rows = c.args.lineage.now in
    let make = with_half rows c.deref.result.now in
    let old = c.args.list.now.items in
    let values = c.relate_to.ensures.halves in
    goes-on rows c.args.sire (coefficient_at DEPTH_LIMIT rows) make old c.append_halves.new.list.items (λ x. refl) (λ x calf. rw c.deref.ensures.value (values x calf))
    (c.append_halves.ensures
    ∙ ap (λ xs. xs ++ map make c.of_sire-2.result) c.reserve.ensures.items
    ∙ ap (λ xs. old ++ map make xs) c.of_sire-2.ensures)

pub returns-then-count-eq0-clause-calves : goal.returns-then-count-eq0-clause-calves
returns-then-count-eq0-clause-calves g c =
    let rows = c.args.lineage.now in
    let make : ℕ → CalfCoefficient = λ x. record { rank = x; numerator = coefficient_at DEPTH_LIMIT rows x } in
    let none = nil_from_length (calves_of_sire rows c.args.sire) (sym c.count-count.ensures ∙ c.if-count-eq0.true) in
    goes-on rows c.args.sire (coefficient_at DEPTH_LIMIT rows) make c.args.list.now.items c.args.list.now.items (λ x. refl) (λ x _. refl)
    (sym (append-nil c.args.list.now.items) ∙ ap (λ xs. c.args.list.now.items ++ map make xs) (sym none))
