-- `write_calves_of`: what `append_calves` and `write_calves` require and its clause `known`.
use Rattle.std.proofs.Common.{◌≡◌, ℕ, ◌+◌, List, arith, subst}
use Rattle.herd_lineage.specs.declared.TheConstants.{DEPTH_LIMIT, MOST_ANIMALS}
use Rattle.herd_kinship.specs.CalfCoefficients.{AreCalvesWith, HasWritten}
use Rattle.herd_kinship.specs.Coefficients.{IsBefore, coefficient_at}
use Rattle.herd_kinship.proofs.lemmas.sires.BySires.{before-next, reached-ancestors, reached-more}
use Rattle.herd_kinship.proofs.lemmas.sires.CalfListFacts.{calves-alone, calves-values, calves-within, calves-written}
use Rattle.herd_kinship.proofs.coefficients.write_calves_of.Given.{Over}
use Rattle.herd_kinship.proofs.coefficients.write_calves_of.Goals.{In_ok-append_calves}
use Rattle.herd_kinship.proofs.coefficients.write_calves_of.Goals as goal

pub append_calves-requires-clause-known : goal.append_calves-requires-clause-known
append_calves-requires-clause-known g c =
    reached-ancestors DEPTH_LIMIT MOST_ANIMALS c.args.lineage.now c.requires.calves.lineage c.args.sire c.args.known.now c.requires.sire c.requires.known

-- the list has the sire's calves
listed : (g : Over) (c : In_ok-append_calves g) → AreCalvesWith c.args.lineage.now (λ t. t ≡ c.args.sire) (coefficient_at DEPTH_LIMIT c.args.lineage.now) c.append_calves.new.list.items
listed g c =
    calves-alone c.args.lineage.now (λ t. t ≡ c.args.sire) (coefficient_at DEPTH_LIMIT c.args.lineage.now) c.clear.new.self.items c.append_calves.new.list.items c.clear.ensures.items
    c.in_ok-append_calves.ensures.calves

pub write_calves-requires : goal.write_calves-requires
write_calves-requires g c = rw c.deref.ensures.value (λ k d low.
    let within =
    calves-within c.args.lineage.now (λ t. t ≡ c.args.sire) (coefficient_at DEPTH_LIMIT c.args.lineage.now) c.append_calves.new.list.items
    (listed g (goal.at.write_calves-requires g c).In_ok-append_calves) k d low in
    let each = c.requires.known.each in
    omega arith)

pub returns-clause-known : goal.returns-clause-known
returns-clause-known g c =
    let rows = c.args.lineage.now in
    let s : ℕ = c.args.sire in
    let f : ℕ → ℕ = coefficient_at DEPTH_LIMIT rows in
    let calves = c.append_calves.new.list.items in
    let old : List ℕ = c.args.known.now in
    let new : List ℕ = c.write_calves.new.known in
    let are : AreCalvesWith rows (λ t. t ≡ s) f calves = listed g (goal.at.returns-clause-known g c).In_ok-append_calves in
    let has : HasWritten f calves old new = subst (λ xs. HasWritten f xs old new) c.deref.ensures.value (c.write_calves.ensures.written f (rw c.deref.ensures.value (calves-values rows (λ t. t ≡ s) f calves are))) in
    reached-more DEPTH_LIMIT rows (IsBefore s) (λ t. t ≡ s) (IsBefore (s + 1)) (before-next s) old new c.write_calves.ensures.each has.kept
    (calves-written rows (λ t. t ≡ s) f calves old new are has) c.requires.known
