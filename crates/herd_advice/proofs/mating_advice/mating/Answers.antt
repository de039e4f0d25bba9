-- `mating`: its clauses, and what its calls require.
use Rattle.std.proofs.Common.{◌≡◌, ◌*◌, ◌-◌, ◌∷◌, [], Some, lit<, arith, refl, ◌∙◌}
use Rattle.herd_frozen.specs.declared.TheConstants.{DEPTH_LIMIT}
use Rattle.herd_frozen.specs.freezing.Frozen.{book_of}
use Rattle.herd_advice.specs.FrozenAncestry.{ancestry_of}
use Rattle.herd_advice.specs.Mating.{candidates_fault, mating_fault}
use Rattle.herd_advice.proofs.lemmas.FrozenFacts.{knows-ancestors}
use Rattle.herd_advice.proofs.lemmas.MatingFacts.{candidate-there, dam-missing, fault-of_candidates, mating-by}
use Rattle.herd_advice.proofs.lemmas.MatingFacts.{sire-missing}
use Rattle.herd_advice.specs.declared.mating_advice.MatingFault.TheVariants.{SireMissing, DamMissing}
use Rattle.herd_kinship.proofs.lemmas.ancestry.Table.{entry-bound}
use Rattle.herd_advice.proofs.mating_advice.mating.Given.{Over}
use Rattle.herd_advice.proofs.mating_advice.mating.Goals.{In_default, In_default-of, In-Some-of}
use Rattle.herd_advice.proofs.mating_advice.mating.Goals as goal

no_sire : (g : Over) (c : In_default g)
    → mating_fault DEPTH_LIMIT (book_of c.args.frozen.now) c.args.sire.now c.args.dam.now ≡ Some SireMissing
no_sire g c =
    sire-missing DEPTH_LIMIT (book_of c.args.frozen.now) c.args.sire.now c.args.dam.now c.in_default.ensures.absent

no_dam : (g : Over) (c : In_default-of g)
    → mating_fault DEPTH_LIMIT (book_of c.args.frozen.now) c.args.sire.now c.args.dam.now ≡ Some DamMissing
no_dam g c =
    dam-missing DEPTH_LIMIT (book_of c.args.frozen.now) c.args.sire.now c.args.dam.now
    (candidate-there DEPTH_LIMIT c.args.frozen.now c.args.sire.now c.in-Some.sire c.in-Some.ensures.there)
    c.in_default-of.ensures.absent

-- what is told of two that are there
told : (g : Over) (c : In-Some-of g)
    → mating_fault DEPTH_LIMIT (book_of c.args.frozen.now) c.args.sire.now c.args.dam.now
    ≡ candidates_fault c.in-Some.sire c.in-Some-of.dam
told g c =
    fault-of_candidates DEPTH_LIMIT c.args.frozen.now c.args.sire.now c.args.dam.now c.in-Some.sire c.in-Some-of.dam
    c.in-Some.ensures.there c.in-Some-of.ensures.there

pub returns-in_default-clause-refused : goal.returns-in_default-clause-refused
returns-in_default-clause-refused g c = rw (no_sire g (goal.at.returns-in_default-clause-refused g c).In_default) refl

pub returns-in_default-clause-memory : goal.returns-in_default-clause-memory
returns-in_default-clause-memory g c =
    let is = no_sire g (goal.at.returns-in_default-clause-memory g c).In_default in λ none. absurd (cc)

pub returns-in_default-of-clause-refused : goal.returns-in_default-of-clause-refused
returns-in_default-of-clause-refused g c =
    rw (no_dam g (goal.at.returns-in_default-of-clause-refused g c).In_default-of) refl

pub returns-in_default-of-clause-memory : goal.returns-in_default-of-clause-memory
returns-in_default-of-clause-memory g c =
    let is = no_dam g (goal.at.returns-in_default-of-clause-memory g c).In_default-of in λ none. absurd (cc)

pub returns-in_err-check-clause-refused : goal.returns-in_err-check-clause-refused
returns-in_err-check-clause-refused g c =
    let is = told g (goal.at.returns-in_err-check-clause-refused g c).In-Some-of ∙ c.in_err-check.ensures in
    rw is (grind arith)

pub returns-in_err-check-clause-memory : goal.returns-in_err-check-clause-memory
returns-in_err-check-clause-memory g c =
    let is = told g (goal.at.returns-in_err-check-clause-memory g c).In-Some-of ∙ c.in_err-check.ensures in
    rw is (grind arith)

pub of-requires-3-clause-coefficients : goal.of-requires-3-clause-coefficients
of-requires-3-clause-coefficients g c =
    knows-ancestors DEPTH_LIMIT c.args.frozen.now (c.args.dam.now ∷ []) c.args.coefficients.now c.requires
    c.in-Some-of.dam.rank c.args.dam.now
    c.in-Some-of.ensures.there.rank (0, omega arith, refl)

pub with-requires : goal.with-requires
with-requires g c = rw c.in-Ok.ensures c.in-Some.ensures.there.within

pub returns-in-Ok-clause-refused : goal.returns-in-Ok-clause-refused
returns-in-Ok-clause-refused g c =
    rw (told g (goal.at.returns-in-Ok-clause-refused g c).In-Some-of ∙ c.in_ok-check.ensures) tt

pub returns-in-Err-clause-refused : goal.returns-in-Err-clause-refused
returns-in-Err-clause-refused g c =
    rw (told g (goal.at.returns-in-Err-clause-refused g c).In-Some-of ∙ c.in_ok-check.ensures) tt

pub returns-in-Ok-clause-value : goal.returns-in-Ok-clause-value
returns-in-Ok-clause-value g c =
    mating-by DEPTH_LIMIT c.args.frozen.now c.args.sire.now c.args.dam.now c.in-Some.sire c.in-Some-of.dam
    c.in-Some.ensures.there c.in-Some-of.ensures.there c.with.result (lit< tt) c.in_ok-check.ensures
    (rw c.in-Ok.ensures at c.with.ensures.value)

pub returns-in-Ok-clause-below_one : goal.returns-in-Ok-clause-below_one
returns-in-Ok-clause-below_one g c =
    rw (returns-in-Ok-clause-value g c)
    (entry-bound (ancestry_of c.args.frozen.now) (2 * DEPTH_LIMIT - 1) (Some c.args.sire.now) (Some c.args.dam.now))
