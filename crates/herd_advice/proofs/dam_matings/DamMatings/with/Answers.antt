-- `DamMatings::with`: its clauses, and what the look-up in the relationships requires.
use Rattle.std.proofs.Common.{◌≡◌, ◌*◌, ◌-◌, false, Some, lit<, arith, ◌∙◌, subst}
use Rattle.std.specs.Option.{MatchOption}
use Rattle.herd_frozen.specs.declared.TheConstants.{DEPTH_LIMIT}
use Rattle.herd_frozen.specs.freezing.Frozen.{book_of}
use Rattle.herd_frozen.specs.rules.Book.{is_there}
use Rattle.herd_advice.specs.FrozenAncestry.{book_ancestry}
use Rattle.herd_advice.specs.Mating.{IsDam, candidates_fault, mating_fault}
use Rattle.herd_advice.proofs.lemmas.MatingFacts.{candidate-there, dam-missing, fault-of_candidates, mating-by}
use Rattle.herd_advice.proofs.lemmas.MatingFacts.{sire-missing}
use Rattle.herd_kinship.proofs.lemmas.ancestry.Table.{entry-bound}
use Rattle.herd_advice.proofs.dam_matings.DamMatings.with.Given.{Over}
use Rattle.herd_advice.proofs.dam_matings.DamMatings.with.Goals.{In-Some-dam}
use Rattle.herd_advice.proofs.dam_matings.DamMatings.with.Goals as goal

pub returns-in_default-clause-refused : goal.returns-in_default-clause-refused
returns-in_default-clause-refused g c =
    rw (← c.self.view_is)
    (sire-missing DEPTH_LIMIT (book_of c.self.inside.frozen.now) c.args.sire.now c.self.inside.number
    c.in_default.ensures.absent)

pub returns-in_default-dam-clause-refused : goal.returns-in_default-dam-clause-refused
returns-in_default-dam-clause-refused g c =
    let rows = c.self.inside.frozen.now in
    let number = c.self.inside.number in
    let absent : is_there (book_of rows) number ≡ false =
    subst (λ dam. MatchOption dam (is_there (book_of rows) number ≡ false) (IsDam DEPTH_LIMIT rows number))
    c.in_default-dam.is c.self.invariant in
    rw (← c.self.view_is)
    (dam-missing DEPTH_LIMIT (book_of rows) c.args.sire.now number
    (candidate-there DEPTH_LIMIT rows c.args.sire.now c.in-Some.sire c.in-Some.ensures.there) absent)

-- the dam that is kept
dam : (g : Over) (c : In-Some-dam g) → IsDam DEPTH_LIMIT c.self.inside.frozen.now c.self.inside.number c.in-Some-dam.dam
dam g c =
    let rows = c.self.inside.frozen.now in
    let number = c.self.inside.number in
    subst (λ dam. MatchOption dam (is_there (book_of rows) number ≡ false) (IsDam DEPTH_LIMIT rows number))
    c.in-Some-dam.is c.self.invariant

-- what is told of two that are there
told : (g : Over) (c : In-Some-dam g)
    → mating_fault DEPTH_LIMIT c.args.self.now.book c.args.sire.now c.args.self.now.dam
    ≡ candidates_fault c.in-Some.sire c.in-Some-dam.dam.candidate
told g c =
    rw (← c.self.view_is)
    (fault-of_candidates DEPTH_LIMIT c.self.inside.frozen.now c.args.sire.now c.self.inside.number c.in-Some.sire
    c.in-Some-dam.dam.candidate c.in-Some.ensures.there (dam g c).candidate)

pub returns-in_err-check-clause-refused : goal.returns-in_err-check-clause-refused
returns-in_err-check-clause-refused g c =
    let is = told g (goal.at.returns-in_err-check-clause-refused g c).In-Some-dam ∙ c.in_err-check.ensures in
    rw is (grind arith)

pub with-requires : goal.with-requires
with-requires g c =
    rw (dam g (goal.at.with-requires g c).In-Some-dam).relationships c.in-Some.ensures.there.within

pub returns-clause-value : goal.returns-clause-value
returns-clause-value g c =
    let dam = dam g (goal.at.returns-clause-value g c).In-Some-dam in
    rw (← c.self.view_is)
    (mating-by DEPTH_LIMIT c.self.inside.frozen.now c.args.sire.now c.self.inside.number c.in-Some.sire
    c.in-Some-dam.dam.candidate c.in-Some.ensures.there dam.candidate c.with.result (lit< tt) c.in_ok-check.ensures
    (rw dam.relationships at c.with.ensures.value))

pub returns-clause-below_one : goal.returns-clause-below_one
returns-clause-below_one g c =
    rw (returns-clause-value g c)
    (entry-bound (book_ancestry c.args.self.now.book) (2 * DEPTH_LIMIT - 1)
    (Some c.args.sire.now) (Some c.args.self.now.dam))

pub returns-clause-allowed : goal.returns-clause-allowed
returns-clause-allowed g c = told g (goal.at.returns-clause-allowed g c).In-Some-dam ∙ c.in_ok-check.ensures
