-- `DamMatings::of`: what `Relationships::of` requires, and its clause `absent`.
use Rattle.std.proofs.Common.{◌≡◌, true, arith, refl, [], ◌∷◌}
use Rattle.herd_frozen.specs.declared.TheConstants.{DEPTH_LIMIT}
use Rattle.herd_frozen.specs.freezing.Frozen.{book_of}
use Rattle.herd_frozen.specs.rules.Book.{is_there}
use Rattle.herd_advice.proofs.lemmas.FrozenFacts.{knows-ancestors}
use Rattle.herd_advice.proofs.lemmas.MatingFacts.{candidate-there}
use Rattle.herd_advice.proofs.dam_matings.DamMatings.of.Goals as goal

pub of-requires-2-clause-coefficients : goal.of-requires-2-clause-coefficients
of-requires-2-clause-coefficients g c =
    knows-ancestors DEPTH_LIMIT c.args.frozen.now (c.args.number ∷ []) c.args.coefficients.now c.requires
    c.in-Some.candidate.rank c.args.number
    c.in-Some.ensures.there.rank (0, omega arith, refl)

pub returns-in_err-relationships-clause-absent : goal.returns-in_err-relationships-clause-absent
returns-in_err-relationships-clause-absent g c = λ absent.
    let there : is_there (book_of c.args.frozen.now) c.args.number ≡ true =
    candidate-there DEPTH_LIMIT c.args.frozen.now c.args.number c.in-Some.candidate c.in-Some.ensures.there in
    absurd (cc)
