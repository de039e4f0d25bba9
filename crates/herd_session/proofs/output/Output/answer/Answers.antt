-- The answer's text is its one piece.
use Rattle.std.proofs.Common.{◌∙◌, List, ℕ, subst, sym}
use Rattle.std.proofs.lemmas.List.{append-nil}
use Rattle.herd_session.specs.Answers.{IsAnswer}
use Rattle.herd_session.proofs.output.Output.answer.Goals as goal

pub write-requires : goal.write-requires
write-requires g c =
    subst (λ (t : List ℕ). ∥ IsAnswer g.N.OfficeName.limits g.N.SessionName.records c.args.answer.now.of.history t ∥₁)
    (sym (append-nil c.as_slice.result.now ∙ c.as_slice.ensures.value)) c.args.answer.now.answers
