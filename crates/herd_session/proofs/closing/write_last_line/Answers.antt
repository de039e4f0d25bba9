-- The pieces of the last line are its text.
use Rattle.std.proofs.Common.{◌≡◌, ◌∙◌, ◌++◌, List, ℕ, ap, decimal, length, rules, subst}
use Rattle.std.specs.Prelude.{OnErr, codes}
use Rattle.herd_register.specs.Register.{register_book}
use Rattle.herd_text.specs.Text.{PassesOn}
use Rattle.herd_session.proofs.PieceFacts.{joined_four}
use Rattle.herd_session.specs.Closing.{last_line}
use Rattle.herd_session.proofs.closing.write_last_line.Goals as goal

pub returns-clause-err : goal.returns-clause-err
returns-clause-err g c =
    let register = c.args.register.now in
    let before = g.W.Write.contents c.args.writer.now in
    let after = g.W.Write.contents c.write_pieces.new.writer in
    let steps = c.as_bytes-steps.result.now in
    let animals = c.as_bytes-animals.result.now in
    let steps_are : steps ≡ decimal (length register.journal) = search rules in
    let animals_are : animals ≡ decimal (length (register_book register)) = search rules in
    let text : codes "closed," ++ (steps ++ (codes "," ++ (animals ++ codes "\n"))) ≡ last_line register =
    ap (λ (s : List ℕ). codes "closed," ++ (s ++ (codes "," ++ (animals ++ codes "\n")))) steps_are
    ∙ ap (λ (a : List ℕ). codes "closed," ++ (decimal (length register.journal) ++ (codes "," ++ (a ++ codes "\n")))) animals_are
    ∙ ap (λ (t : List ℕ). codes "closed," ++ t)
    (joined_four (decimal (length register.journal)) (codes ",") (decimal (length (register_book register))) (codes "\n")) in
    subst (λ (t : List ℕ). OnErr c.write_pieces.result ((rest : List ℕ) × PassesOn before after (c.args.waiting.now.items ++ t) rest)) text
    c.write_pieces.ensures.err
