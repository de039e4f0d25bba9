-- A fault that is told is an answer.
use Rattle.std.proofs.Common.{◌≡◌, ◌∙◌, ◌++◌, List, ℕ, ap}
use Rattle.std.proofs.Math.Logic.{∥∥₁_map}
use Rattle.std.specs.Prelude.{codes}
use Rattle.herd_session.proofs.AskedFacts.{fault_answers}
use Rattle.herd_session.proofs.PieceFacts.{joined_four}
use Rattle.herd_session.specs.Answers.{fault_text}
use Rattle.herd_session.proofs.output.Output.fault.Goals as goal

pub write-requires : goal.write-requires
write-requires g c =
    let tag = c.args.tag.now in
    let name = c.name_bytes-name.result.now in
    let told : tag ++ (codes ",fault," ++ (name ++ codes "\n")) ≡ fault_text tag c.args.fault =
    joined_four tag (codes ",fault,") name (codes "\n")
    ∙ ap (λ (n : List ℕ). tag ++ codes ",fault," ++ n ++ codes "\n") c.name_bytes-name.ensures in
    ∥∥₁_map c.requires
    (λ there. fault_answers g.N.OfficeName.limits g.N.SessionName.records _ tag c.args.fault _ there told)
