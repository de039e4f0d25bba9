use Rattle.std.proofs.Common.{◌<◌, ◌∙◌, ℕ, List, [], ◌∷◌, ◌++◌, ap, w64}
use Rattle.std.proofs.lemmas.List.Elements.{All-from_get_or}
use Rattle.std.specs.Int.{to_be_bytes}
use Rattle.sha2.specs.Sha256.{sha256}
use Rattle.herd_seal.proofs.row.seal_over.Goals as goal

pub returns-clause-seal : goal.returns-clause-seal
returns-clause-seal c =
    let one = c.to_be_bytes.result in
    let two = c.to_be_bytes-2.result in
    let root = c.as_slice.result.now in
    let held = c.update-4.ensures (2 ∷ (one ++ two)) (c.update-3.ensures (2 ∷ one) (c.update-2.ensures (2 ∷ []) (c.update.ensures [] c.new-hasher.ensures))) in
    c.finalize.ensures (2 ∷ (one ++ two ++ root)) held
    ∙ ap (λ (l : List ℕ). sha256 (2 ∷ (l ++ two ++ root))) c.to_be_bytes.ensures
    ∙ ap (λ (l : List ℕ). sha256 (2 ∷ (to_be_bytes w64 c.args.animals ++ l ++ root))) c.to_be_bytes-2.ensures
    ∙ ap (λ (l : List ℕ). sha256 (2 ∷ (to_be_bytes w64 c.args.animals ++ to_be_bytes w64 c.args.steps ++ l))) c.as_slice.ensures

pub returns-clause-root : goal.returns-clause-root
returns-clause-root c = (All-from_get_or (λ b. b < 256) c.args.root.now 0 (λ i _. c.fits-root i), c.told-root)
