-- The pieces come behind what waited.
use Rattle.std.proofs.Common.{◌++◌, [], List, ℕ, Bor}
use Rattle.std.proofs.KnownBytes.{Appends-kept}
use Rattle.std.specs.List.{flat_map}
use Rattle.herd_text.proofs.lemmas.Exits.{on_err}
use Rattle.herd_text.proofs.lemmas.TextFacts.{passes_before}
use Rattle.herd_session.proofs.PieceFacts.{on_ok, passed_behind, passed_whole}
use Rattle.herd_session.proofs.pieces.write_apart.Goals as goal

pub returns-in_err-write_waiting-clause-err : goal.returns-in_err-write_waiting-clause-err
returns-in_err-write_waiting-clause-err g c =
    let text = flat_map (λ (piece : Bor (List ℕ)). piece.now) c.args.pieces.now in
    let early = c.in_err-write_waiting.ensures.err in
    on_err c.from_residual.result (early.0 ++ text, passes_before text early.1)

pub returns-in_err-write_each-clause-err : goal.returns-in_err-write_each-clause-err
returns-in_err-write_each-clause-err g c =
    let early = c.in_err-write_each.ensures.err in
    on_err c.from_residual-in_err-write_each.result
    (early.0, passed_behind _ _ _ c.args.waiting.now.items _ early.0 c.in_ok-write_waiting.ensures.ok early.1)

pub returns-clause-ok : goal.returns-clause-ok
returns-clause-ok g c =
    let text = flat_map (λ (piece : Bor (List ℕ)). piece.now) c.args.pieces.now in
    let written = Appends-kept _ _ _ text c.in_ok-write_each.ensures.ok c.flush.ensures in
    let all = passed_behind _ _ _ c.args.waiting.now.items text [] c.in_ok-write_waiting.ensures.ok (passed_whole _ _ text written) in
    on_ok c.flush.result (rw c.in_ok-write_waiting.ensures.none_waits all)

pub returns-clause-err : goal.returns-clause-err
returns-clause-err g c =
    let text = flat_map (λ (piece : Bor (List ℕ)). piece.now) c.args.pieces.now in
    let written = Appends-kept _ _ _ text c.in_ok-write_each.ensures.ok c.flush.ensures in
    on_err c.flush.result
    ([], passed_behind _ _ _ c.args.waiting.now.items text [] c.in_ok-write_waiting.ensures.ok (passed_whole _ _ text written))
