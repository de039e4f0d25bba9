-- The pieces so far wait.
use Rattle.std.proofs.Common.{◌≡◌, ◌++◌, take}
use Rattle.std.specs.List.{flat_map}
use Rattle.herd_session.proofs.pieces.push_pieces.Given as goal

abbrev pub invariant-loop-piece : goal.invariant-loop-piece
invariant-loop-piece l =
    l.waiting.items ≡ l.fn.waiting.items ++ flat_map (λ piece. piece.now) (take l.piece-index l.pieces)
