use Rattle.std.proofs.Common.{◌≡◌, ◌++◌, drop}
use Rattle.std.specs.List.{flat_map}
use Rattle.herd_seal.specs.Answer.{checked_line}
use Rattle.herd_seal.proofs.answer.push_records.Given as goal

abbrev pub invariant-loop-row : goal.invariant-loop-row
invariant-loop-row g l = l.text ++ flat_map checked_line (drop l.row-index l.rows) ≡ l.fn.text ++ flat_map checked_line l.rows
