-- The lines that are left follow.
use Rattle.std.proofs.Common.{◌≡◌, ◌++◌, drop, string_bytes}
use Rattle.herd_clerks.specs.Summary.{desk_lines}
use Rattle.herd_clerks.proofs.summary.lines_of.Given as goal

abbrev pub invariant-loop-desk : goal.invariant-loop-desk
invariant-loop-desk l = string_bytes l.text ++ desk_lines (drop l.desk-index l.desks) ≡ desk_lines l.desks
