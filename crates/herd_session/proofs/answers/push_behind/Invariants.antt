-- The lines so far, and those of the characters that are left.
use Rattle.std.proofs.Common.{◌≡◌, ◌++◌, drop}
use Rattle.herd_session.specs.Answers.{behind_from, lines_behind}
use Rattle.herd_session.proofs.answers.push_behind.Given as goal

abbrev pub invariant-loop-byte : goal.invariant-loop-byte
invariant-loop-byte l =
    l.out.items ++ behind_from l.tag l.starts (drop l.byte-index l.text)
    ≡ l.initial.out.items ++ lines_behind l.tag l.text
