use Rattle.std.proofs.Common.{◌+◌, drop}
use Rattle.herd_text.proofs.lemmas.TextFacts.{Holds}
use Rattle.herd_report.specs.writing.Replies.{reply_lines_from, replies_text}
use Rattle.herd_report.proofs.writing.replies.write_replies.Given as goal

abbrev pub invariant-loop-place : goal.invariant-loop-place
invariant-loop-place g l =
    Holds (g.W.Write.contents l.fn.writer) (g.W.Write.contents l.writer) (replies_text l.steps) l.text
    (reply_lines_from (l.place + 1) (drop l.place l.steps))
