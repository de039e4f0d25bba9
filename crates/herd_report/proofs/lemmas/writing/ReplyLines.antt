-- The lines of replies, one after the other.
use Rattle.std.proofs.Common.{◌≡◌, ◌∙◌, ℕ, ◌+◌, ◌<◌, List, ◌++◌, length, get_or, drop, ap, sym, arith}
use Rattle.std.proofs.lemmas.List.{drop_more}
use Rattle.std.specs.Prelude.{decimal}
use Rattle.herd_register.specs.declared.reply.Reply.{Reply}
use Rattle.herd_register.specs.declared.reply.Reply.TheVariants.{Accepted, Refused}
use Rattle.herd_register.specs.declared.step.Step.{Step}
use Rattle.herd_report.specs.writing.Replies.{reply_line, reply_line_end, reply_lines_from}
use Rattle.herd_text.proofs.lemmas.TextFacts.{some_after}

-- the line of the step at a place, and those after it
pub reply_lines_from-drop : (steps : List Step) (place : ℕ) (step : Step) → place < length steps → step ≡ get_or steps place step
    → reply_lines_from (place + 1) (drop place steps) ≡ reply_line (place + 1) step.reply ++ reply_lines_from (place + 1 + 1) (drop (place + 1) steps)
reply_lines_from-drop steps place step within there =
    ap (reply_lines_from (place + 1)) (drop_more steps place step within)
    ∙ ap (λ s. reply_line (place + 1) s.reply ++ reply_lines_from (place + 1 + 1) (drop (place + 1) steps)) (sym there)

-- a line isn't empty
pub some_reply_line : (serial : ℕ) (reply : Reply) → 0 < length (reply_line serial reply)
some_reply_line serial Accepted = some_after (decimal serial) (reply_line_end Accepted) (omega arith)
some_reply_line serial (Refused refusal) = some_after (decimal serial) (reply_line_end (Refused refusal)) (omega arith)
