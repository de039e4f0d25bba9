-- The replies of a journal as text.
use Rattle.std.specs.Prelude.{ℕ, ◌+◌, List, [], ◌∷◌, ◌++◌, codes, decimal}
use Rattle.herd_register.specs.declared.reply.Reply.{Reply}
use Rattle.herd_register.specs.declared.reply.Reply.TheVariants.{Accepted, Refused}
use Rattle.herd_register.specs.declared.step.Step.{Step}
use Rattle.herd_register.specs.Refusal.{refusal_number}
use Rattle.herd_report.specs.writing.RefusedText.{refused_line_end}

-- what stands in the line of a reply after the serial
abbrev pub reply_line_end : Reply → List ℕ
reply_line_end Accepted = codes ",accepted\n"
reply_line_end (Refused refusal) = refused_line_end (refusal_number refusal)

-- the line of the step with this serial
abbrev pub reply_line : ℕ → Reply → List ℕ
reply_line serial reply = decimal serial ++ reply_line_end reply

-- the lines of steps, the first of which has this serial
abbrev pub reply_lines_from : ℕ → List Step → List ℕ
reply_lines_from serial [] = []
reply_lines_from serial (step ∷ steps) = reply_line serial step.reply ++ reply_lines_from (serial + 1) steps

-- the lines of the steps of a journal
abbrev pub replies_text : List Step → List ℕ
replies_text steps = reply_lines_from 1 steps
