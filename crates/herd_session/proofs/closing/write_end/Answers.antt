-- `write_end`: how a session ends, by what was written.
use Rattle.std.proofs.Common.{◌≡◌, Bool, false, rules, subst}
use Rattle.std.proofs.Math.Logic.{∥∥₁_elim, ∥∥₁_map, ∥∥₁_prop}
use Rattle.herd_session.proofs.ClosingFacts.{ends_closed, ends_early, ends_stopped, ends_unwritten, ends_within}
use Rattle.herd_session.specs.Output.{HasAnswers}
use Rattle.herd_session.proofs.closing.write_end.Goals as goal

pub returns-then-has_failed : goal.returns-then-has_failed
returns-then-has_failed g c =
    let told = c.args.longest_written.now.history in
    let waiting = c.args.waiting.now.items in
    ∥∥₁_map c.requires.answers
    (λ has.
    ends_unwritten g.N.OfficeName.limits g.N.SessionName.records told c.args.has_failed g.N.SessionName.before
    (g.W.Write.contents c.args.writer.now) waiting c.steps-steps.ensures.legal has)

pub returns-in-Ok-write_last_line : goal.returns-in-Ok-write_last_line
returns-in-Ok-write_last_line g c =
    let told = c.args.longest_written.now.history in
    let waiting = c.args.waiting.now.items in
    let limits = g.N.OfficeName.limits in
    let records = g.N.SessionName.records in
    let before = g.N.SessionName.before in
    let now = g.W.Write.contents c.args.writer.now in
    let limits_are = rw c.in-Ok.is at c.requires.limits in
    let begins = rw c.in-Ok.is at c.requires.begins in
    let desks = rw c.in-Ok.is at c.requires.desks in
    let written = c.write_last_line in
    let sound : c.args.has_failed ≡ false = search rules in
    ∥∥₁_map c.requires.answers
    (λ has.
    ends_closed limits records told c.in-Ok.register before now (g.W.Write.contents written.new.writer)
    waiting
    (subst (λ (failed : Bool). HasAnswers limits records told failed before now waiting) sound has)
    begins limits_are written.ensures.legal desks.0 desks.1 c.in-Ok-write_last_line.ensures.ok)

pub returns-in-Err-write_last_line : goal.returns-in-Err-write_last_line
returns-in-Err-write_last_line g c =
    let told = c.args.longest_written.now.history in
    let waiting = c.args.waiting.now.items in
    let limits = g.N.OfficeName.limits in
    let records = g.N.SessionName.records in
    let before = g.N.SessionName.before in
    let now = g.W.Write.contents c.args.writer.now in
    let limits_are = rw c.in-Ok.is at c.requires.limits in
    let begins = rw c.in-Ok.is at c.requires.begins in
    let written = c.write_last_line in
    let sound : c.args.has_failed ≡ false = search rules in
    ∥∥₁_map c.requires.answers
    (λ has.
    ends_within limits records told c.in-Ok.register before now (g.W.Write.contents written.new.writer)
    waiting c.in-Err-write_last_line.ensures.err.0
    (subst (λ (failed : Bool). HasAnswers limits records told failed before now waiting) sound has)
    begins limits_are written.ensures.legal c.in-Err-write_last_line.ensures.err.1)

pub returns-in-Ok-write_waiting : goal.returns-in-Ok-write_waiting
returns-in-Ok-write_waiting g c =
    let told = c.args.longest_written.now.history in
    let waiting = c.args.waiting.now.items in
    let limits = g.N.OfficeName.limits in
    let records = g.N.SessionName.records in
    let before = g.N.SessionName.before in
    let now = g.W.Write.contents c.args.writer.now in
    let stop = c.in-Err.stop in
    let sound : c.args.has_failed ≡ false = search rules in
    ∥∥₁_elim c.requires.answers ∥∥₁_prop
    (λ has.
    ∥∥₁_map stop.can
    (ends_stopped stop.fault limits records told before now (g.W.Write.contents c.write_waiting.new.writer)
    waiting c.steps-steps.ensures.legal
    (subst (λ (failed : Bool). HasAnswers limits records told failed before now waiting) sound has)
    c.in-Ok-write_waiting.ensures.ok))

pub returns-in-Err-write_waiting : goal.returns-in-Err-write_waiting
returns-in-Err-write_waiting g c =
    let told = c.args.longest_written.now.history in
    let waiting = c.args.waiting.now.items in
    let limits = g.N.OfficeName.limits in
    let records = g.N.SessionName.records in
    let before = g.N.SessionName.before in
    let now = g.W.Write.contents c.args.writer.now in
    let sound : c.args.has_failed ≡ false = search rules in
    ∥∥₁_map c.requires.answers
    (λ has.
    ends_early limits records told before now (g.W.Write.contents c.write_waiting.new.writer)
    waiting c.in-Err-write_waiting.ensures.err.0 c.steps-steps.ensures.legal
    (subst (λ (failed : Bool). HasAnswers limits records told failed before now waiting) sound has)
    c.in-Err-write_waiting.ensures.err.1)
