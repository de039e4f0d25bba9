-- A turn begins, goes on and ends. Each slip's history is longer than the last, and ends with the command.
use Rattle.std.proofs.Common.{rules, arith, ◌<◌, ◌++◌, get_or, length}
use Rattle.std.proofs.lemmas.Option.{slice_get-get_or}
use Rattle.herd_clerks.specs.Deal.{every}
use Rattle.herd_clerks.proofs.DealFacts.{begun, filed_more, gone_on}
use Rattle.herd_clerks.proofs.clerk.file_turn.Goals as goal

pub loop-place-init : goal.loop-place-init
loop-place-init g c =
    record {
      number = search rules;
      under = λ before filed. begun c.args.desk.now c.args.turn.step c.args.turn.from before c.args.turn.commands.now filed;
    }

pub loop-place-preserved : goal.loop-place-preserved
loop-place-preserved g c =
    let turn = c.args.turn in
    let place = c.loop-place.place in
    let commands = turn.commands.now in
    let old = c.loop-place.desk in
    let new = c.file.new.self in
    let told = c.in_ok-file.ensures in
    let within : place < length commands = omega (arith, c.loop-place-test.true) in
    let command = get_or commands place c.index-turn-place.result in
    record {
      number = search rules;
      under = λ before filed.
          gone_on old new turn.step place commands (before ++ every turn.step turn.from commands) command turn.some
          (slice_get-get_or commands place c.index-turn-place.result within)
          (λ done has. filed_more old new done command c.in_ok-file.field-0.reply told.number told.answered
          (rw told.held told.begins) (rw told.held told.longer) (rw told.held told.ends) has)
          (c.loop-place.invariant.under before filed);
    }
