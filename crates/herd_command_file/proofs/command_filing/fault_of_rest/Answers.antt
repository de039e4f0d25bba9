-- What was read is what the reader gave.
use Rattle.std.proofs.Common.{◌∙◌, [], ◌∷◌, ◌++◌, refl}
use Rattle.herd_command_file.proofs.command_filing.fault_of_rest.Goals as goal

pub loop-fault-preserved : goal.loop-fault-preserved
loop-fault-preserved g c =
    let before = c.loop-fault.invariant in
    let given = rw c.in-Ok-Some.field-0-is at c.in-Ok-Some.ensures.ready in
    let gives = rw c.in-Ok-Some.field-0-is at c.in-Ok-Some.ensures.gives in
    record {
      ready = record {
        set_up = given.set_up;
        most_is = given.most_is ∙ before.ready.most_is;
        given_is = refl;
        within = rw (given.given_is, ← before.ready.most_is) given.within;
        few = before.ready.few;
      };
      gives = λ file list whole. let far = before.gives file list whole in (far.0 ++ c.in-Ok-Some.field-0-0 ∷ [], gives file far.0 far.1);
    }

pub returns-in-Ok-None-clause-file : goal.returns-in-Ok-None-clause-file
returns-in-Ok-None-clause-file g c =
    let gives = rw c.in-Ok-None.field-0-is at c.in-Ok-None.ensures.gives in
    λ file list whole. let far = c.loop-fault.invariant.gives file list whole in (far.0, gives file far.0 far.1)

pub returns-in-Err-clause-file : goal.returns-in-Err-clause-file
returns-in-Err-clause-file g c =
    λ file list whole. let far = c.loop-fault.invariant.gives file list whole in
    (far.0, rw c.loop-fault.invariant.ready.most_is at (c.in-Err.ensures.gives file far.0 far.1))
