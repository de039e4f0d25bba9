-- `Shown::records`: what is returned.
use Rattle.std.proofs.Common.{◌∙◌, refl, sym, ap}
use Rattle.herd_register.specs.Run.{commands_of, run_book}
use Rattle.herd_office.proofs.ToldFacts.{told-book}
use Rattle.herd_office.proofs.shown.Shown.records.Goals as goal

pub returns : goal.returns
returns c =
    let shown = c.args.self.now in
    let commands = commands_of shown.past.seen.log in
    let long = sym c.len.ensures.length ∙ c.if-len-steps.false ∙ c.steps.ensures.steps in
    let book = told-book shown c.requires long in
    record {
      run = c.records.ensures.value ∙ book;
      lawful = c.records.ensures.lawful commands (book ∙ ap (λ limits. run_book limits commands) c.requires.limits);
      kept = c.records.ensures.value;
      no_reading = (λ is. absurd (cc is), λ apart. absurd (apart long));
      fault = tt;
    }

pub returns-then-len-steps : goal.returns-then-len-steps
returns-then-len-steps c =
    record {
      run = tt;
      lawful = tt;
      kept = tt;
      no_reading = (λ is long. c.if-len-steps.true (c.len.ensures.length ∙ long ∙ sym c.steps.ensures.steps), λ apart. refl);
      fault = refl;
    }
