use Rattle.std.proofs.Common.{◌≡◌, sym, rules}
use Rattle.herd_animal.specs.Day.{day_text}
use Rattle.herd_record_line.proofs.reading.read_day.Goals as goal

pub returns-else-is_written-clause-none : goal.returns-else-is_written-clause-none
returns-else-is_written-clause-none c = λ is.
    let same : day_text c.in-Ok.day ≡ c.args.text.now = sym (c.is_written.ensures.only c.args.text.now is (sym c.in-Ok.ensures.value)) in
    search rules
