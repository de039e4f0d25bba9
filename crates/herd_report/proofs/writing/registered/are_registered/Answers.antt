-- `are_registered`: one number more is in the book.
use Rattle.std.proofs.Common.{◌≡◌, ◌∙◌, ◌&&◌, ap, ap₂, get_or, sym, true}
use Rattle.std.proofs.lemmas.List.Folds.{list_all_more}
use Rattle.herd_frozen.specs.freezing.Frozen.{book_of}
use Rattle.herd_frozen.specs.rules.Book.{is_there}
use Rattle.herd_report.proofs.writing.registered.are_registered.Goals as goal

pub loop-number-preserved : goal.loop-number-preserved
loop-number-preserved g c =
    let numbers = c.args.numbers.now in
    let place = c.loop-number.number-index in
    let number = c.number-item.result in
    let there = is_there (book_of c.args.frozen.now) in
    let found : there (get_or numbers place number) ≡ true =
    ap there (sym c.number-item.is) ∙ sym c.is_registered.ensures ∙ c.if-not-is_registered.false in
    list_all_more there numbers place number c.loop-number-test.true ∙ ap₂ (λ a b. a && b) c.loop-number.invariant found
