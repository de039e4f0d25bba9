-- The lines of records.
use Rattle.std.proofs.Common.{append-nil, ◌≡◌, ◌∙◌, ℕ, ◌<◌, false, List, ◌++◌, codes, length, slice_get, Some, refl, ap, sym, arith}
use Rattle.herd_frozen.specs.declared.rules.animal.Animal.{Animal}
use Rattle.herd_frozen.specs.declared.freezing.frozen.Row.{Row}
use Rattle.herd_frozen.specs.declared.TheConstants.{DEPTH_LIMIT, MOST_ANIMALS}
use Rattle.herd_frozen.specs.freezing.Frozen.{IsFrozen, book_of, numbers_of}
use Rattle.herd_frozen.specs.rules.Book.{Book, is_there, record_of}
use Rattle.herd_advice.proofs.lemmas.FrozenFacts.{record_at-row}
use Rattle.herd_report.proofs.lemmas.writing.CertificateFacts.{nothing_without, row_at_rank}
use Rattle.herd_text.proofs.lemmas.TextFacts.{some_after}
use Rattle.herd_record_line.specs.RecordLine.{record_line, record_text}
use Rattle.herd_report.specs.writing.RecordList.{line_under}

-- a line isn't empty
pub some_record_line : (number : List ℕ) (animal : Animal) → 0 < length (record_line number animal)
some_record_line number animal = some_after (record_text number animal) (codes "\n") (omega arith)

-- the line of the number at a rank is that of the row there
pub line_at_rank : (rows : List Row) → IsFrozen DEPTH_LIMIT MOST_ANIMALS rows → (rank : ℕ) (row : Row) (number : List ℕ)
    → slice_get rows rank ≡ Some row → slice_get (numbers_of rows) rank ≡ Some number
    → record_line number row.animal ≡ line_under (book_of rows) number
line_at_rank rows frozen rank row number there stands =
    let at = row_at_rank rows rank number stands in
    let both : Some at.0 ≡ Some row = sym at.1 ∙ there in
    let same : at.0 ≡ row = cc in
    let name : number ≡ row.number = at.2 ∙ ap (λ (r : Row). r.number) same in
    rw (name, record_at-row DEPTH_LIMIT MOST_ANIMALS rows frozen rank row there) refl

-- a number that isn't in the book has no line
pub no_line : (book : Book) (number text : List ℕ) → is_there book number ≡ false → text ≡ text ++ line_under book number
no_line book number text absent =
    sym (ap (λ line. text ++ line) (nothing_without (record_line number) (record_of book number) absent) ∙ append-nil text)
