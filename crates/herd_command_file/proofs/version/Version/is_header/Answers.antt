-- `Version::is_header`: its result.
use Rattle.std.proofs.Common.{◌≡◌, ◌∙◌, ap, sym, length}
use Rattle.csv.specs.Records.{fields_of}
use Rattle.herd_command_file.specs.Columns.{are_names, texts_of}
use Rattle.herd_command_file.proofs.HeaderFacts.{is_header-One, is_header-Two, no_header-Two}
use Rattle.herd_command_file.proofs.version.Version.is_header.Goals as goal

pub returns-in-One : goal.returns-in-One
returns-in-One c =
    let long : length (fields_of c.args.row.now) ≡ 7 = rw c.in-One.is at (sym c.len.ensures ∙ c.if-len-columns.false ∙ c.columns.ensures) in
    rw c.in-One.is (c.are_names.ensures ∙ ap are_names c.of-columns.ensures ∙ sym (is_header-One (fields_of c.args.row.now) long))

pub returns-then-are_names : goal.returns-then-are_names
returns-then-are_names c =
    let fields = fields_of c.args.row.now in
    let long : length fields ≡ 8 = rw c.in-Two.is at (sym c.len.ensures ∙ c.if-len-columns.false ∙ c.columns.ensures) in
    let names = sym c.are_names-in-Two.ensures ∙ c.if-are_names.true in
    rw (c.in-Two.is, c.eq.ensures, c.as_slice.ensures) (is_header-Two fields (texts_of c.of-columns.result) c.of-columns.ensures long names)

pub returns-else-are_names : goal.returns-else-are_names
returns-else-are_names c =
    let fields = fields_of c.args.row.now in
    let long : length fields ≡ 8 = rw c.in-Two.is at (sym c.len.ensures ∙ c.if-len-columns.false ∙ c.columns.ensures) in
    let names = sym c.are_names-in-Two.ensures ∙ c.if-are_names.false in
    rw (c.in-Two.is, c.if-are_names.false) (no_header-Two fields (texts_of c.of-columns.result) c.of-columns.ensures long names)
