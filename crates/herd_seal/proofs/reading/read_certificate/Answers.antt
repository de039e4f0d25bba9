use Rattle.std.proofs.Common.{◌≡◌, length, arith}
use Rattle.herd_text.proofs.lemmas.Exits.{if_err}
use Rattle.herd_seal.specs.Reading.{IsHeaderText}
use Rattle.herd_seal.proofs.ReadingFacts.{first_line, unread_digest, unread_header, unread_row}
use Rattle.herd_seal.proofs.TextFacts.{whole_joined}
use Rattle.herd_seal.proofs.reading.read_certificate.Goals as goal

pub returns-clause-text : goal.returns-clause-text
returns-clause-text g c = record {
  written = record {
    header = c.in-Some-read_header.ensures.written;
    rows = c.in_ok-rest.ensures.written;
    digests = c.in_ok-read_digests.ensures.digests;
  };
  joined =
      whole_joined c.in-Some-read_header.header.seal c.in-Some-read_header.header.claim c.in-Some-read_header.header.coefficient.now
      c.read_rows.new.rows.items c.read_digests.new.digests.items c.in-Some.header.now c.in-Some.body.now c.in_ok-rest.rest.now
      c.args.text.now c.in-Some.ensures.joined c.in-Some-read_header.ensures.line c.in_ok-rest.ensures.rows c.in_ok-read_digests.ensures.text;
}

pub returns-in_default-read_header-clause-fault : goal.returns-in_default-read_header-clause-fault
returns-in_default-read_header-clause-fault g c =
    unread_header c.args.text.now c.at-in_default-read_header.result c.at-in_default-read_header.ensures
    (λ has. c.in_default-read_header.ensures.none
    (first_line {P = IsHeaderText} c.in-Some.header.now c.in-Some.body.now c.args.text.now c.in-Some.ensures.joined c.in-Some.ensures.plain has))

pub returns-in_err-rest-clause-fault : goal.returns-in_err-rest-clause-fault
returns-in_err-rest-clause-fault g c =
    if_err c.from_residual-in_err-rest.result _ _ c.from_residual-in_err-rest.ensures.1
    (unread_row c.args.text.now c.in-Some.header.now c.in-Some.body.now _ c.in-Some.ensures.joined c.in-Some.ensures.plain
    c.in-Some-read_header.ensures.text c.in_err-rest.ensures.fault)

pub returns-in_err-read_digests-clause-fault : goal.returns-in_err-read_digests-clause-fault
returns-in_err-read_digests-clause-fault g c =
    let each = c.len.ensures in
    let held = c.read_rows.new.rows.ok in
    let long : c.len.result ≡ length c.read_rows.new.rows.items = omega (arith, each, held) in
    if_err c.from_residual-in_err-read_digests.result _ _ c.from_residual-in_err-read_digests.ensures.1
    (unread_digest c.args.text.now c.in-Some.header.now c.in-Some.body.now c.in_ok-rest.rest.now c.read_rows.new.rows.items c.len.result _
    c.in-Some.ensures.joined c.in-Some.ensures.plain c.in-Some-read_header.ensures.text c.in_ok-rest.ensures.rows c.in_ok-rest.ensures.written
    long c.in_ok-rest.ensures.end c.in_err-read_digests.ensures.fault)
