-- `Pedigree::find`: its clauses `absent` and `found`.
use Rattle.std.proofs.Common.{rules, sym, subst, ◌≡◌, None}
use Rattle.herd_frozen.specs.rules.Book.{Book, record_of}
use Rattle.herd_frozen.proofs.lemmas.rules.BookFacts.{at_position}
use Rattle.herd_frozen.proofs.lemmas.ListFacts.{none_if}
use Rattle.herd_pedigree.specs.Pedigree.{IsFound}
use Rattle.herd_pedigree.proofs.pedigree.Pedigree.find.Goals as goal

pub returns-in_err-place-clause-absent : goal.returns-in_err-place-clause-absent
returns-in_err-place-clause-absent g c =
    let book : Book = c.self.inside.records.book in
    let none : c.from_residual.result ≡ None = search rules in
    rw none
    (subst (λ p. record_of p.book c.args.number.now ≡ None) c.self.view_is
    (none_if (record_of book c.args.number.now) (sym c.in_err-place.ensures.found)))

pub returns-clause-found : goal.returns-clause-found
returns-clause-found g c =
    let book : Book = c.self.inside.records.book in
    subst (λ p. IsFound p.book (record { number = c.args.number.now; place = c.in_ok-place.place })) c.self.view_is
    (record { within = c.in_ok-place.ensures.within; at = at_position book c.args.number.now c.in_ok-place.place (sym c.in_ok-place.ensures.index) })
