-- `correct`: its clause `refusal`, of an animal of the book.
use Rattle.std.proofs.Common.{◌≡◌, ◌∙◌, rules, ℕ, List, Some, slice_get}
use Rattle.std.specs.Map.{keys_of}
use Rattle.std.specs.Option.{option_map}
use Rattle.herd_register.specs.Refusal.{refusal_of}
use Rattle.herd_register.proofs.FaultFacts.{correction-told, registered}
use Rattle.herd_register.proofs.filing.correct.Goals as goal

pub returns-clause-refusal : goal.returns-clause-refusal
returns-clause-refusal g c =
    let book = c.args.pedigree.now.book in
    let animal : List ℕ = c.args.animal in
    let at : slice_get (keys_of book) c.in-Some.found.place ≡ Some animal = rw c.in-Some.ensures.number at c.in-Some.ensures.found.at in
    let here = registered book c.in-Some.found.place animal at in
    let mapped : c.map.result ≡ option_map refusal_of c.in_ok-fault.fault = search rules in
    mapped ∙ correction-told book animal c.args.sire c.args.dam here.0 here.1 c.in_ok-fault.fault (rw c.in-Some.ensures.number at c.in_ok-fault.ensures.fault)
