-- `AnimalNumberDisplay::fmt`: what `unreachable` requires.
use Rattle.std.proofs.Common.{sym, subst, ℕ, List}
use Rattle.std.specs.Str.{IsUtf8}
use Rattle.herd_animal.proofs.AsciiFacts.{number-utf8}
use Rattle.herd_animal.proofs.number.AnimalNumberDisplay.fmt.Goals as goal

pub unreachable-requires : goal.unreachable-requires
unreachable-requires g c =
    let bytes : List ℕ = c.bytes-bytes.result in
    let is : IsUtf8 bytes = subst (λ text. IsUtf8 text) (sym c.bytes-bytes.ensures.same) (number-utf8 c.args.self.now c.bytes-bytes.ensures.grammar) in
    c.in-Err.ensures.cases.0 is
