use Rattle.std.proofs.Common.{◌≡◌, take}
use Rattle.herd_certificate.proofs.parts.widened.Given as goal

abbrev pub invariant-loop-place : goal.invariant-loop-place
invariant-loop-place g l = l.wide.items ≡ take l.place-index l.places
