-- The text is none of the numbers so far.
use Rattle.std.proofs.Common.{◌≢◌, ◌+◌, ◌<◌, ℕ}
use Rattle.std.specs.Prelude.{decimal}
use Rattle.herd_requests.proofs.request.place_in.Given as goal

abbrev pub invariant-loop-place : goal.invariant-loop-place
invariant-loop-place l = (earlier : ℕ) → earlier < l.place → l.text ≢ decimal (earlier + 1)
