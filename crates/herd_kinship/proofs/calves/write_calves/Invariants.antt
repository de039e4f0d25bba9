use Rattle.std.proofs.Common.{◌≡◌, ℕ, length, take}
use Rattle.herd_kinship.specs.CalfCoefficients.{HasWritten, HaveValues}
use Rattle.herd_kinship.proofs.calves.write_calves.Given as goal

-- the calves so far are written
abbrev pub invariant-loop-calf : goal.invariant-loop-calf
invariant-loop-calf l = record {
  each : length l.known ≡ length l.initial.known;
  written : (f : ℕ → ℕ) → HaveValues f l.calves → HasWritten f (take l.calf-index l.calves) l.initial.known l.known;
}
