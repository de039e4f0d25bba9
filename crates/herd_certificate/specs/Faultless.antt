-- A certificate in which nothing is wrong.
use Rattle.std.specs.Prelude.{◌≡◌, ℕ, List}
use Rattle.herd_seal.specs.CheckCause.{no_memory}
use Rattle.herd_seal.specs.CheckFaults.{IsFault, IsPartsFault}
use Rattle.herd_seal.specs.Reading.{Parts}
use Rattle.herd_seal.specs.declared.check_fault.CheckFault.{CheckFault}

-- under the seal nothing is wrong with what was read, but that memory runs out
abbrev pub IsFaultless : List ℕ → Parts → Type 0
IsFaultless seal parts = (fault : CheckFault) → IsPartsFault seal parts fault.cause fault.line → fault ≡ no_memory

-- under the seal the check finds no fault in the text, but that memory runs out: else it accepts it
abbrev pub IsFaultlessText : List ℕ → List ℕ → Type 0
IsFaultlessText seal text = (fault : CheckFault) → IsFault seal text fault → fault ≡ no_memory
