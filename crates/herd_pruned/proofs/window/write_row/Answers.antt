-- `write_row`: the parents' rows are others, and so stand as they did.
use Rattle.std.proofs.Common.{ℕ, ◌+◌, ◌*◌, ◌/◌, ◌^◌, ◌<◌, ◌≡◌, ◌∙◌, arith, length}
use Rattle.std.proofs.lemmas.List.{length-set}
use Rattle.herd_lineage.specs.declared.TheConstants.{DEPTH_LIMIT}
use Rattle.herd_pruned.specs.Window.{with_parent}
use Rattle.herd_pruned.proofs.lemmas.WindowFacts.{other-row, parent-read, row-more, small-set}
use Rattle.herd_pruned.proofs.window.write_row.Goals as goal

pub loop-y-preserved : goal.loop-y-preserved
loop-y-preserved c =
    let places = c.args.places in
    let before = c.args.entries.now in
    let entries = c.loop-y.entries in
    let p = c.args.place in
    let y : ℕ = c.loop-y.y in
    let low : y < places = c.loop-y-test.true in
    let old = c.loop-y.invariant in
    let half : ℕ → ℕ = λ (z : ℕ). (with_parent places before c.args.sire z + with_parent places before c.args.dam z) / 2 in
    let value : ℕ = (c.entry_in.result + c.entry_in-in-loop-y.result) / 2 in
    let s : c.entry_in.result ≡ with_parent places before c.args.sire y = parent-read places before entries p y c.args.sire c.row_of-sire.result c.entry_in.result c.row_of-sire.ensures c.requires.sire low old.others c.entry_in.ensures.value in
    let d : c.entry_in-in-loop-y.result ≡ with_parent places before c.args.dam y = parent-read places before entries p y c.args.dam c.row_of-dam.result c.entry_in-in-loop-y.result c.row_of-dam.ensures c.requires.dam low old.others c.entry_in-in-loop-y.ensures.value in
    let is : value ≡ half y = omega (arith, s, d) in
    let square : length entries ≡ places * places = old.long ∙ c.requires.long in
    let ss = c.entry_in.ensures.small in
    let ds = c.entry_in-in-loop-y.ensures.small in
    record {
      long = length-set entries (p * places + y) value ∙ old.long;
      small = small-set entries (p * places + y) value (2 ^ (2 * DEPTH_LIMIT + 1)) old.small (omega (arith, ss, ds));
      row = row-more places entries p y value half c.requires.place low square old.row is;
      others = λ x z xl zl apart. other-row places entries p y value low x z zl apart ∙ old.others x z xl zl apart;
    }
