-- `write_column`: what is read of the row stands as it did.
use Rattle.std.proofs.Common.{ℕ, ◌+◌, ◌*◌, ◌^◌, ◌<◌, ◌≡◌, ◌≢◌, ◌∙◌, ⊎_elim, arith, ap, sym, length}
use Rattle.std.proofs.lemmas.Bool.{cases_eq}
use Rattle.std.proofs.lemmas.List.{length-set}
use Rattle.std.proofs.lemmas.Nat.{mul-add-lt}
use Rattle.herd_lineage.specs.declared.TheConstants.{DEPTH_LIMIT}
use Rattle.herd_pruned.specs.Window.{at}
use Rattle.herd_pruned.proofs.lemmas.WindowFacts.{column-more, other-column, other-row, small-set}
use Rattle.herd_pruned.proofs.window.write_column.Goals as goal

pub loop-x-preserved : goal.loop-x-preserved
loop-x-preserved c =
    let places = c.args.places in
    let before = c.args.entries.now in
    let entries = c.loop-x.entries in
    let p = c.args.place in
    let x : ℕ = c.loop-x.x in
    let low : x < places = c.loop-x-test.true in
    let old = c.loop-x.invariant in
    let value : ℕ = at places entries p x in
    let is : value ≡ at places before p x =
    ⊎_elim
    (λ (same : x ≡ p). ap (λ n. at places entries p n) same ∙ old.left p (omega (arith, same)) c.requires.place ∙ ap (λ n. at places before p n) (sym same))
    (λ (other : x ≢ p). old.others p x c.requires.place low other)
    (cases_eq x p) in
    let square : length entries ≡ places * places = old.long ∙ c.requires.long in
    let within = mul-add-lt p places x places c.requires.place low in
    let small = old.small (p * places + x) 0 (omega (arith, within, square)) in
    record {
      long = length-set entries (x * places + p) value ∙ old.long;
      small = small-set entries (x * places + p) value (2 ^ (2 * DEPTH_LIMIT + 1)) old.small small;
      column = column-more places entries x p value (λ z. at places before p z) low c.requires.place square old.column is;
      left = λ z late zl. other-row places entries x p value c.requires.place z p c.requires.place (λ e. omega (arith, e, late)) ∙ old.left z (omega (arith, late)) zl;
      others = λ z y zl yl apart. other-column places entries x p value c.requires.place z y yl apart ∙ old.others z y zl yl apart;
    }
