-- `Rows::number_at`: its result.
use Rattle.std.proofs.Common.{rules, refl, sym, ap, ◌∙◌, subst, ◌≡◌, ◌<◌, ◌≤◌, List, ℕ, Option, Some, None, length, slice_get}
use Rattle.std.specs.Option.{option_map}
use Rattle.std.proofs.lemmas.Bool.{ltb-false, ltb-true}
use Rattle.std.proofs.lemmas.Option.{slice_get-map, slice_get_past, slice_get_read}
use Rattle.herd_frozen.specs.declared.freezing.frozen.Row.{Row}
use Rattle.herd_frozen.specs.declared.freezing.rows.RowRecord.{RowRecord}
use Rattle.herd_frozen.specs.freezing.Frozen.{numbers_of}
use Rattle.herd_frozen.specs.places.Places.{number_at}
use Rattle.herd_frozen.specs.freezing.Rows.{rows_kept}
use Rattle.herd_frozen.proofs.lemmas.freezing.RowsFacts.{number-told, numbers-rows}
use Rattle.herd_frozen.proofs.freezing.rows.Rows.number_at.Goals as goal

pub returns-in_err-kept : goal.returns-in_err-kept
returns-in_err-kept g c =
    let rs = c.self.inside.records.items in
    let ps = c.self.inside.lineage in
    let rank : ℕ = c.in_ok-rank.field-0 in
    let records : List RowRecord = c.deref.result.now in
    let past : length records ≤ rank = ltb-false rank (length records) (sym c.in_err-kept.ensures.lookup.0) in
    let past_rows : length rs ≤ rank = subst (λ (l : List RowRecord). length l ≤ rank) c.deref.ensures.value past in
    let absent : slice_get (numbers_of (rows_kept rs ps)) rank ≡ None =
    ap (λ ns. slice_get ns rank) (numbers-rows rs ps c.self.invariant) ∙ slice_get-map (λ k. k.number) rs rank ∙ ap (λ (o : Option RowRecord). option_map (λ k. k.number) o) (slice_get_past rs rank past_rows) in
    let none : c.from_residual-in_err-kept.result ≡ None = search rules in
    let told : None ≡ number_at (numbers_of (rows_kept rs ps)) c.args.rank = rw c.in_ok-rank.was (sym absent) in
    none ∙ subst (λ (rows : List Row). None ≡ number_at (numbers_of rows) c.args.rank) c.self.view_is told

pub returns : goal.returns
returns g c =
    let rs = c.self.inside.records.items in
    let ps = c.self.inside.lineage in
    let rank : ℕ = c.in_ok-rank.field-0 in
    let kept : RowRecord = c.in_ok-kept.kept.now in
    let records : List RowRecord = c.deref.result.now in
    let within : rank < length records = ltb-true rank (length records) (sym c.in_ok-kept.ensures.lookup.0) in
    let at : slice_get rs rank ≡ Some kept = subst (λ (l : List RowRecord). slice_get l rank ≡ Some kept) c.deref.ensures.value (slice_get_read records (length records) rank kept refl within c.in_ok-kept.ensures.lookup.1) in
    let told : Some kept.number ≡ number_at (numbers_of (rows_kept rs ps)) c.args.rank = rw c.in_ok-rank.was (sym (number-told rs ps c.self.invariant rank kept at)) in
    subst (λ (rows : List Row). Some kept.number ≡ number_at (numbers_of rows) c.args.rank) c.self.view_is told
