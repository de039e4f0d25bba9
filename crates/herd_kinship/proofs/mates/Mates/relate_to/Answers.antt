-- `Mates::relate_to`: what `mark_mates` requires and its clause `halves`.
use Rattle.std.proofs.Common.{◌≡◌, ℕ, ◌/◌, ◌-◌, ◌<◌, ◌≤◌, inr, All, Contains, List, length, get_or, Some, arith, sym, ◌∙◌, ap, subst}
use Rattle.std.proofs.lemmas.List.Elements.{All-contains}
use Rattle.herd_lineage.specs.declared.TheConstants.{DEPTH_LIMIT, MOST_ANIMALS}
use Rattle.herd_lineage.specs.Lineage.{dam_rank}
use Rattle.herd_kinship.specs.Columns.{related, HasAll}
use Rattle.herd_kinship.specs.Pending.{mark}
use Rattle.herd_kinship.proofs.lemmas.sires.CalfFacts.{calf-within}
use Rattle.herd_kinship.proofs.lemmas.sires.CalvesBelow.{below-all, below-within}
use Rattle.herd_kinship.proofs.lemmas.sires.ColumnFacts.{coefficient-related}
use Rattle.herd_kinship.proofs.lemmas.lineages.LineageFacts.{lineage-ranked}
use Rattle.herd_kinship.proofs.lemmas.sires.PassedOn.{has-all}
use Rattle.herd_kinship.proofs.lemmas.Lists.{take-written}
use Rattle.herd_kinship.proofs.mates.Mates.relate_to.Goals as goal

pub mark_mates-requires-clause-calves : goal.mark_mates-requires-clause-calves
mark_mates-requires-clause-calves g c =
    let rows = c.args.lineage.now in
    subst (λ xs. All (λ calf. calf < length rows) xs) (sym c.requires.calves) (below-within rows c.args.sire (length rows))

pub returns-clause-halves : goal.returns-clause-halves
returns-clause-halves g c =
    let rows = c.args.lineage.now in
    let lineage = c.len-last.ensures.lineage in
    let column : List ℕ = c.relate.new.column in
    let f : ℕ → ℕ = λ j. related DEPTH_LIMIT rows c.args.sire (Some j) in
    let IsMated : ℕ → Type 0 = λ x. (d : ℕ) → dam_rank rows x ≡ Some d → mark c.mark_mates.new.marked.chunks.items (c.len-last.result - 1 - d) ≡ 1 in
    λ calf is.
    let dam = is.1 in
    let within : calf < length rows = calf-within rows c.args.sire calf is in
    let lower : dam < calf = (lineage-ranked DEPTH_LIMIT MOST_ANIMALS rows lineage).below calf dam within (inr is.2) in
    let count = c.len-last.ensures.value in
    let near : dam ≤ c.len-last.result - 1 = omega arith in
    let mine : Contains c.args.calves calf = subst (λ xs. Contains xs calf) (sym c.requires.calves) (below-all rows c.args.sire (length rows) calf within is) in
    let there : Contains c.collect.new.collected.items dam =
    c.collect.ensures.all dam near (All-contains IsMated c.args.calves calf c.mark_mates.ensures.mates mine dam is.2) in
    let all : HasAll column c.collect.new.collected.items f = subst (λ xs. HasAll column xs f) c.deref.ensures.value c.relate.ensures.related in
    let len : ℕ = c.args.self.now.column.len in
    let items = c.args.self.now.column.items in
    let zero : List ℕ = c.collect.new.column in
    let ok = c.args.self.now.column.ok in
    let value = ap length c.deref_mut.ensures.value in
    let long : length zero ≡ length c.deref_mut.result.now = c.collect.ensures.long in
    let written = take-written len zero items (omega arith) in
    let value-2 = ap length (c.deref_mut-2.ensures.value ∙ written) in
    let each : length column ≡ length c.deref_mut-2.result.now = c.relate.ensures.long in
    rw is.2
    (ap (λ xs. get_or xs dam 0 / 2) (take-written len column _ (omega arith))
    ∙ ap (λ v. v / 2) (has-all column c.collect.new.collected.items f dam all there)
    ∙ coefficient-related DEPTH_LIMIT MOST_ANIMALS rows lineage c.args.sire c.requires.sire dam calf within is.0 is.2)
