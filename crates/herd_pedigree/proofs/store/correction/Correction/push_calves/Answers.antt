-- `Correction::push_calves`: its result.
use Rattle.std.proofs.Common.{rules, sym, ap, ◌∙◌, ◌≡◌, ◌==◌, [], ◌∷◌, ◌++◌, filter, not, true, false}
use Rattle.herd_pedigree.proofs.lemmas.store.CorrectionFacts.{adds-others, adds-named}
use Rattle.herd_pedigree.proofs.store.correction.Correction.push_calves.Goals as goal

pub returns-in_ok-push : goal.returns-in_ok-push
returns-in_ok-push g c =
    let x = c.args.self.now in
    let two : c.push_others-2.new.pending.items ≡ (c.args.pending.now.items ++ filter (λ calf. not (calf == x.place)) c.calves.result) ++ filter (λ calf. not (calf == x.place)) c.calves-2.result =
    c.in_ok-push_others-2.ensures ∙ ap (λ l. l ++ filter (λ calf. not (calf == x.place)) c.calves-2.result) c.in_ok-push_others.ensures in
    let three : c.push.new.self.items ≡ c.push_others-2.new.pending.items ++ x.place ∷ [] = search rules in
    adds-named x.sires.now.parents x.dams.now.parents x.place x.sire x.dam x.sound.here x.sound.wide c.args.place c.calves.result c.calves-2.result c.calves.ensures c.calves-2.ensures c.args.pending.now.items c.push.new.self.items
    (c.is_new_parent.ensures.0 c.if-is_new_parent.true)
    (three ∙ ap (λ l. l ++ x.place ∷ []) two)

pub returns-else-is_new_parent : goal.returns-else-is_new_parent
returns-else-is_new_parent g c =
    let x = c.args.self.now in
    let two : c.push_others-2.new.pending.items ≡ (c.args.pending.now.items ++ filter (λ calf. not (calf == x.place)) c.calves.result) ++ filter (λ calf. not (calf == x.place)) c.calves-2.result =
    c.in_ok-push_others-2.ensures ∙ ap (λ l. l ++ filter (λ calf. not (calf == x.place)) c.calves-2.result) c.in_ok-push_others.ensures in
    adds-others x.sires.now.parents x.dams.now.parents x.place x.sire x.dam x.sound.here x.sound.wide c.args.place c.calves.result c.calves-2.result c.calves.ensures c.calves-2.ensures c.args.pending.now.items c.push_others-2.new.pending.items
    (λ is. let t : false ≡ true = sym c.if-is_new_parent.false ∙ c.is_new_parent.ensures.1 is in absurd (cc))
    two
