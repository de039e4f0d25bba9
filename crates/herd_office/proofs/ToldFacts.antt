-- What readers take, by the history that was told.
use Rattle.std.proofs.Common.{◌≡◌, ◌∙◌, List, length, ap, ap₂, sym, arith}
use Rattle.std.proofs.lemmas.List.{take_all}
use Rattle.herd_register.specs.declared.step.Step.{Step}
use Rattle.herd_register.specs.Limits.{Limits}
use Rattle.herd_register.specs.Run.{commands_of, run_book}
use Rattle.herd_office.specs.Copies.{IsTold}
use Rattle.herd_office.specs.declared.shown.Shown.{Shown}

-- where the history has as many steps as were taken over, the records are those of its commands
pub told-book : (shown : Shown) → IsTold shown → length shown.past.seen.log ≡ shown.copybook.steps → shown.copybook.book ≡ run_book shown.past.limits (commands_of shown.past.seen.log)
told-book shown told long =
    let whole : shown.past.seen.log ≡ told.journal =
    told.begins ∙ take_all (length shown.past.seen.log) told.journal (omega (arith, long, ap (λ c. c.steps) told.copied)) in
    ap (λ c. c.book) told.copied
    ∙ ap₂ (λ (limits : Limits) (log : List Step). run_book limits (commands_of log)) (sym told.limits) (sym whole)
