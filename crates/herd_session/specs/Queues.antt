-- What a queue does with a task that it doesn't take.
use Rattle.std.specs.Prelude.{◌≡◌, ⊤}
use Rattle.herd_session.specs.declared.queue.Unsent.{Unsent}
use Rattle.herd_session.specs.declared.queue.Unsent.TheVariants.{Left, Memory}

-- where memory is refused the task is given back
abbrev pub GivesBack : {T : Type 0} → T → Unsent T → Type 0
GivesBack task Left = ⊤
GivesBack task (Memory back) = back ≡ task
