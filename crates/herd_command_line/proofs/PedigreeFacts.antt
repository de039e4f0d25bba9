-- What the getters of `clap` tell of the words behind `pedigree`.
use Rattle.std.proofs.Common.{List, Result, Err, Ok}
use Rattle.std.specs.Prelude.{IfErr, IsErrAnd}
use Rattle.clap.specs.Words.{Row}
use Rattle.herd_command_line.specs.PedigreeWords.{IsPedigreeUnread}
use Rattle.herd_command_line.specs.Words.{IsUnread}
use Rattle.herd_command_line.specs.declared.arguments.WordsFault.{WordsFault}
use Rattle.herd_command_line.specs.declared.arguments.WordsFault.TheVariants.{Words, Number, Misplaced, NoSeal}

unread-memory : (rows : List Row) (fault : WordsFault) → IsUnread (λ _. ⊥) fault → IsPedigreeUnread rows fault
unread-memory rows (Words error) unread = unread
unread-memory rows (Number cause) unread = absurd unread
unread-memory rows Misplaced unread = absurd unread
unread-memory rows NoSeal unread = absurd unread

-- memory that ran out is told
pub unread : {T : Type 0} (rows : List Row) (result : Result T WordsFault) → IsErrAnd result (IsUnread (λ _. ⊥)) → IfErr result (IsPedigreeUnread rows)
unread rows (Ok value) told = tt
unread rows (Err fault) told = unread-memory rows fault told
