-- `Frozen::rank`: its clause `absent`.
use Rattle.std.proofs.Common.{◌≡◌, IfNone, List, false, subst}
use Rattle.herd_frozen.specs.declared.freezing.frozen.Row.{Row}
use Rattle.herd_frozen.specs.rules.Book.{is_there}
use Rattle.herd_frozen.specs.freezing.Frozen.{book_of}
use Rattle.herd_frozen.proofs.lemmas.freezing.FrozenFacts.{not_found}
use Rattle.herd_frozen.proofs.freezing.frozen.Frozen.rank.Goals as goal

pub returns-clause-absent : goal.returns-clause-absent
returns-clause-absent g c =
    subst (λ (rows : List Row). IfNone c.rank.result (is_there (book_of rows) c.args.number.now ≡ false)) c.self.view_is
    (not_found c.self.inside.rows c.args.number.now c.rank.result c.rank.ensures.absent)
