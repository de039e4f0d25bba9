-- `write_animal`: neither the row nor the column is written elsewhere.
use Rattle.std.proofs.Common.{◌∙◌}
use Rattle.herd_pruned.proofs.lemmas.WindowFacts.{other-row}
use Rattle.herd_pruned.proofs.window.write_animal.Goals as goal

pub returns-clause-others : goal.returns-clause-others
returns-clause-others c = λ x y xl yl x_apart y_apart.
    c.write_column.ensures.others x y xl yl y_apart
    ∙ other-row c.args.places c.write_row.new.entries c.args.place c.args.place c.args.own c.requires.place x y yl x_apart
    ∙ c.write_row.ensures.others x y xl yl x_apart
