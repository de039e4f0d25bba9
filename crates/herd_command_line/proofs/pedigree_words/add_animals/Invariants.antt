-- The texts so far are read.
use Rattle.std.proofs.Common.{◌≡◌, ◌++◌, map, take}
use Rattle.herd_frozen.specs.declared.TheConstants.{MOST_ANIMALS}
use Rattle.herd_pedigree_file.specs.Number.{rank_in}
use Rattle.herd_command_line.proofs.pedigree_words.add_animals.Given as goal

abbrev pub invariant-loop-text : goal.invariant-loop-text
invariant-loop-text l =
    l.list.items ≡ l.fn.list.items ++ map (rank_in MOST_ANIMALS) (map (λ text. text.now) (take l.text-index l.texts))
