-- `ranks_of`: the names so far tell animals that are there, and these are their ranks.
use Rattle.std.proofs.Common.{◌≡◌, ◌<◌, All, take, true}
use Rattle.herd_pedigree_report.specs.Named.{all_there, ranks_of}
use Rattle.herd_pedigree_report.proofs.named.ranks_of.Given as goal

abbrev pub invariant-loop-animal : goal.invariant-loop-animal
invariant-loop-animal g l = record {
  ranks : l.ranks.items ≡ ranks_of (take l.animal-index l.named);
  there : all_there l.animals (take l.animal-index l.named) ≡ true;
  within : All (λ rank. rank < l.animals) l.ranks.items;
}
