-- `Calves::of_sire`: its result.
use Rattle.std.proofs.Common.{length}
use Rattle.herd_kinship.proofs.lemmas.sires.CalfFacts.{latest-link}
use Rattle.herd_kinship.proofs.lemmas.sires.CalvesBelow.{chain-below}
use Rattle.herd_kinship.proofs.calves.Calves.of_sire.Goals as goal

pub returns : goal.returns
returns g c =
    let rows = c.args.lineage.now in
    let latest = c.args.self.now.latest.items in
    let earlier = c.args.self.now.earlier.items in
    let are = c.requires.calves in
    let link = latest-link rows c.args.sire latest earlier c.index.result.now c.requires.sire are c.index.ensures in
    rw (c.as_slice.ensures.value, c.get.ensures, are.each_calf) (chain-below earlier are.older rows c.args.sire latest are (length rows) c.index.result.now link)
