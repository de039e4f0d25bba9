-- The header of a pedigree file, by the record that was read first.
use Rattle.std.proofs.Common.{◌≡◌, ◌∙◌, true, false, List, [], ◌∷◌, Option, Some, None, sym, ap}
use Rattle.std.proofs.lemmas.Bool.{false≢true}
use Rattle.csv_records.specs.Fields.{Fields as Texts}
use Rattle.csv_records.specs.Upcoming.{TakesRecord}
use Rattle.herd_pedigree_file.specs.Grammar.{is_header}
use Rattle.herd_pedigree_file.specs.PedigreeFile.{LacksHeader, TakesHeader}

module _ (new : Option (List Texts)) (texts : Texts) where
  -- it is the header
  pub takes : (old : Option (List Texts)) → TakesRecord old new texts true → is_header texts ≡ true → TakesHeader old new
  takes None read is = tt
  takes (Some []) read is = absurd (false≢true (sym read))
  takes (Some (first ∷ rest)) read is = (ap is_header (sym read.1) ∙ is, read.2)

  -- there is none
  pub ended : (old : Option (List Texts)) → TakesRecord old new texts false → LacksHeader old
  ended None read = tt
  ended (Some []) read = tt
  ended (Some (first ∷ rest)) read = absurd (false≢true read.0)

  -- it is another
  pub lacks : (old : Option (List Texts)) → TakesRecord old new texts true → is_header texts ≡ false → LacksHeader old
  lacks None read is = tt
  lacks (Some []) read is = tt
  lacks (Some (first ∷ rest)) read is = ap is_header (sym read.1) ∙ is
