-- `read_lineage`: its loop, what was read at its end, and its faults.
use Rattle.std.proofs.Common.{◌∙◌, Ok, ap, sym, arith}
use Rattle.std.proofs.lemmas.Option.{IfSome_then}
use Rattle.std.proofs.lemmas.Result.{err_from_is_err_and}
use Rattle.csv_records.specs.Upcoming.{upcoming}
use Rattle.herd_pedigree_file.proofs.lemmas.ReadingFacts.{header_read, read_all, read_fault, read_more}
use Rattle.herd_pedigree_file.specs.PedigreeFile.{lineage_in}
use Rattle.herd_pedigree_file.proofs.reading.read_lineage.Goals as goal

pub loop-builder-init : goal.loop-builder-init
loop-builder-init g c = record {
  set_up = c.in_ok-read_header.ensures.set_up;
  within = rw c.in-Ok.ensures (omega arith);
  read =
      rw c.in-Ok.ensures
      (header_read g.R.Read.remaining c.args.most (g.R.Read.remaining c.args.reader) (upcoming g.R.Read.remaining c.open_records-records.result)
      c.read_header.new.records c.open_records-records.ensures.upcoming c.in_ok-read_header.ensures.header);
}

pub returns-in_err-read_animal-clause-fault : goal.returns-in_err-read_animal-clause-fault
returns-in_err-read_animal-clause-fault g c =
    let exit = err_from_is_err_and c.from_residual-in_err-read_animal.result c.from_residual-in_err-read_animal.ensures.1 in
    rw (exit.1, exit.2)
    (IfSome_then (g.R.Read.remaining c.args.reader) c.loop-builder.invariant.read
    (λ bytes has.
    read_fault g.R.Read.remaining c.args.most (lineage_in c.args.most bytes) c.loop-builder.builder c.loop-builder.records c.in_err-read_animal.field-0.0 has
    c.in_err-read_animal.ensures.record_number c.in_err-read_animal.ensures.fault))

pub loop-builder-preserved : goal.loop-builder-preserved
loop-builder-preserved g c =
    let found = c.if-branch.true in
    record {
      set_up = c.in_ok-read_animal.ensures.set_up found;
      within = (c.in_ok-read_animal.ensures.added found).1;
      read =
          IfSome_then (g.R.Read.remaining c.args.reader) c.loop-builder.invariant.read
          (λ bytes has.
          read_more g.R.Read.remaining c.args.most (lineage_in c.args.most bytes) c.loop-builder.builder c.read_animal.new.builder c.loop-builder.records
          c.read_animal.new.records has (c.in_ok-read_animal.ensures.takes found));
    }

pub returns-clause-lineage : goal.returns-clause-lineage
returns-clause-lineage g c =
    let end = c.in_ok-read_animal.ensures.end c.if-branch.false in
    IfSome_then (g.R.Read.remaining c.args.reader) c.loop-builder.invariant.read
    (λ bytes has.
    read_all g.R.Read.remaining c.args.most (lineage_in c.args.most bytes) c.loop-builder.builder c.loop-builder.records has end.1
    ∙ ap Ok (sym (c.build.ensures ∙ end.0)))
