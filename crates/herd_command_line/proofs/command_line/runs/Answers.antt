-- Each subcommand is added with its line.
use Rattle.clap.specs.Words.{App}
use Rattle.herd_command_line.specs.CommandLine.{certificate_line, file_line, inbreeding_line, inverse_line, line_with, mating_line, program, records_line, relationships_line, runs_line, seal_line, sealed_line}
use Rattle.herd_command_line.proofs.command_line.runs.Goals as goal

abbrev of_replies : App
of_replies = line_with program file_line

abbrev of_lists : App
of_lists = line_with of_replies inbreeding_line

abbrev of_certificates : App
of_certificates = line_with of_lists certificate_line

abbrev of_advice : App
of_advice = line_with of_certificates mating_line

abbrev of_inverses : App
of_inverses = line_with of_advice inverse_line

abbrev of_pairs : App
of_pairs = line_with of_inverses relationships_line

abbrev of_records : App
of_records = line_with of_pairs records_line

abbrev of_seals : App
of_seals = line_with of_records seal_line

pub returns : goal.returns
unfolding runs_line
returns c =
    let replies = c.with_subcommand-replies.ensures program file_line c.bare_program.ensures c.file.ensures in
    let lists = c.with_subcommand-lists.ensures of_replies inbreeding_line replies c.inbreeding.ensures in
    let certificates = c.with_subcommand-certificates.ensures of_lists certificate_line lists c.certificate.ensures in
    let advice = c.with_subcommand-advice.ensures of_certificates mating_line certificates c.mating.ensures in
    let inverses = c.with_subcommand-inverses.ensures of_advice inverse_line advice c.inverse.ensures in
    let pairs = c.with_subcommand-pairs.ensures of_inverses relationships_line inverses c.relationships.ensures in
    let kept = c.with_subcommand-kept.ensures of_pairs records_line pairs c.records.ensures in
    let seals = c.with_subcommand-seals.ensures of_records seal_line kept c.seal.ensures in
    c.with_subcommand.ensures of_seals sealed_line seals c.sealed.ensures
