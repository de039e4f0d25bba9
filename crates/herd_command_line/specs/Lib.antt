pub mod CommandLine
pub mod PedigreeWords
pub mod Subcommand
pub mod Texts
pub mod Words
