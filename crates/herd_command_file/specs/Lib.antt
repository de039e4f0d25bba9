pub mod Field
pub mod LineCause
pub mod Grammar
pub mod Columns
pub mod CommandFile
pub mod CommandReader
pub mod Filing
