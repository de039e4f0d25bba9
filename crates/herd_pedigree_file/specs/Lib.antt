pub mod PedigreeCause
pub mod Number
pub mod Grammar
pub mod PedigreeFile
