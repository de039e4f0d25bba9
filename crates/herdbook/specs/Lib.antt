pub mod Clerks
pub mod Ending
pub mod FaultText
pub mod Pedigrees
pub mod Program
pub mod Serving
pub mod Sessions
pub mod Telling
