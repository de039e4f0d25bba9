pub mod RunFault
pub mod Run
