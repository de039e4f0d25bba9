-- What is printed, as text.
pub mod RefusedText
pub mod Replies
pub mod CoefficientLine
pub mod InbreedingList
pub mod RecordList
pub mod Registered
pub mod Ancestors
pub mod Certificate
pub mod MatingList
pub mod InverseList
pub mod RelationshipList
