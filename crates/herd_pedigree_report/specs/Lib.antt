pub mod Notation
pub mod InbreedingList
pub mod InverseList
pub mod RelationshipList
pub mod Named
pub mod PedigreeReport
