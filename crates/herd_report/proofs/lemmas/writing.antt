-- How a text is made and written, piece by piece.
pub mod ReplyLines
pub mod CoefficientFacts
pub mod AncestorFacts
pub mod CertificateFacts
pub mod RecordFacts
pub mod MatingFacts
pub mod ContributionFacts
pub mod RelationshipFacts
