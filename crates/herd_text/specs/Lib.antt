pub mod Text
pub mod CoefficientText
