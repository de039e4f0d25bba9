-- Numbers by place.
pub mod NumberFacts
