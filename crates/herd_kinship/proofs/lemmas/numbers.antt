-- Numbers, fractions and sets of bits.
pub mod Sums
pub mod Ints
pub mod FractionFacts
pub mod PendingFacts
