mod DigitFacts
mod NumberFacts
