pub mod UpcomingFacts
