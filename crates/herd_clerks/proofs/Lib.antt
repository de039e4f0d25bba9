mod ClerksFacts
mod DealFacts
mod Lists
mod SummaryFacts
