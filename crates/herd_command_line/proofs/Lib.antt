mod CommandFacts
mod PedigreeFacts
mod WordsFacts
