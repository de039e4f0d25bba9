mod BookFacts
mod TaskFacts
