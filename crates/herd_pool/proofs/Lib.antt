-- the ranks of a level, and what is known of them
pub mod LevelFacts
-- the rule of the queue, and the list that the blocks are written into
pub mod Passes
pub mod Writes
-- the calves of a level's sires
pub mod SireFacts
pub mod CalfSums
pub mod WorthFacts
