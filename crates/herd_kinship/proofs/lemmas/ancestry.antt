-- Entries, shares and depths in any lawful ancestry.
pub mod LawfulAncestry
pub mod Table
pub mod Depth
pub mod Shares
pub mod Bounds
pub mod Exact
pub mod Ancestors
pub mod Renamed
