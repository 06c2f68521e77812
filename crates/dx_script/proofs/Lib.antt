pub mod NameFacts
pub mod RuleFacts
pub mod Spots
pub mod Parts
pub mod MatchTables
pub mod Steps
pub mod Fitted
pub mod BothFit
pub mod Uncovered
pub mod Unique
pub mod Made
pub mod Widths
pub mod FitsTest
mod Examples
