pub mod Sorting
pub mod Numbers
pub mod Tables
pub mod RuleRows
pub mod CanonicalFacts
pub mod Gaining
pub mod Lending
pub mod Saying
mod Cells
pub mod Plans
pub mod Built
pub mod Steps
pub mod Ascending
pub mod Copied
pub mod Founds
