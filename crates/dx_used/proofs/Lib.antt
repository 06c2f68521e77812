pub mod UsedLaws
pub mod MarkFacts
pub mod NamedFacts
pub mod PassingLaws
pub mod Blanking
mod Examples
