pub mod LeftFacts
pub mod TableFacts
pub mod OneReading
pub mod TableTextFacts
pub mod Decided
pub mod LinesFacts
pub mod FieldFacts
pub mod InternFacts
mod ColumnFacts
pub mod BlankFacts
pub mod TextsDiffer
pub mod PlainFacts
pub mod OneField
pub mod TextFacts
mod Refusals
mod Examples
