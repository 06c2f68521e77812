pub mod Columns
pub mod BoundFacts
pub mod OrderFacts
pub mod Narrowing
pub mod Reading
pub mod Steps
pub mod Turns
pub mod Placing
pub mod Marks
mod Examples
