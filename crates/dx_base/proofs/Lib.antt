pub mod Asked
pub mod Members
pub mod Loops
pub mod Ranges
pub mod Tests
pub mod Firsts
mod Buffers
mod LimitExamples
pub mod Lists
pub mod Options
