pub mod Answers
pub mod Naming
pub mod Conditions
pub mod Laws
