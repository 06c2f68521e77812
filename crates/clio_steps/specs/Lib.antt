pub mod Steps
pub mod Outcomes
pub mod Laws
