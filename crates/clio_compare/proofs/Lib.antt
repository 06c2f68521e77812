pub mod Pairs
pub mod ComparedIn
pub mod Refusals
pub mod Usage
mod Examples
