mod Answered
mod Examples
mod Few
pub mod Fitting
mod Follows
pub mod Over
mod Placed
mod Spelled
mod Steps
mod Telling
