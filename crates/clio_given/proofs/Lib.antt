pub mod Parsed
pub mod Fits
pub mod Runs
pub mod Decided
pub mod Fitted
mod Examples
