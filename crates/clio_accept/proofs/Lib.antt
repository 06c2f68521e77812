pub mod LineRules
pub mod Refused
pub mod Decided
pub mod Few
pub mod Closed
pub mod Accepted
pub mod Ruled
pub mod Silent
mod Examples
