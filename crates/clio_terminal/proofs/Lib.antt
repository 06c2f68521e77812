pub mod Pushes
pub mod Harmless
pub mod Examples
