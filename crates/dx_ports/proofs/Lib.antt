pub mod Held
pub mod Logs
pub mod Prefixes
