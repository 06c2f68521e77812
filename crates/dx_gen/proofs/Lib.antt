pub mod Pushed
pub mod Examples
