pub mod Shadowing
pub mod Finding
pub mod Breaking
pub mod Placing
