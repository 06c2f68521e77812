pub mod Ending
pub mod Message
