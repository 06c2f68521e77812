pub mod Parts
pub mod Selecting
pub mod Steps
pub mod Premises
