pub mod Forests
pub mod Alike
pub mod Begun
pub mod Answered
pub mod Exists
