pub mod Lists
pub mod Keeping
pub mod Premises
pub mod Tables
pub mod Whole
pub mod Selecting
pub mod Parts
