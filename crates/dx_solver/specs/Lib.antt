pub mod Marks
pub mod Questions
pub mod Domains
pub mod Terms
pub mod Finding
