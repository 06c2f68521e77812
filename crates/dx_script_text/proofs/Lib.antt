pub mod Pushes
pub mod Printing
pub mod PrintExamples
pub mod Apart
pub mod Follows
pub mod Found
pub mod Again
pub mod Telling
pub mod Answered
pub mod Fronts
pub mod PrintScans
pub mod PrintReads
mod ReadExamples
