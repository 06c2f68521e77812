pub mod Plain
pub mod Cells
pub mod Near
pub mod Pruned
pub mod Premises
pub mod Answered
mod Asked
mod Bounds
pub mod Examples
pub mod Shown
