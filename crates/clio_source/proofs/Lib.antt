pub mod Roots
pub mod Ranges
pub mod Numbers
pub mod Fits
pub mod Blank
pub mod Passed
pub mod PassingRows
pub mod Runs
pub mod Decided
pub mod Whole
pub mod Unmarked
pub mod Left
mod Examples
