pub mod Asked
pub mod Counting
pub mod Found
pub mod Gained
pub mod Placed
pub mod Planned
pub mod Texts
pub mod Variables
