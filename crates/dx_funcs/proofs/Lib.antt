pub mod Apart
pub mod Asked
pub mod Examples
pub mod Offered
pub mod Judged
pub mod Named
pub mod Trims
pub mod Digits
