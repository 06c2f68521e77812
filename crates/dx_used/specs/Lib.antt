pub mod Used
pub mod Named
pub mod Passing
pub mod Counting
pub mod Laws
