pub mod View
pub mod Bound
pub mod Orders
pub mod Narrowing
pub mod Searching
pub mod Homs
pub mod Room
