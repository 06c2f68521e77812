pub mod Mapping
pub mod Accepting
pub mod Laws
