pub mod Laws
pub mod Tried
