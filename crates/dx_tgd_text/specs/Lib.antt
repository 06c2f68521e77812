pub mod Numbering
pub mod Reading
pub mod Laws
