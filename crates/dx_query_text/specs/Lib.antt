pub mod Grammar
pub mod Spelling
pub mod Reading
pub mod Texts
pub mod Naming
pub mod Queries
pub mod Laws
