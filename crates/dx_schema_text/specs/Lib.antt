pub mod Grammar
pub mod Reading
pub mod Spelling
pub mod Texts
pub mod Print
pub mod Laws
