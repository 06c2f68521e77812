pub mod Print
pub mod Printable
pub mod Grammar
pub mod Reading
pub mod Spelling
pub mod Texts
pub mod Laws
