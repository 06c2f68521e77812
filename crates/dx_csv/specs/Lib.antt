pub mod Left
pub mod Plain
pub mod Table
pub mod Print
pub mod Laws
pub mod Lines
pub mod Fields
pub mod Blanks
