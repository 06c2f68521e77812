pub mod Numbers
pub mod Kinds
pub mod Pieces
pub mod Scan
pub mod Quoted
pub mod Lexing
