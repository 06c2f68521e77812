mod Escapes
pub mod Printing
mod OneLine
mod Examples
