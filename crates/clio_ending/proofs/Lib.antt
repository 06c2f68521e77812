pub mod Alike
mod Examples
