pub mod Names
pub mod Meaning
pub mod Fits
pub mod Generated
pub mod Rewritten
pub mod Laws
