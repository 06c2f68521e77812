pub mod Source
pub mod Agreeing
pub mod Kept
pub mod Fitting
pub mod Laws
