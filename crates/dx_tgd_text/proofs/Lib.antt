pub mod Appearing
pub mod Sets
pub mod Found
pub mod Derivings
pub mod Fits
pub mod RuleSteps
pub mod Written
pub mod Examples
