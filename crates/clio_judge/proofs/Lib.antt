pub mod Asking
pub mod JudgedIn
pub mod Refusals
pub mod SameVerdict
pub mod Usage
pub mod VerdictRuns
