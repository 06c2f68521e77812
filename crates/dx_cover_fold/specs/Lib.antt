pub mod Matched
pub mod Codes
pub mod Found
pub mod Folding
pub mod Laws
