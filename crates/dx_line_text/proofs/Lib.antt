pub mod Faults
pub mod Found
pub mod Calls
pub mod Fits
pub mod RowTests
pub mod NamesAlone
pub mod Examples
