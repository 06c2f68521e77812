pub mod Turned
pub mod Turning
pub mod Asking
pub mod Faults
pub mod Laws
pub mod Open
pub mod Parts
pub mod Verdicts
