pub mod Frozen
pub mod Pruning
pub mod Laws
pub mod Near
pub mod Refuting
pub mod Asking
pub mod Testing
pub mod Bounds
