pub mod Order
pub mod Puts
pub mod Choosing
pub mod WaysAre
pub mod Unlike
pub mod Adding
pub mod Tries
