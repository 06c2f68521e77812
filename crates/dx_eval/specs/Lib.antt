pub mod Evaluating
pub mod Laws
pub mod Variables
pub mod Query
pub mod Finding
pub mod Keeping
pub mod Inserting
