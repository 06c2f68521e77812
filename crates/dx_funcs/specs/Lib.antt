pub mod Judging
pub mod Laws
pub mod Names
pub mod Offers
pub mod RowTests
pub mod Serving
pub mod Shipped
