pub mod Demanding
pub mod Reached
pub mod Followed
pub mod Readings
pub mod Bridge
pub mod Mapped
pub mod OfRows
pub mod Whole
pub mod Received
pub mod EndsFound
pub mod EndsReached
pub mod EndsAnswered
pub mod InOrder
pub mod NumberTables
pub mod RootMaps
pub mod Answering
mod Unforced
mod Examples
