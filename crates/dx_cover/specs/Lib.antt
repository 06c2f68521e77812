pub mod Covering
pub mod Pairs
pub mod Partners
pub mod Search
pub mod States
pub mod Variables
