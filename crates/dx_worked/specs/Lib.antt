pub mod Reading
pub mod Judged
pub mod Answered
pub mod Exchanged
