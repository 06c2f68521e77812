pub mod Queried
pub mod AnswerRuns
mod AnswerFiles
pub mod AnsweredIn
pub mod Posed
pub mod Refusals
pub mod Usage
