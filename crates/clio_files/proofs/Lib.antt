pub mod Counts
pub mod SheetNulls
pub mod MarkFacts
pub mod SheetLists
pub mod AnswerLists
pub mod TextFiles
pub mod RootFiles
pub mod Existing
pub mod OneList
pub mod OwnNames
pub mod Compared
mod Examples
