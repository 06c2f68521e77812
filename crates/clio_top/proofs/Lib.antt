pub mod Asked
pub mod Asking
pub mod ClashExample
pub mod Clashes
pub mod Completing
pub mod Demos
pub mod Endings
pub mod Examples
pub mod Headline
pub mod KeyedExample
pub mod KeyedRules
pub mod Leaving
mod NameExamples
pub mod Names
pub mod OneRule
pub mod OwnNames
pub mod Plans
pub mod Promised
pub mod Ranges
pub mod Reasons
pub mod RunDecided
pub mod TwoEmps
pub mod Writing
mod WordExamples
pub mod WrittenExample
