pub mod Numbers
pub mod Answers
pub mod Laws
pub mod Ends
