pub mod OneRun
mod Lists
mod Searching
mod NumberOfNames
mod Sums
mod Joined
mod Queries
mod QueryFits
mod Exists
mod Tables
mod Limits
mod Partners
mod Inserts
mod Running
mod Examples
mod FitExamples
