pub mod Members
pub mod Entries
pub mod Firsts
pub mod Texts
