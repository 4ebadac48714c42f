pub mod Entries
pub mod Faults
pub mod Rows
pub mod Searching
