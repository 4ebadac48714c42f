pub mod Changes
pub mod EntriesRead
pub mod Opening
pub mod Ordered
pub mod Refusals
pub mod Tables
