pub mod SharedRows
pub mod Searches
pub mod SearchRows
pub mod HistoryRows
pub mod RefusalRows
