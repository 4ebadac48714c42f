pub mod Homes
pub mod Ledger
pub mod Newcomers
pub mod Programs
pub mod Runs
pub mod Terms
pub mod Written
pub mod Answering
