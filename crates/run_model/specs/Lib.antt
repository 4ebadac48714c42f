pub mod Execution
pub mod AtomRecords
pub mod Lawful
pub mod Report
pub mod Progress
pub mod Ends
pub mod WholeRuns
