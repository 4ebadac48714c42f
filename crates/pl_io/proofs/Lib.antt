pub mod Counts
pub mod FileStates
pub mod Fronts
pub mod Named
