pub mod Totals
pub mod Timing
pub mod Lives
pub mod Keeps
pub mod Moves
