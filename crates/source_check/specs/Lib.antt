pub mod Listings
pub mod GoalNodes
pub mod Checkers
