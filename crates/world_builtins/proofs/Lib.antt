mod Spelled
mod Replies
mod Single
mod Sums
mod Stilled
pub mod Kept
pub mod Followed
pub mod MetLaws
pub mod TakenLaws
