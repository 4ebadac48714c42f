pub mod Answering
pub mod Giving
pub mod Balls
pub mod Numbers
pub mod Steps
pub mod Listing
mod Numbered
mod Choosing
mod Finding
mod Telling
