pub mod Fronts
pub mod Steps
pub mod Laws
pub mod Codes
pub mod Seats
