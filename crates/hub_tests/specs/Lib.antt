pub mod NewSeats
pub mod Open
pub mod Players
pub mod Ready
pub mod Stands
