pub mod Interning
pub mod Holding
pub mod Opening
pub mod Naming
pub mod Collecting
pub mod Tables
pub mod Resizing
pub mod Laws
