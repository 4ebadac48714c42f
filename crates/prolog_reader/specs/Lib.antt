pub mod Ahead
pub mod Names
pub mod Pieces
pub mod Operations
pub mod Stack
pub mod Items
pub mod ByHash
