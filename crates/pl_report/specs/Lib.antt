pub mod Adds
pub mod Bindings
pub mod Sections
pub mod Pieces
pub mod Reported
pub mod WrittenNodes
