pub mod HeldNames
pub mod OpenLists
pub mod Stands
