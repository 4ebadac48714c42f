pub mod Cells
pub mod NodeLists
pub mod Nodes
pub mod Order
pub mod Texts
pub mod Tree
pub mod Variables
pub mod Variant
