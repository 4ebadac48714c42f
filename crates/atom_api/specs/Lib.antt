pub mod Fixed
pub mod FixedNames
pub mod Interns
pub mod Names
pub mod SlotLaws
pub mod Slots
