pub mod AddedNames
pub mod FixedNames
pub mod FixedTexts
pub mod PlainFixed
pub mod SlotNames
pub mod Sweeping
