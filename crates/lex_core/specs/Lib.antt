pub mod NumberTexts
pub mod Views
pub mod Skips
