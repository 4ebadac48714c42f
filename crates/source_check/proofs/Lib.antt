pub mod WordTexts
pub mod NameTexts
pub mod Directives
pub mod Refusing
pub mod Lines
