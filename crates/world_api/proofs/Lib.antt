pub mod AskedLaws
pub mod SearchStepLaws
pub mod Gaining
pub mod KeyTextLaws
pub mod AskedNames
pub mod NamedTerms
pub mod HeldNodes
