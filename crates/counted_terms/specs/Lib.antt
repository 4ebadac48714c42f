pub mod Keeping
pub mod CountedTerms
pub mod Agreements
pub mod Rows
pub mod TermNames
pub mod Sharing
