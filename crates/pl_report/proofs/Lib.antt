pub mod AddsLemmas
pub mod Endings
pub mod LineLemmas
pub mod BindingLemmas
pub mod SectionLemmas
pub mod ReportLaws
pub mod WrittenLaws
