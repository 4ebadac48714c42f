pub mod LookupLaws
pub mod EndLaws
pub mod HowLaws
pub mod NameLaws
pub mod SectionLaws
pub mod ThreadLaws
pub mod ReportLaws
