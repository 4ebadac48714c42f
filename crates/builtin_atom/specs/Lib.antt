pub mod Answering
pub mod Forms
pub mod Listed
pub mod Making
pub mod Spelled
