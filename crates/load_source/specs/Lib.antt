pub mod LoadSource
