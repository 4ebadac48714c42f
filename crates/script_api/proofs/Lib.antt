pub mod ComesLaws
pub mod SearchRuns
pub mod LaterLaws
pub mod OnceLaws
pub mod EitherLaws
pub mod StartLaws
