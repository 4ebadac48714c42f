-- Words that the laws speak in, and no definition does.
pub mod LexicalLaws
pub mod Dispatch
pub mod FirstArgumentLaws
pub mod UnifySides
pub mod UnifyTurns
pub mod Subterms
pub mod Shown
