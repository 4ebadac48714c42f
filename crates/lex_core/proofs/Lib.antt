pub mod LexRuns
pub mod LexQuoted
pub mod LexTokens
pub mod LexPassing
pub mod LexDecimals
pub mod NumberLaws
