pub mod Prelude
pub mod IntegratorLines
pub mod LevelRules
