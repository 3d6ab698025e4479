pub mod Bare
pub mod Canonical
pub mod Expression
pub mod ModelTree
pub mod FlatExpression
pub mod FlatModels
pub mod Nests
