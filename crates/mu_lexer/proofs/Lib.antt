mod Common
mod Numbers
pub mod Places
pub mod Progress
mod Runs
mod Scans
pub mod SpacedTexts
mod Spellings
pub mod TokenKinds
