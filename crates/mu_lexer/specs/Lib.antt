pub mod Words
pub mod Automaton
pub mod Tokens
pub mod Spaced
pub mod Spelling
