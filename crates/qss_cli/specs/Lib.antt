pub mod Prelude
pub mod CommandLine
pub mod NumberWords
pub mod Verbs
pub mod Commands
pub mod RelativeQuanta
pub mod Requests
pub mod CommandLineLaws
