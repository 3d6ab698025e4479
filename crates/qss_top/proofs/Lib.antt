mod Common
pub mod Sources
pub mod Refusals
mod OutcomeFacts
mod ReadFacts
mod FileFacts
mod TopFacts
mod AnswerOutcomes
mod FrameFacts
mod FileSteps
mod SourceSteps
mod RunOutcomes
mod Comparing
mod CommandSteps
mod Calls
