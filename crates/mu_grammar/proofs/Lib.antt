mod Common
mod CompleteBodies
mod CompleteDeclarations
mod CompleteLists
mod CompleteLoops
mod CompleteModels
mod ConditionsComplete
mod ConditionsEnds
mod ConditionsSound
mod Examples
pub mod Follows
pub mod Fronts
pub mod Judged
pub mod Levels
pub mod ModelDecides
mod ModelEnds
mod ModelReaders
mod Names
pub mod ReadBackBodies
pub mod ReadBackDeclarations
mod ReadBackHeads
pub mod ReadBackModels
pub mod ReadBackSums
mod ReadBackTexts
pub mod Reading
mod SoundBodies
mod SoundDeclarations
mod SoundLists
mod SoundModels
mod SoundStates
mod SumsComplete
mod SumsEnds
mod SumsSound
pub mod SourceTokens
