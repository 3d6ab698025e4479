mod Common
mod Lines
pub mod Scopes
mod Ends
pub mod BoundsHold
mod CertificateEnds
pub mod TraceEnds
mod ProposalEnds
pub mod ComparisonEnds
