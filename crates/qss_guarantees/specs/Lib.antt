pub mod Prelude
-- the theorems about the answers for the bytes that a command reads
pub mod Guarantees
pub mod Theorems
pub mod AnswerLaws
pub mod CertificateLaws
pub mod ProposalLaws
pub mod TraceLaws
-- the theorems about runs of the program
pub mod CallProperties
pub mod RunAndCertificate
-- the theorems about the results for known files
pub mod ExpectedResults
pub mod Replies
