pub mod DecayInstance
