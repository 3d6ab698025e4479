-- The names of this crate that clauses of many subjects cite, passed on from one place. Declares nothing.
pub use Rattle.mu_causal.specs.Causality.{IsCycle}
pub use Rattle.mu_causal.specs.Dependencies.{names_of, names_of_factors, names_of_terms}
pub use Rattle.mu_causal.specs.Flat.{AddsEquation, IsGraphOf, is_known, row_at}
pub use Rattle.mu_causal.specs.Graphs.{Graph, HasEdge, IsClosed}
pub use Rattle.mu_causal.specs.OrderResults.{IsCausality}
pub use Rattle.mu_causal.specs.Rounds.{IsTurned}
pub use Rattle.mu_causal.specs.VisitMarks.{AreFirstReaders, ArePassed, IsBlocked, IsListing, IsMarked, IsUnblocked, IsUnmarked, Needs}
