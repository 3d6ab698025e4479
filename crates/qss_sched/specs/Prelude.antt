-- The names of other crates that the clauses of this crate cite, passed on from one place. Declares nothing.
pub use Rattle.mu_num.specs.Limits.{wheel_places}
pub use Rattle.mu_num.specs.ListedPlaces.{is_listed}
pub use Rattle.mu_num.specs.Writes.{IsWritten}
