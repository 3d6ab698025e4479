-- The names of this crate that clauses of many subjects cite, passed on from one place. Declares nothing.
pub use Rattle.qss_components.specs.ComponentModels.{crossing_of}
pub use Rattle.qss_components.specs.Crossings.{AreSmallAt, IsCrossingNext, crossing_after_message, crossing_after_transition}
pub use Rattle.qss_components.specs.declared.atomic.Message.TheVariants.{Truth}
