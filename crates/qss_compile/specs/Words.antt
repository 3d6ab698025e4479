-- The names of this crate that clauses of many subjects cite, passed on from one place. Declares nothing.
pub use Rattle.qss_compile.specs.Causes.{without_names}
pub use Rattle.qss_compile.specs.Fields.{field_text}
