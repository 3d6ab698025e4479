-- The names of this crate that clauses of many subjects cite, passed on from one place. Declares nothing.
pub use Rattle.cert_check.specs.Bounds.{BoundsAreGuaranteed, CoversOwnRuns}
pub use Rattle.cert_check.specs.CertificateData.{certificate_data, system}
pub use Rattle.cert_check.specs.CertificateLimits.{IsSize, IsVector}
pub use Rattle.cert_check.specs.CertificateLines.{line_count}
pub use Rattle.cert_check.specs.CertificateTexts.{IsCutInto, IsRefusedFor, IsTextOf}
pub use Rattle.cert_check.specs.FieldNumbers.{magnitude_in, number_in}
pub use Rattle.cert_check.specs.FirstFailures.{fails_by, judgement}
pub use Rattle.cert_check.specs.Inequalities.{Holds}
pub use Rattle.cert_check.specs.InequalityTable.{AreSumsInRange, IsFaultOf, IsFirstFaultOf, IsWellFormed, fault_of, inequalities, number_of, places_of, relation_of, start_of}
pub use Rattle.cert_check.specs.Layout.{expected, first_fault, first_number, form_in, is_no_number, keyword_of, layout, record_fault, text_fault}
pub use Rattle.cert_check.specs.MatrixRows.{AreReadAs, FirstTakesMemory, IsReadAs, TakesMemory, due_at}
pub use Rattle.cert_check.specs.Ranges.{IsProductInRange}
pub use Rattle.cert_check.specs.Scope.{IsInScope}
pub use Rattle.cert_check.specs.Systems.{system_of}
pub use Rattle.cert_check.specs.declared.certificate.Certificate.{Certificate}
