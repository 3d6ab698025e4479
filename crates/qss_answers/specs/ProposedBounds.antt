-- The bounds of a proposed certificate.
use Rattle.std.specs.Prelude.{◌≡◌, ℕ, List}
use Rattle.qss_machine.specs.declared.compiled_machine.Machine.{Machine}
use Rattle.qss_machine.specs.Machines.{start_states}
use Rattle.cert_check.specs.Bounds.{BoundsAreGuaranteed, CoversOwnRuns}
use Rattle.cert_check.specs.declared.certificate.Certificate.{Certificate}
use Rattle.cert_check.specs.CertificateTexts.{IsTextOf}
use Rattle.cert_solution.specs.SolutionBounds.{HasSolutionBounds}
use Rattle.cert_solution.specs.HalfBounds.{HasHalfSolutionBounds}
use Rattle.cert_check.specs.Written.{certificate_text}

-- the text parses as the certificate, whose bounds hold for any two legitimate runs from the
-- machine's start, among them the machine's own runs
pub record IsSoundProposal (m : Machine) (text : List ℕ) (c : Certificate) : Type 0 where
  pub text_is : text ≡ certificate_text c
  pub reads : IsTextOf m text c
  pub start : start_states m ≡ c.start1
  pub promised : BoundsAreGuaranteed m c
  pub admitted : CoversOwnRuns m c
  -- each of these runs is within E of the solution of the machine's differential equation
  pub solutions : HasSolutionBounds m c
  -- each of these runs is within E/2 of the solution from its own start
  pub halved : HasHalfSolutionBounds m c
