-- The bounds of an accepted certificate.
use Rattle.std.specs.Prelude.{◌≡◌, ℕ, List}
use Rattle.qss_machine.specs.declared.compiled_machine.Machine.{Machine}
use Rattle.cert_check.specs.Bounds.{BoundsAreGuaranteed, CoversOwnRuns}
use Rattle.cert_solution.specs.SolutionBounds.{HasSolutionBounds}
use Rattle.cert_solution.specs.HalfBounds.{HasHalfSolutionBounds}
use Rattle.cert_check.specs.declared.certificate.Certificate.{Certificate}
use Rattle.qss_answers.specs.BoundTexts.{bounds_text}
use Rattle.cert_check.specs.CertificateTexts.{IsTextOf}

-- the bytes parse as the certificate c, the text states its bounds, and the bounds hold
pub record IsSoundCertification (m : Machine) (bytes text : List ℕ) (c : Certificate) : Type 0 where
  pub reads : IsTextOf m bytes c
  pub text_is : text ≡ bounds_text m c
  -- any two legitimate runs of the machine from the certificate's starts are within the bounds E of
  -- each other
  pub promised : BoundsAreGuaranteed m c
  -- if the machine's start is one of the two starts, the machine's own runs are among these runs
  pub admitted : CoversOwnRuns m c
  -- each of these runs is within E of the solution of the machine's differential equation, from
  -- either start
  pub solutions : HasSolutionBounds m c
  -- each of these runs is within E/2 of the solution from its own start
  pub halved : HasHalfSolutionBounds m c
