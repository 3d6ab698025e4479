-- The guarantee for the runs of a source if a certificate is accepted.
use Rattle.std.specs.Prelude.{ℕ, List}
use Rattle.cert_check.specs.declared.certificate.Certificate.{Certificate}
use Rattle.qss_answers.specs.AcceptedBounds.{IsSoundCertification}
use Rattle.qss_machine.specs.declared.compiled_machine.Machine.{Machine}
use Rattle.qss_top.specs.MachineAnswers.{IsSourceMachine}

-- the source denotes a machine, the text parses as a certificate, the output states the
-- certificate's bounds, and the bounds hold for the machine's legitimate runs and for the solutions
-- of its differential equation
pub record AreCertifiedBy (share : ℕ) (source text out : List ℕ) : Type 0 where
  pub machine : Machine
  pub means : IsSourceMachine share source machine
  pub spelled : Certificate
  pub kept : IsSoundCertification machine text out spelled
