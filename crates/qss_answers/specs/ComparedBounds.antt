-- The bound of two compared runs.
use Rattle.std.specs.Prelude.{◌≡◌, ℕ, List, ℤ, ◌≤ℤ◌}
use Rattle.qss_machine.specs.declared.compiled_machine.Machine.{Machine}
use Rattle.qss_machine.specs.Machines.{level_unit}
use Rattle.cert_check.specs.declared.certificate.Certificate.{Certificate}
use Rattle.qss_trace.specs.CommonTicks.{IsGreatestFound}
use Rattle.qss_trace.specs.Trace.{IsRunOf}
use Rattle.qss_trace.specs.declared.trace.Trace.{Trace}
use Rattle.qss_answers.specs.Comparisons.{HasQuanta, comparison_text}

-- two legitimate runs from the machine's start, with quanta at most the certificate's; the greatest
-- V of their difference, in the text, is at most the bound
pub record AreWithinBound (m : Machine) (c : Certificate) (t1 t2 : Trace) (text : List ℕ) : Type 0 where
  pub first : IsRunOf m t1
  pub second : IsRunOf m t2
  pub first_quanta : HasQuanta c t1
  pub second_quanta : HasQuanta c t2
  pub common : ℕ
  pub place1 : ℕ
  pub place2 : ℕ
  pub value : ℤ
  pub bound : ℤ
  pub found : IsGreatestFound c.pm c.cc (level_unit m) t1 t2 common place1 place2 value bound
  pub told : text ≡ comparison_text common place1 place2 value bound
  pub near : value ≤ℤ bound
