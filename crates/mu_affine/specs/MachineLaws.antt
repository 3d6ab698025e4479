-- Theorems on the machines of flat models.
use Rattle.std.specs.Prelude.{◌≡◌, ◌+◌, ◌<◌, true, List, None}
use Rattle.mu_affine.specs.declared.exact_form.ExactForm.{ExactForm}
use Rattle.mu_affine.specs.declared.exact_form.Place.{Place}
use Rattle.mu_affine.specs.FinishedForms.{IsFinished}
use Rattle.mu_tree.specs.declared.flat.Settings.{Settings}
use Rattle.mu_tree.specs.FlatExpression.{FlatModelTree}
use Rattle.mu_tree.specs.FlatModels.{IsFlatModel}
use Rattle.qss_machine.specs.declared.compiled_machine.Machine.{Machine}
use Rattle.mu_affine.specs.MachineChecks.{machine_fault}
use Rattle.mu_affine.specs.RoundedMachines.{AreNamed, IsRightSide, AreFormsFor, IsMachineOf}

-- A flat model with its forms and settings has a machine if and only if it has no fault. The
-- machine is unique.
pub record MachinesAreUnique : Type 0 where
  pub exists : (forms : List ExactForm) (m : FlatModelTree) (s : Settings) → IsFlatModel m → AreFormsFor forms m → 0 < s.stop.den → machine_fault forms m s ≡ None →
      (machine : Machine) × IsMachineOf forms m s machine
  pub faultless : (forms : List ExactForm) (m : FlatModelTree) (s : Settings) (machine : Machine) → IsMachineOf forms m s machine → machine_fault forms m s ≡ None
  pub only : (forms : List ExactForm) (m : FlatModelTree) (s : Settings) (a b : Machine) → IsMachineOf forms m s a → IsMachineOf forms m s b → a ≡ b

-- finished forms satisfy the layout that a machine requires, in equations and elsewhere
pub record FinishedFormsAreLaidOut : Type 0 where
  pub right_sides : (p : Place) (form : ExactForm) → p.in_equation ≡ true → IsFinished p form → IsRightSide p.sizes.states p.sizes.discretes form
  pub others : (p : Place) (form : ExactForm) → IsFinished p form → AreNamed (p.sizes.states + p.sizes.discretes + p.sizes.discretes) form.entries
