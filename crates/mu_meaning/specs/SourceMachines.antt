-- The meaning of a compiled source as equations of numbers, and the machine's numbers.
use Rattle.std.specs.Prelude.{ℕ, List}
use Rattle.mu_tree.specs.ModelTree.{ModelTree}
use Rattle.qss_machine.specs.declared.compiled_machine.Machine.{Machine}
use Rattle.mu_affine.specs.declared.exact_form.Forms.{Forms}
use Rattle.mu_affine.specs.KeptForms.{AreForms}
use Rattle.qss_compile.specs.Compilation.{SourceParsesAs, FlatSource, IsFlatOf, CompilesTo}
use Rattle.mu_meaning.specs.Meaning.{HoldAsNumbers}
use Rattle.mu_meaning.specs.MachineNumbers.{IsRoundedMachine, IsExactMachine}
use Rattle.mu_meaning.specs.MachineEquations.{HasEquationsOf}

-- the flat model and the affine forms of a source, and how the machine is related to them
pub record HasMeaning (bytes : List ℕ) (machine : Machine) : Type 0 where
  pub tree : ModelTree
  pub parses : SourceParsesAs bytes tree
  pub source : FlatSource
  pub flat : IsFlatOf tree source
  pub order : List ℕ
  pub forms : Forms
  pub are : AreForms source.flat order forms
  -- the equations, conditions and statements of the flat model have the values of these forms
  pub numbers : HoldAsNumbers source.flat are.taken
  -- each number of the machine is the model's, rounded once
  pub rounded : IsRoundedMachine source.flat are.taken.solved source.settings machine
  -- if rounding changes no coefficient and no constant, the machine has the model's equations
  pub equations : IsExactMachine source.flat are.taken.solved source.settings machine →
      HasEquationsOf source.flat are.taken.solved machine

-- each source that compiles to a machine has such a meaning
abbrev pub SourcesHaveMeaning : Type 0
SourcesHaveMeaning = (bytes : List ℕ) (machine : Machine) → CompilesTo bytes machine → HasMeaning
    bytes machine
