-- Theorems on the compilation of sources.
use Rattle.std.specs.Prelude.{◌≡◌, ◌⊎◌, ℕ, List}
use Rattle.mu_causal.specs.declared.causal_outcome.CausalErr.TheVariants.{Loop}
use Rattle.mu_grammar.specs.Grammar.{Symbol}
use Rattle.mu_grammar.specs.ModelGrammar.{SpellsModel}
use Rattle.mu_names.specs.LeastFaults.{place, number}
use Rattle.mu_names.specs.declared.name_fault.NameErr.{NameErr}
use Rattle.mu_tree.specs.ModelTree.{ModelTree}
use Rattle.mu_unroll.specs.WellFormed.{IsWellFormed}
use Rattle.qss_compile.specs.Compilation.{CompilesTo, IsRefused}
use Rattle.qss_compile.specs.declared.model_refusal.ModelErr.TheVariants.{Names, Causal}
use Rattle.qss_compile.specs.declared.model_refusal.Refused.{Refused}
use Rattle.qss_machine.specs.declared.compiled_machine.Machine.{Machine}

-- two errors that report cycles of the same flat model
pub record AreLoops (r s : Refused) : Type 0 where
  pub first : List ℕ
  pub second : List ℕ
  pub is_first : r.error ≡ Causal (Loop first)
  pub is_second : s.error ≡ Causal (Loop second)
  pub same_names : r.names ≡ s.names

-- two errors of names with the same number at the same offset
pub record AreAtOnePlace (r s : Refused) : Type 0 where
  pub first : NameErr
  pub second : NameErr
  pub is_first : r.error ≡ Names first
  pub is_second : s.error ≡ Names second
  pub same_place : place first ≡ place second
  pub same_number : number first ≡ number second

-- two errors are equal, except for the reported cycle or name error
abbrev pub AreAlike : Refused → Refused → Type 0
AreAlike r s = (r ≡ s) ⊎ (AreLoops r s ⊎ AreAtOnePlace r s)

-- a source denotes at most one machine
abbrev pub CompiledMachinesAreUnique : Type 0
CompiledMachinesAreUnique = (bytes : List ℕ) (m n : Machine) → CompilesTo bytes m → CompilesTo bytes n → m ≡ n

-- a source that denotes a machine is not rejected
abbrev pub CompiledSourcesAreNotRefused : Type 0
CompiledSourcesAreNotRefused = (bytes : List ℕ) (m : Machine) (r : Refused) → CompilesTo bytes m → IsRefused bytes r → ⊥

-- two errors of a source are equal, except for the reported cycle or name error
abbrev pub CausesAreUnique : Type 0
CausesAreUnique = (bytes : List ℕ) (r s : Refused) → IsRefused bytes r → IsRefused bytes s → AreAlike r s

-- each source denotes a machine or is rejected
abbrev pub SourcesAreDecided : Type 0
SourcesAreDecided = (bytes : List ℕ) → ((m : Machine) × CompilesTo bytes m) ⊎ ((r : Refused) × IsRefused bytes r)

-- a model that is parsed from tokens is well formed
abbrev pub SpelledModelsAreWellFormed : Type 0
SpelledModelsAreWellFormed = (limit : ℕ) (ts : List Symbol) (m : ModelTree) → SpellsModel limit ts m → IsWellFormed m
