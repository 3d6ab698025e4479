-- What the code's own checks say of all checks.
use Rattle.mu_affine.proofs.Common
use Common.{ℕ, ℤ, ◌++◌, ◌+◌, ◌∙◌, ◌≡◌, ap, bits_of, Check, checks, Coefficient, discrete_count}
use Common.{discretes_of, ExactForm, first_failed, flat_model, flat_variable, FlatModel}
use Common.{FlatModelTree, FlatVar, form_checks, is_quantum, is_start, is_value, IsRefusal, length}
use Common.{List, machine_checks, MachineErr, map, None, Quantum, rounded, rounded_row, row_fits}
use Common.{row_fits_at_start, setting_checks, Settings, Start, start_level, state_count, states_of}
use Common.{subst, sym, take}
use Rattle.mu_affine.proofs.WholeMachines.{all_checks, all_checks-are, form_checks-rest, starts}
use Rattle.mu_affine.proofs.WholeMachines.{values, weights, quanta, rows, items, none_refused}
use Rattle.mu_affine.proofs.WholeMachines.{none_started, refused_items, refused_quanta}
use Rattle.mu_affine.proofs.WholeMachines.{refused_rows, refused_starts, refused_values}
use Rattle.mu_affine.proofs.WholeMachines.{refused_weights, PhasesPass}
use Rattle.mu_affine.proofs.Seen.{quanta_seen, rows_seen, starts_seen, values_seen, weights_seen}

-- the units and the variables that the code has
pub record IsRead (m : FlatModelTree) (s : Settings) (p k f : ℕ) (states discretes : List FlatVar) : Type 0 where
  pub settings_pass : first_failed (setting_checks s) ≡ None
  pub coefficient_bits : p ≡ bits_of s.coef_bits
  pub tick_bits : k ≡ bits_of s.tick_bits
  pub level_bits : f ≡ bits_of s.level_bits
  pub of_states : map flat_variable states ≡ states_of m.vars
  pub of_discretes : map flat_variable discretes ≡ discretes_of m.vars

-- the levels, the starts of discrete variables and the right sides that the code has, where no start is refused
pub record IsStarted (forms : List ExactForm) (m : FlatModelTree) (p k f : ℕ) (states discretes : List FlatVar) (first : ℕ) (levels numbers : List ℤ) (rights : List ExactForm) : Type 0 where
  pub first_is : first ≡ state_count m.vars
  pub levels_are : levels ≡ map (λ (v : FlatVar). start_level p k f v.start) states
  pub numbers_are : numbers ≡ map (λ (v : FlatVar). rounded f v.start) discretes
  pub rights_are : rights ≡ take (state_count m.vars) forms
  pub starts_pass : first_failed (checks (λ (v : FlatVar). is_start p k f v.start) Start 0 states) ≡ None
  pub values_pass : first_failed (checks (λ (v : FlatVar). is_value f v.start) Start first discretes) ≡ None

-- the code reads the variables of a flat model
module _ (x : FlatModel) (vars states discretes : List FlatVar) (behind : vars ≡ x.vars.items) where
  pub states_counted : length states ≡ state_count (map flat_variable vars) → length states ≡ state_count (flat_model x).vars
  states_counted e = e ∙ ap (λ (vs : List FlatVar). state_count (map flat_variable vs)) behind

  pub discretes_counted : length discretes ≡ discrete_count (map flat_variable vars) → length discretes ≡ discrete_count (flat_model x).vars
  discretes_counted e = e ∙ ap (λ (vs : List FlatVar). discrete_count (map flat_variable vs)) behind

  pub read_is : (s : Settings) (p k f : ℕ) → map flat_variable states ≡ states_of (map flat_variable vars) → map flat_variable discretes ≡ discretes_of (map flat_variable vars) →
      first_failed (setting_checks s) ≡ None → (p ≡ bits_of s.coef_bits) × (k ≡ bits_of s.tick_bits) × (f ≡ bits_of s.level_bits) → IsRead (flat_model x) s p k f states discretes
  read_is s p k f kept apart none bits = record {
    settings_pass = none;
    coefficient_bits = bits.0;
    tick_bits = bits.1;
    level_bits = bits.2;
    of_states = kept ∙ ap (λ (vs : List FlatVar). states_of (map flat_variable vs)) behind;
    of_discretes = apart ∙ ap (λ (vs : List FlatVar). discretes_of (map flat_variable vs)) behind;
  }

-- and the first forms
pub started_is : (forms all : List ExactForm) (m : FlatModelTree) (p k f : ℕ) (states discretes : List FlatVar) (levels numbers : List ℤ) → all ≡ forms → length states ≡ state_count m.vars →
    levels ≡ map (λ (v : FlatVar). start_level p k f v.start) states → numbers ≡ map (λ (v : FlatVar). rounded f v.start) discretes →
    first_failed (checks (λ (v : FlatVar). is_start p k f v.start) Start 0 states) ≡ None → first_failed (checks (λ (v : FlatVar). is_value f v.start) Start (length states) discretes) ≡ None →
    IsStarted forms m p k f states discretes (length states) levels numbers (take (length states) all)
started_is forms all m p k f states discretes levels numbers same first same_levels same_numbers starts values = record {
  first_is = first;
  levels_are = same_levels;
  numbers_are = same_numbers;
  rights_are = ap (take (length states)) same ∙ ap (λ (n : ℕ). take n forms) first;
  starts_pass = starts;
  values_pass = values;
}

module _ (forms : List ExactForm) (m : FlatModelTree) (s : Settings) (p k f : ℕ) (states discretes : List FlatVar) (read : IsRead m s p k f states discretes) where
  in_all : (fault : MachineErr) → IsRefusal (all_checks forms m s p k f) fault → IsRefusal (machine_checks forms m s) fault
  in_all fault h =
      subst (λ (cs : List Check). IsRefusal cs fault) (all_checks-are forms m s p k f read.coefficient_bits read.tick_bits read.level_bits) h

  pub starts_refused : (fault : MachineErr) → IsRefusal (checks (λ (v : FlatVar). is_start p k f v.start) Start 0 states) fault → IsRefusal (machine_checks forms m s) fault
  starts_refused fault h =
      in_all fault (refused_starts forms m s p k f fault read.settings_pass
      (subst (λ (cs : List Check). IsRefusal cs fault) (starts_seen forms m s p k f states discretes read.of_states read.of_discretes) h))

  starts_none : first_failed (checks (λ (v : FlatVar). is_start p k f v.start) Start 0 states) ≡ None → first_failed (starts forms m s p k f) ≡ None
  starts_none h = ap first_failed (sym (starts_seen forms m s p k f states discretes read.of_states read.of_discretes)) ∙ h

  values_none : (first : ℕ) → first ≡ state_count m.vars → first_failed (checks (λ (v : FlatVar). is_value f v.start) Start first discretes) ≡ None → first_failed (values forms m s p k f) ≡ None
  values_none first e h = ap first_failed (sym (values_seen forms m s p k f states discretes read.of_states read.of_discretes first e)) ∙ h

  pub values_refused : (first : ℕ) (fault : MachineErr) → first ≡ state_count m.vars → first_failed (checks (λ (v : FlatVar). is_start p k f v.start) Start 0 states) ≡ None →
      IsRefusal (checks (λ (v : FlatVar). is_value f v.start) Start first discretes) fault → IsRefusal (machine_checks forms m s) fault
  values_refused first fault e started h =
      in_all fault (refused_values forms m s p k f fault read.settings_pass (starts_none started)
      (subst (λ (cs : List Check). IsRefusal cs fault) (values_seen forms m s p k f states discretes read.of_states read.of_discretes first e) h))

  module _ (first : ℕ) (levels numbers : List ℤ) (rights : List ExactForm) (started : IsStarted forms m p k f states discretes first levels numbers rights) where
    abbrev own_weights : List Check
    own_weights = checks (λ form. row_fits_at_start f levels numbers (rounded_row p f form)) Start 0 rights

    abbrev own_quanta : List Check
    own_quanta = checks (λ (v : FlatVar). is_quantum f v.quantum) Quantum 0 states

    abbrev own_rows : List Check
    own_rows = checks (λ form. row_fits (rounded_row p f form)) Coefficient 1 rights

    weights_are : own_weights ≡ weights forms m s p k f
    weights_are = weights_seen forms m s p k f states discretes read.of_states read.of_discretes levels numbers rights started.levels_are started.numbers_are started.rights_are

    quanta_are : own_quanta ≡ quanta forms m s p k f
    quanta_are = quanta_seen forms m s p k f states discretes read.of_states read.of_discretes

    rows_are : own_rows ≡ rows forms m s p k f
    rows_are = rows_seen forms m s p k f states discretes read.of_states read.of_discretes rights started.rights_are

    pub weights_refused : (fault : MachineErr) → IsRefusal own_weights fault → IsRefusal (machine_checks forms m s) fault
    weights_refused fault h =
        in_all fault (refused_weights forms m s p k f fault read.settings_pass (starts_none started.starts_pass) (values_none first started.first_is started.values_pass)
        (subst (λ (cs : List Check). IsRefusal cs fault) weights_are h))

    early : first_failed own_weights ≡ None → first_failed (setting_checks s ++ (starts forms m s p k f ++ values forms m s p k f ++ weights forms m s p k f)) ≡ None
    early light =
        none_started forms m s p k f read.settings_pass (starts_none started.starts_pass) (values_none first started.first_is started.values_pass) (ap first_failed (sym weights_are) ∙ light)

    pub quanta_refused : (fault : MachineErr) → first_failed own_weights ≡ None → IsRefusal own_quanta fault → IsRefusal (machine_checks forms m s) fault
    quanta_refused fault light h = in_all fault (refused_quanta forms m s p k f fault (early light) (subst (λ (cs : List Check). IsRefusal cs fault) quanta_are h))

    pub rows_refused : (fault : MachineErr) → first_failed own_weights ≡ None → first_failed own_quanta ≡ None → IsRefusal own_rows fault → IsRefusal (machine_checks forms m s) fault
    rows_refused fault light own h =
        in_all fault (refused_rows forms m s p k f fault (early light) (ap first_failed (sym quanta_are) ∙ own) (subst (λ (cs : List Check). IsRefusal cs fault) rows_are h))

    abbrev own_items : ℕ → List Check
    own_items count = form_checks p f forms first count

    items_are : (count : ℕ) → length forms ≡ state_count m.vars + count → own_items count ≡ items forms m s p k f
    items_are count e = ap (λ n. form_checks p f forms n count) started.first_is ∙ form_checks-rest p f forms (state_count m.vars) count e

    pub items_refused : (count : ℕ) (fault : MachineErr) → length forms ≡ state_count m.vars + count → first_failed own_weights ≡ None → first_failed own_quanta ≡ None → first_failed own_rows ≡ None →
        IsRefusal (own_items count) fault → IsRefusal (machine_checks forms m s) fault
    items_refused count fault e light own fit h =
        in_all fault (refused_items forms m s p k f fault (early light) (ap first_failed (sym quanta_are) ∙ own) (ap first_failed (sym rows_are) ∙ fit)
        (subst (λ (cs : List Check). IsRefusal cs fault) (items_are count e) h))

    -- where none is refused
    pub all_pass : (count : ℕ) → length forms ≡ state_count m.vars + count → first_failed own_weights ≡ None → first_failed own_quanta ≡ None → first_failed own_rows ≡ None →
        first_failed (own_items count) ≡ None → PhasesPass forms m s p k f
    all_pass count e light own fit last = record {
      settings_pass = read.settings_pass;
      starts_pass = starts_none started.starts_pass;
      values_pass = values_none first started.first_is started.values_pass;
      weights_pass = ap first_failed (sym weights_are) ∙ light;
      quanta_pass = ap first_failed (sym quanta_are) ∙ own;
      rows_pass = ap first_failed (sym rows_are) ∙ fit;
      items_pass = ap first_failed (sym (items_are count e)) ∙ last;
    }

  -- so there is no fault
  pub no_fault : PhasesPass forms m s p k f → first_failed (machine_checks forms m s) ≡ None
  no_fault pass =
      ap first_failed (sym (all_checks-are forms m s p k f read.coefficient_bits read.tick_bits read.level_bits))
      ∙ none_refused forms m s p k f (none_started forms m s p k f pass.settings_pass pass.starts_pass pass.values_pass pass.weights_pass) pass.quanta_pass pass.rows_pass pass.items_pass
