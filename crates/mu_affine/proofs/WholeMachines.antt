-- All checks, phase by phase.
use Rattle.mu_affine.proofs.Common
use Common.{ℕ, ◌++◌, ◌+◌, ◌∙◌, ◌≡◌, ap, arith, bits_of, Check, checks, Coefficient, discretes_of}
use Common.{drop, ExactForm, first_failed, FlatModelTree, FlatVariable, form_checks, form_fits}
use Common.{is_quantum, is_start, is_value, IsRefusal, length, length-drop, List, machine_checks}
use Common.{MachineErr, map, None, Quantum, rounded, rounded_form, rounded_row, row_fits}
use Common.{row_fits_at_start, setting_checks, Settings, Start, start_level, state_count, states_of}
use Common.{take, take_all}
use Rattle.mu_affine.specs.MachineChecks.{start_checks, quantum_checks, coefficient_checks}
use Rattle.mu_affine.proofs.Failing.{refused_before, refused_after, none_failed, none_first}
use Rattle.mu_affine.proofs.Failing.{none_others}

-- the checks of forms from a place on are those of all that are left
pub form_checks-rest : (p f : ℕ) (forms : List ExactForm) (n count : ℕ) → length forms ≡ n + count →
    form_checks p f forms n count ≡ checks (λ form. form_fits (rounded_form p f form)) Coefficient (n + 1) (drop n forms)
form_checks-rest p f forms n count e =
    ap (checks (λ form. form_fits (rounded_form p f form)) Coefficient (n + 1)) (take_all count (drop n forms) (omega (arith, length-drop n forms)))

-- all checks with units of these bits
abbrev pub all_checks : List ExactForm → FlatModelTree → Settings → (p k f : ℕ) → List Check
all_checks forms m s p k f = setting_checks s ++ start_checks p k f forms m.vars ++ quantum_checks f m.vars ++ coefficient_checks p f (state_count m.vars) forms

-- those of the settings are all
pub all_checks-are : (forms : List ExactForm) (m : FlatModelTree) (s : Settings) (p k f : ℕ) → p ≡ bits_of s.coef_bits → k ≡ bits_of s.tick_bits → f ≡ bits_of s.level_bits →
    all_checks forms m s p k f ≡ machine_checks forms m s
all_checks-are forms m s p k f same_p same_k same_f =
    ap (λ b. all_checks forms m s b k f) same_p ∙ ap (λ b. all_checks forms m s (bits_of s.coef_bits) b f) same_k ∙ ap (λ b. all_checks forms m s (bits_of s.coef_bits) (bits_of s.tick_bits) b) same_f

module _ (forms : List ExactForm) (m : FlatModelTree) (s : Settings) (p k f : ℕ) where
  abbrev pub starts : List Check
  starts = checks (λ (v : FlatVariable). is_start p k f v.start) Start 0 (states_of m.vars)

  abbrev pub values : List Check
  values = checks (λ (v : FlatVariable). is_value f v.start) Start (state_count m.vars) (discretes_of m.vars)

  abbrev pub weights : List Check
  weights = checks (λ form. row_fits_at_start f (map (λ (v : FlatVariable). start_level p k f v.start) (states_of m.vars)) (map (λ (v : FlatVariable). rounded f v.start) (discretes_of m.vars)) (rounded_row p f form)) Start 0 (take (state_count m.vars) forms)

  abbrev pub quanta : List Check
  quanta = checks (λ (v : FlatVariable). is_quantum f v.quantum) Quantum 0 (states_of m.vars)

  abbrev pub rows : List Check
  rows = checks (λ form. row_fits (rounded_row p f form)) Coefficient 1 (take (state_count m.vars) forms)

  abbrev pub items : List Check
  items = checks (λ form. form_fits (rounded_form p f form)) Coefficient (state_count m.vars + 1) (drop (state_count m.vars) forms)

  pub refused_settings : (fault : MachineErr) → IsRefusal (setting_checks s) fault → IsRefusal (all_checks forms m s p k f) fault
  refused_settings fault h =
      refused_before ((setting_checks s ++ (starts ++ values ++ weights)) ++ quanta) (rows ++ items) fault
      (refused_before (setting_checks s ++ (starts ++ values ++ weights)) quanta fault (refused_before (setting_checks s) (starts ++ values ++ weights) fault h))

  in_starts : (fault : MachineErr) → first_failed (setting_checks s) ≡ None → IsRefusal (starts ++ values ++ weights) fault → IsRefusal (all_checks forms m s p k f) fault
  in_starts fault settings h =
      refused_before ((setting_checks s ++ (starts ++ values ++ weights)) ++ quanta) (rows ++ items) fault
      (refused_before (setting_checks s ++ (starts ++ values ++ weights)) quanta fault (refused_after (setting_checks s) (starts ++ values ++ weights) fault settings h))

  pub refused_starts : (fault : MachineErr) → first_failed (setting_checks s) ≡ None → IsRefusal starts fault → IsRefusal (all_checks forms m s p k f) fault
  refused_starts fault settings h = in_starts fault settings (refused_before (starts ++ values) weights fault (refused_before starts values fault h))

  pub refused_values : (fault : MachineErr) → first_failed (setting_checks s) ≡ None → first_failed starts ≡ None → IsRefusal values fault → IsRefusal (all_checks forms m s p k f) fault
  refused_values fault settings first h = in_starts fault settings (refused_before (starts ++ values) weights fault (refused_after starts values fault first h))

  pub refused_weights : (fault : MachineErr) → first_failed (setting_checks s) ≡ None → first_failed starts ≡ None → first_failed values ≡ None →
      IsRefusal weights fault → IsRefusal (all_checks forms m s p k f) fault
  refused_weights fault settings first second h = in_starts fault settings (refused_after (starts ++ values) weights fault (none_failed starts values first second) h)

  pub none_started : first_failed (setting_checks s) ≡ None → first_failed starts ≡ None → first_failed values ≡ None → first_failed weights ≡ None →
      first_failed (setting_checks s ++ (starts ++ values ++ weights)) ≡ None
  none_started settings first second third =
      none_failed (setting_checks s) (starts ++ values ++ weights) settings (none_failed (starts ++ values) weights (none_failed starts values first second) third)

  pub refused_quanta : (fault : MachineErr) → first_failed (setting_checks s ++ (starts ++ values ++ weights)) ≡ None → IsRefusal quanta fault → IsRefusal (all_checks forms m s p k f) fault
  refused_quanta fault before h =
      refused_before ((setting_checks s ++ (starts ++ values ++ weights)) ++ quanta) (rows ++ items) fault
      (refused_after (setting_checks s ++ (starts ++ values ++ weights)) quanta fault before h)

  pub refused_rows : (fault : MachineErr) → first_failed (setting_checks s ++ (starts ++ values ++ weights)) ≡ None → first_failed quanta ≡ None →
      IsRefusal rows fault → IsRefusal (all_checks forms m s p k f) fault
  refused_rows fault before own h =
      refused_after ((setting_checks s ++ (starts ++ values ++ weights)) ++ quanta) (rows ++ items) fault
      (none_failed (setting_checks s ++ (starts ++ values ++ weights)) quanta before own) (refused_before rows items fault h)

  pub refused_items : (fault : MachineErr) → first_failed (setting_checks s ++ (starts ++ values ++ weights)) ≡ None → first_failed quanta ≡ None → first_failed rows ≡ None →
      IsRefusal items fault → IsRefusal (all_checks forms m s p k f) fault
  refused_items fault before own first h =
      refused_after ((setting_checks s ++ (starts ++ values ++ weights)) ++ quanta) (rows ++ items) fault
      (none_failed (setting_checks s ++ (starts ++ values ++ weights)) quanta before own) (refused_after rows items fault first h)

  pub none_refused : first_failed (setting_checks s ++ (starts ++ values ++ weights)) ≡ None → first_failed quanta ≡ None → first_failed rows ≡ None → first_failed items ≡ None →
      first_failed (all_checks forms m s p k f) ≡ None
  none_refused before own first second =
      none_failed ((setting_checks s ++ (starts ++ values ++ weights)) ++ quanta) (rows ++ items)
      (none_failed (setting_checks s ++ (starts ++ values ++ weights)) quanta before own) (none_failed rows items first second)

-- no check of any phase fails
pub record PhasesPass (forms : List ExactForm) (m : FlatModelTree) (s : Settings) (p k f : ℕ) : Type 0 where
  pub settings_pass : first_failed (setting_checks s) ≡ None
  pub starts_pass : first_failed (starts forms m s p k f) ≡ None
  pub values_pass : first_failed (values forms m s p k f) ≡ None
  pub weights_pass : first_failed (weights forms m s p k f) ≡ None
  pub quanta_pass : first_failed (quanta forms m s p k f) ≡ None
  pub rows_pass : first_failed (rows forms m s p k f) ≡ None
  pub items_pass : first_failed (items forms m s p k f) ≡ None

module _ (forms : List ExactForm) (m : FlatModelTree) (s : Settings) (p k f : ℕ) where
  abbrev all_starts : List Check
  all_starts = starts forms m s p k f ++ values forms m s p k f ++ weights forms m s p k f

  abbrev before : List Check
  before = setting_checks s ++ all_starts ++ quanta forms m s p k f

  abbrev sizes : List Check
  sizes = rows forms m s p k f ++ items forms m s p k f

  -- where none fails
  pub phases_pass : first_failed (all_checks forms m s p k f) ≡ None → PhasesPass forms m s p k f
  phases_pass none =
      let first = none_first before sizes none in
      let last = none_others before sizes none in
      let early = none_first (setting_checks s ++ all_starts) (quanta forms m s p k f) first in
      let begun = none_others (setting_checks s) all_starts early in
      let two = none_first (starts forms m s p k f ++ values forms m s p k f) (weights forms m s p k f) begun in
      record {
        settings_pass = none_first (setting_checks s) all_starts early;
        starts_pass = none_first (starts forms m s p k f) (values forms m s p k f) two;
        values_pass = none_others (starts forms m s p k f) (values forms m s p k f) two;
        weights_pass = none_others (starts forms m s p k f ++ values forms m s p k f) (weights forms m s p k f) begun;
        quanta_pass = none_others (setting_checks s ++ all_starts) (quanta forms m s p k f) first;
        rows_pass = none_first (rows forms m s p k f) (items forms m s p k f) last;
        items_pass = none_others (rows forms m s p k f) (items forms m s p k f) last;
      }
