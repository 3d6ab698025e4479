-- A flat model without a fault has one machine.
use Rattle.mu_affine.proofs.Common
use Common.{ℕ, ◌<◌, ◌∙◌, ◌≡◌, ap, AreFormsFor, bits_of, clauses_of, discretes_of, ExactForm}
use Common.{FlatModelTree, IsFlatModel, IsMachineOf, last_of, List, Machine, machine_fault, map}
use Common.{None, pos, refl, rounded_discrete, rounded_row, rounded_state, Settings, state_count}
use Common.{states_of, sym, take, unsigned_abs}
use Rattle.qss_machine.proofs.Fields.{Parts, IsSound, machine_of, same_machine}
use Rattle.mu_affine.proofs.Made.{made_variables, made_rows, made_clauses}
use Rattle.mu_affine.proofs.UnitLaws.{are_units}
use Rattle.mu_affine.proofs.WholeMachines.{phases_pass}

-- the fields of the machine
abbrev parts_for : List ExactForm → FlatModelTree → Settings → (p k f : ℕ) → Parts
parts_for forms m s p k f = record {
  p = p;
  k = k;
  f = f;
  last = unsigned_abs (last_of s);
  states = map (rounded_state p k f) (states_of m.vars);
  discretes = map (rounded_discrete f) (discretes_of m.vars);
  rows = map (rounded_row p f) (take (state_count m.vars) forms);
  clauses = clauses_of p f forms (state_count m.vars) m.clauses;
  relative = 0;
}

pub machine_exists : (forms : List ExactForm) (m : FlatModelTree) (s : Settings) → IsFlatModel m → AreFormsFor forms m → 0 < s.stop.den → machine_fault forms m s ≡ None →
    (machine : Machine) × IsMachineOf forms m s machine
machine_exists forms m s flat are positive none =
    let p = bits_of s.coef_bits in
    let k = bits_of s.tick_bits in
    let f = bits_of s.level_bits in
    let pass = phases_pass forms m s p k f none in
    let units = are_units s positive pass.settings_pass in
    let sound : IsSound (parts_for forms m s p k f) = record {
      units = units.0;
      variables = made_variables forms m s p k f flat are pass;
      row_limits = made_rows forms m s p k f flat are pass;
      clause_limits = made_clauses forms m s p k f flat are pass;
    } in (
      machine_of (parts_for forms m s p k f) sound,
      record {
        no_fault = none;
        coefficient_bits = refl;
        tick_bits = refl;
        level_bits = refl;
        last_tick = units.1;
        states = refl;
        discretes = refl;
        rows = refl;
        clauses = refl;
        no_share = refl;
      },
    )

-- machines of one flat model have the same data
pub one_machine : (forms : List ExactForm) (m : FlatModelTree) (s : Settings) (a b : Machine) → IsMachineOf forms m s a → IsMachineOf forms m s b → a ≡ b
one_machine forms m s a b first second =
    let p : a.p ≡ b.p = first.coefficient_bits ∙ sym second.coefficient_bits in
    let k : a.k ≡ b.k = first.tick_bits ∙ sym second.tick_bits in
    let f : a.f ≡ b.f = first.level_bits ∙ sym second.level_bits in
    same_machine a b (record {
      coefficient_bits = p;
      tick_bits = k;
      level_bits = f;
      last_tick = one_number a.last b.last (first.last_tick ∙ sym second.last_tick);
      same_states =
          first.states ∙ ap (λ (i : ℕ). map (rounded_state i a.k a.f) (states_of m.vars)) p ∙ ap (λ (i : ℕ). map (rounded_state b.p i a.f) (states_of m.vars)) k
          ∙ ap (λ (i : ℕ). map (rounded_state b.p b.k i) (states_of m.vars)) f ∙ sym second.states;
      same_discretes = first.discretes ∙ ap (λ (i : ℕ). map (rounded_discrete i) (discretes_of m.vars)) f ∙ sym second.discretes;
      same_rows =
          first.rows ∙ ap (λ (i : ℕ). map (rounded_row i a.f) (take (state_count m.vars) forms)) p ∙ ap (λ (i : ℕ). map (rounded_row b.p i) (take (state_count m.vars) forms)) f ∙ sym second.rows;
      same_clauses =
          first.clauses ∙ ap (λ (i : ℕ). clauses_of i a.f forms (state_count m.vars) m.clauses) p ∙ ap (λ (i : ℕ). clauses_of b.p i forms (state_count m.vars) m.clauses) f ∙ sym second.clauses;
      share = first.no_share ∙ sym second.no_share;
    })
  where
    one_number : (x y : ℕ) → pos x ≡ pos y → x ≡ y
    one_number x y e = cc
