-- A machine whose numbers are exactly those of its flat model has the model's equations.
use Rattle.mu_meaning.proofs.Common
use Common.{*ℤ_comm, ℕ, ℤ, ◌+◌, ◌<◌, ◌∙◌, ◌≡◌, AffineForm, All-contains, ap, arith, Bool, Equals}
use Common.{equation_context, FlatExpression, form_of, form_value, Fraction, HasDenominators}
use Common.{HasRole, IsFlatEquation, IsRowOf, Ok, one-le-pow, pos, refl, right_is, right_side}
use Common.{row_at, sizes_of, SlopeRow, State, state_place, subst, target_role, value}
use Common.{wants_equation}
use Rattle.mu_meaning.specs.MachineNumbers.{IsExactly}
use Rattle.mu_meaning.specs.MachineEquations.{units, row_form, ExactMachinesHaveEquations}
use Rattle.mu_meaning.proofs.Numbers.{zero_equal}
use Rattle.mu_meaning.proofs.Forms.{FormEquals, form_equal}
use Rattle.mu_meaning.proofs.Meaning.{forms_have_values}
use Rattle.mu_meaning.proofs.Models.{number_chained, model_solved, equation_sound}

exactly_equal : (bits : ℕ) (a : Fraction) (z : ℤ) → 0 < a.den → IsExactly bits a z → Equals a
    (units bits z)
exactly_equal bits a z h is = record {
  left = h;
  right = omega
      (arith, one-le-pow bits 2 (omega arith));
  same = is ∙ *ℤ_comm (pos a.den) z;
}

-- an exact row denotes the affine form
pub row_equal : (p f : ℕ) (exact : AffineForm) (row : SlopeRow) → HasDenominators exact → IsRowOf
    IsExactly p f exact row → FormEquals exact (row_form p f row)
row_equal p f exact row exact> is = record {
  coefficients = λ v. exactly_equal p (exact.coefficient v) _ (exact>.coefficients v)
      (is.coefficients v);
  pairs = λ s d. exactly_equal p (exact.paired s d) _ (exact>.pairs s d) (is.products s d);
  time = zero_equal exact.time is.no_time exact>.time;
  constant = exactly_equal (f + p) exact.constant row.beta exact>.constant is.constant;
}

pub exact_machines_have_equations : ExactMachinesHaveEquations
exact_machines_have_equations m order taken s machine flat one_each in_order proper h exact e there
    der x x> =
    let sound = equation_sound m flat proper in
    let solved = model_solved m order taken sound h in
    let role = (All-contains (IsFlatEquation m.vars) m.equations e flat.equations there).0 in
    let state : HasRole m.vars e.target State = subst
    (λ (d : Bool). HasRole m.vars e.target (target_role d)) der role in
    let one = one_each e.target (record {
      variable = state.variable;
      at = state.at;
      wants = ap
          wants_equation state.is;
    }) in
    let side : right_side m.equations e.target ≡ e.value = right_is m.equations 1 e.target one.0 e
    one.1 there refl in
    let row = exact.rows e.target (state_place m flat e.target state) in
    let form : form_of (equation_context (sizes_of m) taken.solved) e.value ≡ Ok row.0 = subst
    (λ (q : FlatExpression). form_of (equation_context (sizes_of m) taken.solved) q ≡ Ok row.0)
    side row.1 in
    let v = forms_have_values (equation_context (sizes_of m) taken.solved) e.value row.0 solved
    (sound e there) form in
    let r = row_form machine.p machine.f (row_at machine e.target) in
    number_chained (value x e.value) (form_value (sizes_of m) row.0 x) (form_value (sizes_of m) r x)
    (v.1 x x>) (form_equal (sizes_of m) row.0 r x x>.positive
    (row_equal machine.p machine.f row.0 (row_at machine e.target) v.0 row.2))
