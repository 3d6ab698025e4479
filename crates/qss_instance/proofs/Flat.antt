-- The flat model, the forms and the machine of the example `decay`, by evaluation.
use Rattle.std.proofs.Common.{◌≡◌, ℕ, zero, suc, ◌<◌, ◌≤◌, Bool, true, false, List, [], ◌∷◌, map}
use Rattle.std.proofs.Common.{refl, ap, sym, ◌∙◌, subst, pos, neg_ℤ, Some, None, lit≤, arith}
use Rattle.std.specs.Prelude.{codes, slice_get, Result, Ok, Err, nat_lt, unwrap_or, cond, ◌==◌}
use Rattle.std.specs.Prelude.{if◌then◌else◌}
use Rattle.std.specs.Ordering.{is_eq, nat_cmp}
use Rattle.std.specs.declared.cmp.Ordering.TheVariants.{Less, Equal, Greater}
use Rattle.std.specs.List.Sorted.{IsStrictlySortedBy}
use Rattle.std.proofs.lemmas.Bool.{eqb-true}
use borrow.Author.Tests.{ltb-true}
use Rattle.mu_num.proofs.Powers.{whole_is_reduced}
use Rattle.std.proofs.Math.Path.{fun_ext}
use Rattle.mu_num.specs.Fraction.{Fraction, whole, sum, difference, product, lowest}
use Rattle.mu_num.specs.Fraction.{least_denominator, least_multiplier, IsReduced}
use Rattle.mu_tree.specs.declared.flat.FlatRole.TheVariants.{State}
use Rattle.mu_tree.specs.declared.flat.Settings.{Settings}
use Rattle.mu_tree.specs.FlatExpression.{FlatModelTree, FlatVariable, Constant, Variable, Sum}
use Rattle.mu_tree.specs.FlatExpression.{Product, no_terms, term, no_factors, factor}
use Rattle.mu_causal.specs.Dependencies.{IsAlgebraic, EachHasOneEquation}
use Rattle.mu_affine.specs.declared.exact_form.ExactForm.{ExactForm}
use Rattle.mu_affine.specs.declared.exact_form.Forms.{Forms}
use Rattle.mu_affine.specs.declared.exact_form.Place.{Place}
use Rattle.mu_affine.specs.declared.affine_fault.AffineErr.{AffineErr}
use Rattle.mu_affine.specs.AffineForm.{AffineForm, any_from, count_from, sum_from, none, is_nonzero}
use Rattle.mu_affine.specs.AffineForm.{is_pair}
use Rattle.mu_affine.specs.Solution.{sizes_of}
use Rattle.mu_affine.specs.FinishedForms.{form_meaning, IsFinished, MayStand}
use Rattle.mu_affine.specs.FormRows.{value_at}
use Rattle.mu_affine.specs.FormSequence.{FormsSoFar, forms_of, nothing_taken}
use Rattle.mu_affine.specs.KeptForms.{AreForms, equation_place, clause_place}
use Rattle.mu_affine.specs.RoundedMachines.{IsMachineOf}
use Rattle.qss_compile.specs.Phases.{HasOrder}
use Rattle.qss_compile.specs.Compilation.{FlatCompilesTo}
use Rattle.qss_instance.proofs.Decay.{machine}

-- x, from 64, with the quantum 4
abbrev pub variable : FlatVariable
variable = record {
  name = codes "x";
  role = State;
  start = whole (pos 64);
  quantum = whole (pos 4);
}

-- der(x) = -(1 * x)
abbrev pub flat : FlatModelTree
flat = record {
  vars = variable ∷ [];
  equations = record {
    der = true;
    target = 0;
    value = Sum (term true 50 (Product (factor false 51 (Constant (whole (pos 1)) 51)
        (factor false 52 (Variable 0 53) no_factors))) no_terms);
  } ∷ [];
  clauses = [];
}

abbrev pub flat_settings : Settings
flat_settings = record {
  start = whole (pos 0);
  stop = whole (pos 1);
  coef_bits = whole (pos 8);
  tick_bits = whole (pos 4);
  level_bits = whole (pos 0);
  quantum = whole (pos 4);
}

-- the only variable is a state, so the causal order is empty
no_algebraic : (v : ℕ) → IsAlgebraic flat v → ⊥
no_algebraic zero is = let at : Some variable ≡ Some is.variable = is.at in let role = is.role in cc
no_algebraic (suc v) is = let at : None ≡ Some is.variable = is.at in cc

one_equation : EachHasOneEquation flat
one_equation zero wants = (1, refl)
one_equation (suc v) wants = absurd (let at : None ≡ Some wants.variable = wants.at in cc)

order : HasOrder flat []
order = (one_equation, record { each = tt; all = λ v is. absurd (no_algebraic v is) })

-- -x
abbrev exact : ExactForm
exact = record {
  entries = record { var = 0; coef = whole (neg_ℤ (pos 1)) } ∷ [];
  products = [];
  time = whole (pos 0);
  constant = whole (pos 0);
}

abbrev forms : Forms
forms = record { forms = exact ∷ [] }

abbrev taken_of : Result FormsSoFar AffineErr → FormsSoFar
taken_of (Ok t) = t
taken_of (Err fault) = nothing_taken

abbrev taken : FormsSoFar
taken = taken_of (forms_of flat [])

are_taken : forms_of flat [] ≡ Ok taken
unfolding lowest least_denominator least_multiplier any_from count_from sum_from
are_taken = refl

abbrev made : (ℕ → Fraction) → (ℕ → ℕ → Fraction) → Fraction → Fraction → AffineForm
made coefficient paired time constant = record
    { coefficient = coefficient; paired = paired; time = time; constant = constant }

same_parts : (c c' : ℕ → Fraction) (p p' : ℕ → ℕ → Fraction) (t t' k k' : Fraction) → c ≡ c' → p
    ≡ p' → t ≡ t' → k ≡ k' → made c p t k ≡ made c' p' t' k'
same_parts c c' p p' t t' k k' one two three four =
    ap (λ x. made x p t k) one ∙ ap (λ x. made c' x t k) two ∙ ap (λ x. made c' p' x k) three ∙ ap
    (λ x. made c' p' t' x) four

same_form : (f g : AffineForm) → ((v : ℕ) → f.coefficient v ≡ g.coefficient v) →
    ((s d : ℕ) → f.paired s d ≡ g.paired s d) → f.time ≡ g.time → f.constant ≡ g.constant → f ≡ g
same_form f g a b c d = same_parts f.coefficient g.coefficient f.paired g.paired f.time g.time
    f.constant g.constant (fun_ext a) (fun_ext (λ s. fun_ext (b s))) c d

abbrev the_form : List AffineForm → AffineForm
the_form [] = form_meaning exact
the_form (f ∷ fs) = f

not_less : (v : ℕ) → nat_lt (suc v) 0 ≡ false
not_less v = by (nat_lt (suc v) 0) refl
  where
    by : (b : Bool) → nat_lt (suc v) 0 ≡ b → b ≡ false
    by false e = refl
    by true e = absurd (let h : suc v < 0 = ltb-true (suc v) 0 e in omega arith)

not_zero : (v : ℕ) → (suc v == 0) ≡ false
not_zero v = by (suc v == 0) refl
  where
    by : (b : Bool) → (suc v == 0) ≡ b → b ≡ false
    by false e = refl
    by true e = absurd (let h : suc v ≡ 0 = eqb-true (suc v) 0 e in omega arith)

-- the other coefficients of -x are 0
others_none : (a : Fraction) (v : ℕ) → value_at nat_cmp ((0, a) ∷ []) (suc v) ≡ none
others_none a v =
    ap (λ b. unwrap_or (cond (is_eq (cond b Less (cond (suc v == 0) Equal Greater))) (Some a) None)
    none) (not_less v)
    ∙ ap (λ b. unwrap_or (cond (is_eq (cond b Equal Greater)) (Some a) None) none) (not_zero v)

-- a coefficient of the computed form, by whether it is that of x
abbrev kept_coefficient : Bool → Fraction
kept_coefficient b = lowest (difference none (lowest
    (sum (product none none) (product (whole (pos 1)) (if b then whole (pos 1) else none)))))

coefficient_is : (v : ℕ) → (the_form taken.kept).coefficient v ≡ kept_coefficient (v == 0)
unfolding lowest least_denominator least_multiplier any_from count_from sum_from
coefficient_is v = refl

other_kept : kept_coefficient false ≡ none
unfolding lowest least_denominator least_multiplier
other_kept = refl

coefficients : (v : ℕ) → (form_meaning exact).coefficient v ≡ (the_form taken.kept).coefficient v
unfolding lowest least_denominator least_multiplier any_from count_from sum_from
coefficients zero = refl
coefficients (suc v) = others_none (whole (neg_ℤ (pos 1))) v ∙ sym
    (coefficient_is (suc v) ∙ ap kept_coefficient (not_zero v) ∙ other_kept)

-- a coefficient of a pair of the computed form, by whether it is a pair and which of the two is x
abbrev first_pair : Bool → Fraction
first_pair t =
    lowest (sum (sum (product none (whole (pos 1))) (product (whole (pos 1)) none))
    (if t then sum (product none none) (product none none) else none))

abbrev kept_pair : (t b c : Bool) → Fraction
kept_pair t b c =
    lowest (difference none (lowest (sum (sum (product (first_pair t) none)
    (product (whole (pos 1)) none))
    (if t then sum (product none (if b then whole (pos 1) else none))
    (product none (if c then whole (pos 1) else none)) else none))))

pair_is : (s d : ℕ) → (the_form taken.kept).paired s d ≡ kept_pair (is_pair (sizes_of flat) s d)
    (d == 0) (s == 0)
unfolding lowest least_denominator least_multiplier any_from count_from sum_from
pair_is s d = refl

no_pair : (t b c : Bool) → kept_pair t b c ≡ none
unfolding lowest least_denominator least_multiplier
no_pair true true true = refl
no_pair true true false = refl
no_pair true false true = refl
no_pair true false false = refl
no_pair false b c = refl

pairs : (s d : ℕ) → (form_meaning exact).paired s d ≡ (the_form taken.kept).paired s d
pairs s d = sym (pair_is s d ∙ no_pair (is_pair (sizes_of flat) s d) (d == 0) (s == 0))

times : (form_meaning exact).time ≡ (the_form taken.kept).time
unfolding lowest least_denominator least_multiplier any_from count_from sum_from
times = refl

constants : (form_meaning exact).constant ≡ (the_form taken.kept).constant
unfolding lowest least_denominator least_multiplier any_from count_from sum_from
constants = refl

one_kept : the_form taken.kept ∷ [] ≡ taken.kept
unfolding lowest least_denominator least_multiplier any_from count_from sum_from
one_kept = refl

meanings : map form_meaning forms.forms ≡ taken.kept
meanings = ap (λ f. f ∷ []) (same_form (form_meaning exact) (the_form taken.kept) coefficients pairs
    times constants) ∙ one_kept

minus_one : IsReduced (whole (neg_ℤ (pos 1)))
minus_one = whole_is_reduced (neg_ℤ (pos 1)) (lit≤ tt)

naught : IsReduced (whole (pos 0))
naught = whole_is_reduced (pos 0) (lit≤ tt)

finished : (p : Place) → p.sizes.states ≡ 1 → IsFinished p exact
unfolding IsStrictlySortedBy
finished p one = record {
  canonical = record {
    names = record { rising = (tt, tt); each = ((refl, minus_one), tt) };
    pairs = record { rising = tt; each = tt };
    time = naught;
  };
  over = record { names = names; pairs = λ s d no. cc };
}
  where
    names : (v : ℕ) → is_nonzero ((form_meaning exact).coefficient v) ≡ true → MayStand p v
    names zero shown = (omega arith, λ h. omega arith)
    names (suc v) shown = absurd (let no : is_nonzero none ≡ true = subst (λ a. is_nonzero a ≡ true)
        (others_none (whole (neg_ℤ (pos 1))) v) shown in cc)

state_forms : (i : ℕ) (g : ExactForm) → i < 1 → slice_get (exact ∷ []) i ≡ Some g → IsFinished
    (equation_place flat) g
state_forms zero g h at = let same : exact ≡ g = cc in subst (IsFinished (equation_place flat)) same
    (finished (equation_place flat) refl)
state_forms (suc i) g h at = absurd (omega arith)

no_others : (i : ℕ) (g : ExactForm) → 1 ≤ i → slice_get (exact ∷ []) i ≡ Some g → IsFinished
    (clause_place flat) g
no_others zero g h at = absurd (omega arith)
no_others (suc i) g h at = absurd (let none : None ≡ Some g = at in cc)

are_forms : AreForms flat [] forms
are_forms = record {
  taken = taken;
  is = are_taken;
  meanings = meanings;
  states = state_forms;
  others = no_others;
}

is_machine : IsMachineOf forms.forms flat flat_settings machine
is_machine = record {
  no_fault = refl;
  coefficient_bits = refl;
  tick_bits = refl;
  level_bits = refl;
  last_tick = refl;
  states = refl;
  discretes = refl;
  rows = refl;
  clauses = refl;
  no_share = refl;
}

pub flat_compiles : FlatCompilesTo (record { flat = flat; settings = flat_settings }) machine
flat_compiles = ([], order, (forms, are_forms, is_machine))
