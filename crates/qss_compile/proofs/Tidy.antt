-- The form of each expression of a flat model is over its place, with each coefficient in lowest terms.
use Rattle.qss_compile.proofs.Common
use Common.{ℕ, ◌&&◌, ◌+◌, ◌<◌, ◌∙◌, ◌≡◌, ◌≤◌, ◌⊎◌, action_form, AffineErr, AffineForm, ap, arith}
use Common.{Bool, cases_Bool, checked, condition_form, difference, Err, false, FlatAction}
use Common.{FlatBranchTree, form_of, Fraction, if◌then◌else◌, inl, inr, is_nonzero, is_small}
use Common.{IsNumbered, IsOver, IsReduced, least_denominator, least_multiplier, lowest, nat_eq}
use Common.{nat_le, nat_lt, nat_tests, none, NumErr, Ok, Place, pos, power, product, quotient}
use Common.{Range, refl, Result, Sizes, subst, suc, sum, sym, true, unsigned_abs, whole, zero}
use Common.{ZeroDivisor}
use Rattle.std.proofs.Common.{ℤ, ◌*ℤ◌}
use Rattle.std.specs.Prelude.{not, ◌^◌}
use Rattle.std.proofs.Math.IntN.{zero-*ℤ}
use Rattle.std.proofs.Math.Nat.{eq-one_of_dvd-one}
use Prim.Native.Nat.{◌∣◌}
use Rattle.std.proofs.lemmas.Bool.{and_parts}
use Rattle.std.proofs.lemmas.Int.{ints}
use Rattle.mu_affine.specs.FormOf.{Context, sum_form, product_of, variable_form}
use Rattle.mu_affine.specs.Walks.{AreNumbered, AreNumberedFactors, IsNumberedAction}
use Rattle.mu_affine.proofs.Checks.{any_from-some}
use Rattle.mu_affine.proofs.Fractions.{IsReduced-none, zero_num, zero_from_num, lowest-zero}
use Rattle.mu_affine.proofs.Making.{IsReduced-one}
use Rattle.mu_affine.proofs.Products.{product_zero_left, product_zero_right, sum_zeros}
use Rattle.mu_affine.proofs.Showing.{pair_shows}
use Rattle.mu_affine.specs.AffineForm.{any_from, constant_form, name_form, time_form}
use Rattle.mu_affine.specs.AffineForm.{has_coefficient, has_pairs, may_multiply, is_pair, combined}
use Rattle.mu_affine.specs.AffineForm.{product_form, quotient_form, is_in_range, lowest_form}
use Rattle.mu_affine.specs.AffineForm.{checked_form}
use Rattle.mu_affine.specs.FinishedForms.{IsName, IsPair, MayStand}
use Rattle.mu_affine.specs.FormParts.{placed, kept, then_form, join_forms, multiply_forms}
use Rattle.mu_affine.specs.FormParts.{raise_form}
use Rattle.mu_affine.specs.FormRows.{joined}
use Rattle.mu_affine.specs.declared.affine_fault.AffineErr.TheVariants.{NotAffine, TimeHere}
use Rattle.mu_affine.specs.declared.affine_fault.AffineErr.TheVariants.{ConstFault}
use Rattle.mu_num.proofs.Lowest.{lowest_terms}
use Rattle.mu_num.specs.Fraction.{sign}
use Rattle.mu_tree.specs.FlatExpression.{FlatExpression, Constant, Variable, Previous, Now, Sum}
use Rattle.mu_tree.specs.FlatExpression.{Product, Power, FlatTerms, no_terms, term, FlatFactors}
use Rattle.mu_tree.specs.FlatExpression.{no_factors, factor, Assign, Restart}
use Rattle.qss_compile.proofs.Listing.{IsTidy}

-- lowest terms over 0 are whole
abbrev fraction : ℤ → ℕ → Fraction
fraction n d = record { num = n; den = d }

over_zero : (n : ℤ) → (lowest (fraction n 0)).den ≡ 1
unfolding lowest least_denominator least_multiplier
over_zero n = refl

zero_over_zero : lowest (fraction (pos 0) 0) ≡ none
unfolding lowest least_denominator least_multiplier
zero_over_zero = refl

-- lowest terms that are small are reduced
lowest_reduced : (n : ℤ) (d : ℕ) → is_small (lowest (fraction n d)) ≡ true → IsReduced (lowest (fraction n d))
lowest_reduced n zero small =
    let parts = and_parts (nat_le (unsigned_abs (lowest (fraction n 0)).num) (2 ^ 62)) (nat_le (lowest (fraction n 0)).den (2 ^ 62)) small in
    let one = over_zero n in
    record {
      positive = omega (arith, one);
      coprime = λ k p q. eq-one_of_dvd-one (subst (λ (m : ℕ). k ∣ m) one q);
      small_num = at_most (unsigned_abs (lowest (fraction n 0)).num) (2 ^ 62) parts.0;
      small_den = at_most (lowest (fraction n 0)).den (2 ^ 62) parts.1;
    }
  where
    at_most : (a b : ℕ) → nat_le a b ≡ true → a ≤ b
    at_most a b e = grind (arith, nat_tests)
lowest_reduced n (suc d) small =
    let parts = and_parts (nat_le (unsigned_abs (lowest (fraction n (suc d))).num) (2 ^ 62)) (nat_le (lowest (fraction n (suc d))).den (2 ^ 62)) small in
    let terms = lowest_terms (fraction n (suc d)) (omega arith) in
    record {
      positive = terms.positive;
      coprime = terms.coprime;
      small_num = at_most (unsigned_abs (lowest (fraction n (suc d))).num) (2 ^ 62) parts.0;
      small_den = at_most (lowest (fraction n (suc d))).den (2 ^ 62) parts.1;
    }
  where
    at_most : (a b : ℕ) → nat_le a b ≡ true → a ≤ b
    at_most a b e = grind (arith, nat_tests)

lowest_none : (n : ℤ) (d : ℕ) → n ≡ pos 0 → lowest (fraction n d) ≡ none
lowest_none n zero e = ap (λ (m : ℤ). lowest (fraction m 0)) e ∙ zero_over_zero
lowest_none n (suc d) e = lowest-zero (fraction n (suc d)) e (omega arith)

-- what stays other than 0 was so before
nonzero_before : (a : Fraction) → is_nonzero (lowest a) ≡ true → is_nonzero a ≡ true
nonzero_before a h = elim (cases_Bool (is_nonzero a)) [
  | inl some ↦ some
  | inr fails ↦ absurd (let e = ap is_nonzero (lowest_none a.num a.den (zero_num a fails)) in let wrong : false ≡ true = sym e ∙ h in cc wrong)
]

-- a test that passes nowhere, at one number
fails_at : (start count k : ℕ) (test : ℕ → Bool) → any_from start count test ≡ false → start ≤ k → k < start + count → test k ≡ false
fails_at start count k test none_there low high = elim (cases_Bool (test k)) [
  | inl holds ↦ absurd (let wrong : false ≡ true = sym none_there ∙ any_from-some start count k test low high holds in cc wrong)
  | inr fails ↦ fails
]

negated : (b : Bool) → not b ≡ true → b ≡ false
negated true e = absurd (cc e)
negated false e = refl

affirmed : (b : Bool) → not b ≡ false → b ≡ true
affirmed true e = refl
affirmed false e = absurd (cc e)

-- each number of a form in range is small in lowest terms
record AllSmall (n : Sizes) (f : AffineForm) : Type 0 where
  names : (v : ℕ) → IsName n v → is_small (lowest (f.coefficient v)) ≡ true
  pairs : (s d : ℕ) → IsPair n s d → is_small (lowest (f.paired s d)) ≡ true
  time : is_small (lowest f.time) ≡ true

all_small : (n : Sizes) (f : AffineForm) → is_in_range n f ≡ true → AllSmall n f
all_small n f h =
    let large_name = any_from 0 (n.states + n.discretes + n.discretes) (λ v. not (is_small (lowest (f.coefficient v)))) in
    let large_pair = any_from 0 n.states (λ s. any_from n.states n.discretes (λ d. not (is_small (lowest (f.paired s d))))) in
    let outer = and_parts (not large_name && not large_pair && is_small (lowest f.time)) (is_small (lowest f.constant)) h in
    let middle = and_parts (not large_name && not large_pair) (is_small (lowest f.time)) outer.0 in
    let inner = and_parts (not large_name) (not large_pair) middle.0 in
    record {
      names = λ v low. affirmed (is_small (lowest (f.coefficient v))) (fails_at 0 (n.states + n.discretes + n.discretes) v (λ v. not (is_small (lowest (f.coefficient v)))) (negated large_name inner.0) (omega arith) (omega (arith, low)));
      pairs = λ s d p.
          let first = p.0 in
          affirmed (is_small (lowest (f.paired s d))) (fails_at n.states n.discretes d (λ d. not (is_small (lowest (f.paired s d))))
          (fails_at 0 n.states s (λ s. any_from n.states n.discretes (λ d. not (is_small (lowest (f.paired s d))))) (negated large_pair inner.1) (omega arith) (omega (arith, first))) p.1 p.2);
      time = middle.1;
    }

-- of what is checked
if_ok : {A E : Type 0} (b : Bool) (a h : A) (e : E) → (if b then Ok a else Err e) ≡ Ok h → (b ≡ true) × (a ≡ h)
if_ok true a h e p = (refl, cc p)
if_ok false a h e p = absurd (cc p)

if_err : {A E : Type 0} (b : Bool) (r : Result A E) (h : A) (e : E) → (if b then r else Err e) ≡ Ok h → (b ≡ true) × (r ≡ Ok h)
if_err true r h e p = (refl, p)
if_err false r h e p = absurd (cc p)

else_ok : {A E : Type 0} (b : Bool) (r : Result A E) (h : A) (e : E) → (if b then Err e else r) ≡ Ok h → (b ≡ false) × (r ≡ Ok h)
else_ok true r h e p = absurd (cc p)
else_ok false r h e p = (refl, p)

placed_ok : {A : Type 0} (at : ℕ) (r : Result A NumErr) (h : A) → placed at r ≡ Ok h → r ≡ Ok h
placed_ok at (Ok a) h e = cc e
placed_ok at (Err fault) h e = absurd (cc e)

-- a form in lowest terms is tidy where the form was over the place
checked_tidy : (p : Place) (f h : AffineForm) → IsOver p f → checked_form p.sizes f ≡ Ok h → IsTidy p h
checked_tidy p f h over e =
    let parts = if_ok (is_in_range p.sizes f) (lowest_form f) h Range e in
    subst (IsTidy p) parts.1 (lowered (all_small p.sizes f parts.0))
  where
    lowered : AllSmall p.sizes f → IsTidy p (lowest_form f)
    lowered small = record {
      over = record { names = λ v some. over.names v (nonzero_before (f.coefficient v) some); pairs = λ s d some. over.pairs s d (nonzero_before (f.paired s d) some) };
      names = λ v. elim (cases_Bool (is_nonzero (f.coefficient v))) [
        | inl some ↦ lowest_reduced (f.coefficient v).num (f.coefficient v).den (small.names v (over.names v some).0)
        | inr none_there ↦ subst IsReduced (sym (lowest_none (f.coefficient v).num (f.coefficient v).den (zero_num (f.coefficient v) none_there))) IsReduced-none
      ];
      pairs = λ s d. elim (cases_Bool (is_nonzero (f.paired s d))) [
        | inl some ↦ lowest_reduced (f.paired s d).num (f.paired s d).den (small.pairs s d (over.pairs s d some).0)
        | inr none_there ↦ subst IsReduced (sym (lowest_none (f.paired s d).num (f.paired s d).den (zero_num (f.paired s d) none_there))) IsReduced-none
      ];
      time = lowest_reduced f.time.num f.time.den small.time;
    }

-- of two numbers that make one other than 0, one is other than 0
one_of_two : (a b x : Fraction) → (a.num ≡ pos 0 → b.num ≡ pos 0 → x.num ≡ pos 0) → is_nonzero x ≡ true → (is_nonzero a ≡ true) ⊎ (is_nonzero b ≡ true)
one_of_two a b x zeros some = by (cases_Bool (is_nonzero a)) (cases_Bool (is_nonzero b))
  where
    by : (is_nonzero a ≡ true) ⊎ (is_nonzero a ≡ false) → (is_nonzero b ≡ true) ⊎ (is_nonzero b ≡ false) → (is_nonzero a ≡ true) ⊎ (is_nonzero b ≡ true)
    by (inl holds) t = inl holds
    by (inr fails) (inl holds) = inr holds
    by (inr fails) (inr none_there) = absurd (let e = zero_from_num x (zeros (zero_num a fails) (zero_num b none_there)) in let wrong : false ≡ true = sym e ∙ some in cc wrong)

difference_zeros : (a b : Fraction) → a.num ≡ pos 0 → b.num ≡ pos 0 → (difference a b).num ≡ pos 0
difference_zeros a b h k = omega (arith, ints, ap (λ n. n *ℤ pos b.den) h, ap (λ n. n *ℤ pos a.den) k, zero-*ℤ (pos b.den), zero-*ℤ (pos a.den))

joined_zeros : (minus : Bool) (a b : Fraction) → a.num ≡ pos 0 → b.num ≡ pos 0 → (joined minus a b).num ≡ pos 0
joined_zeros false a b = sum_zeros a b
joined_zeros true a b = difference_zeros a b

combined_over : (p : Place) (op : Fraction → Fraction → Fraction) (f g : AffineForm) → ((a b : Fraction) → a.num ≡ pos 0 → b.num ≡ pos 0 → (op a b).num ≡ pos 0) → IsOver p f → IsOver p g → IsOver p (combined op f g)
combined_over p op f g zeros of_f of_g = record {
  names = λ v some. elim (one_of_two (f.coefficient v) (g.coefficient v) (op (f.coefficient v) (g.coefficient v)) (zeros (f.coefficient v) (g.coefficient v)) some) [ inl a ↦ of_f.names v a | inr b ↦ of_g.names v b ];
  pairs = λ s d some. elim (one_of_two (f.paired s d) (g.paired s d) (op (f.paired s d) (g.paired s d)) (zeros (f.paired s d) (g.paired s d)) some) [ inl a ↦ of_f.pairs s d a | inr b ↦ of_g.pairs s d b ];
}

-- a form whose pairs are pairs, kept at a place, is over it
kept_over : (p : Place) (at : ℕ) (f h : AffineForm) → ((v : ℕ) → is_nonzero (f.coefficient v) ≡ true → MayStand p v) → ((s d : ℕ) → is_nonzero (f.paired s d) ≡ true → IsPair p.sizes s d) → kept p at f ≡ Ok h → (f ≡ h) × IsOver p f
kept_over p at f h names pairs e =
    let parts = else_ok (has_pairs p.sizes f && not p.in_equation) (Ok f) h (NotAffine at) e in
    let same : f ≡ h = let q = parts.1 in cc q in
    (same, record { names = names; pairs = λ s d some. (pairs s d some, in_equation p.in_equation (pair_shows p.sizes f s d (pairs s d some) some) parts.0) })
  where
    in_equation : (b : Bool) → has_pairs p.sizes f ≡ true → (has_pairs p.sizes f && not b) ≡ false → b ≡ true
    in_equation true shows none_there = refl
    in_equation false shows none_there = absurd (let wrong : true ≡ false = sym (ap (λ x. x && true) shows) ∙ none_there in cc wrong)

-- a tidy form of an equation, kept at a place
kept_tidy : (p : Place) (at : ℕ) (f h : AffineForm) → IsTidy (record p { in_equation = true }) f → kept p at f ≡ Ok h → IsTidy p h
kept_tidy p at f h tidy e =
    let over = kept_over p at f h (λ v some. ((tidy.over.names v some).0, λ _. (tidy.over.names v some).1 refl)) (λ s d some. (tidy.over.pairs s d some).0) e in
    subst (IsTidy p) over.0 (record { over = over.1; names = tidy.names; pairs = tidy.pairs; time = tidy.time })

-- forms without coefficients
pub constant_tidy : (p : Place) (a : Fraction) → IsTidy p (constant_form a)
constant_tidy p a = record {
  over = record { names = λ v some. absurd (cc some); pairs = λ s d some. absurd (cc some) };
  names = λ v. IsReduced-none;
  pairs = λ s d. IsReduced-none;
  time = IsReduced-none;
}

time_tidy : (p : Place) → IsTidy p time_form
time_tidy p = record {
  over = record { names = λ v some. absurd (cc some); pairs = λ s d some. absurd (cc some) };
  names = λ v. IsReduced-none;
  pairs = λ s d. IsReduced-none;
  time = IsReduced-one;
}

-- the form of a name
name_tidy : (p : Place) (n : ℕ) → MayStand p n → IsTidy p (name_form n)
name_tidy p n may = record {
  over = record { names = λ v some. subst (MayStand p) (sym (named_by v (nat_eq v n) refl some)) may; pairs = λ s d some. absurd (cc some) };
  names = λ v. reduced (nat_eq v n);
  pairs = λ s d. IsReduced-none;
  time = IsReduced-none;
}
  where
    reduced : (b : Bool) → IsReduced (if b then whole (pos 1) else none)
    reduced true = IsReduced-one
    reduced false = IsReduced-none

    named_by : (v : ℕ) (b : Bool) → nat_eq v n ≡ b → is_nonzero (if b then whole (pos 1) else none) ≡ true → v ≡ n
    named_by v true e some = grind (arith, nat_tests)
    named_by v false e some = absurd (cc some)

-- what a step gives is tidy
abbrev pub Gives : Place → Result AffineForm AffineErr → Type 0
Gives p r = (h : AffineForm) → r ≡ Ok h → IsTidy p h

given : (p : Place) (f : AffineForm) → IsTidy p f → Gives p (Ok f)
given p f tidy h e = let same : f ≡ h = cc e in subst (IsTidy p) same tidy

nothing_given : (p : Place) (fault : AffineErr) → Gives p (Err fault)
nothing_given p fault h e = absurd (cc e)

then_gives : (p : Place) (r : Result AffineForm AffineErr) (next : AffineForm → Result AffineForm AffineErr) → Gives p r → ((f : AffineForm) → IsTidy p f → Gives p (next f)) → Gives p (then_form r next)
then_gives p (Ok f) next first later = later f (first f refl)
then_gives p (Err fault) next first later = nothing_given p fault

-- a checked form is over the place
checked_gives : (p : Place) (at : ℕ) (f : AffineForm) → IsOver p f → Gives p (placed at (checked_form p.sizes f))
checked_gives p at f over h e = checked_tidy p f h over (placed_ok at (checked_form p.sizes f) h e)

join_gives : (p : Place) (minus : Bool) (at : ℕ) (f g : AffineForm) → IsTidy p f → IsTidy p g → Gives p (join_forms p minus at f g)
join_gives p minus at f g a b = checked_gives p at (combined (joined minus) f g) (combined_over p (joined minus) f g (joined_zeros minus) a.over b.over)

-- a sum of a product with a constant each way
crossed_zeros : (a b c d : Fraction) → a.num ≡ pos 0 → b.num ≡ pos 0 → (sum (product a c) (product d b)).num ≡ pos 0
crossed_zeros a b c d h k = sum_zeros (product a c) (product d b) (product_zero_left a c h) (product_zero_right d b k)

pair_parts : (n : Sizes) (s d : ℕ) → is_pair n s d ≡ true → IsPair n s d
pair_parts n s d h =
    let outer = and_parts (nat_lt s n.states) (nat_le n.states d && nat_lt d (n.states + n.discretes)) h in
    let inner = and_parts (nat_le n.states d) (nat_lt d (n.states + n.discretes)) outer.1 in
    (less s n.states outer.0, at_most n.states d inner.0, less d (n.states + n.discretes) inner.1)
  where
    less : (a b : ℕ) → nat_lt a b ≡ true → a < b
    less a b e = grind (arith, nat_tests)

    at_most : (a b : ℕ) → nat_le a b ≡ true → a ≤ b
    at_most a b e = grind (arith, nat_tests)

-- the pairs of a product
product_pairs : (n : Sizes) (f g : AffineForm) → ((s d : ℕ) → is_nonzero (f.paired s d) ≡ true → IsPair n s d) → ((s d : ℕ) → is_nonzero (g.paired s d) ≡ true → IsPair n s d) → (s d : ℕ) → is_nonzero ((product_form n f g).paired s d) ≡ true → IsPair n s d
product_pairs n f g of_f of_g s d = by (is_pair n s d) refl
  where
    by : (b : Bool) → is_pair n s d ≡ b
        → is_nonzero (sum (sum (product (f.paired s d) g.constant) (product f.constant (g.paired s d))) (if b then sum (product (f.coefficient s) (g.coefficient d)) (product (f.coefficient d) (g.coefficient s)) else none)) ≡ true → IsPair n s d
    by true e some = pair_parts n s d e
    by false e some = elim (one_of_two (f.paired s d) (g.paired s d) (sum (sum (product (f.paired s d) g.constant) (product f.constant (g.paired s d))) none)
        (λ h k. sum_zeros (sum (product (f.paired s d) g.constant) (product f.constant (g.paired s d))) none (crossed_zeros (f.paired s d) (g.paired s d) g.constant f.constant h k) refl) some) [ inl a ↦ of_f s d a | inr b ↦ of_g s d b ]

product_names : (p : Place) (f g : AffineForm) → IsTidy p f → IsTidy p g → (v : ℕ) → is_nonzero ((product_form p.sizes f g).coefficient v) ≡ true → MayStand p v
product_names p f g a b v some =
    elim (one_of_two (f.coefficient v) (g.coefficient v) (sum (product (f.coefficient v) g.constant) (product f.constant (g.coefficient v))) (crossed_zeros (f.coefficient v) (g.coefficient v) g.constant f.constant) some) [ inl x ↦ a.over.names v x | inr y ↦ b.over.names v y ]

product_gives : (p : Place) (at : ℕ) (f g : AffineForm) → IsTidy p f → IsTidy p g → Gives p (then_form (kept p at (product_form p.sizes f g)) (λ h. placed at (checked_form p.sizes h)))
product_gives p at f g a b = by (kept p at (product_form p.sizes f g)) refl
  where
    by : (r : Result AffineForm AffineErr) → kept p at (product_form p.sizes f g) ≡ r → Gives p (then_form r (λ h. placed at (checked_form p.sizes h)))
    by (Ok x) e =
        let over = kept_over p at (product_form p.sizes f g) x (product_names p f g a b) (product_pairs p.sizes f g (λ s d some. (a.over.pairs s d some).0) (λ s d some. (b.over.pairs s d some).0)) e in
        checked_gives p at x (subst (IsOver p) over.0 over.1)
    by (Err fault) e = nothing_given p fault

quotient_zero : (a b : Fraction) → a.num ≡ pos 0 → (quotient a b).num ≡ pos 0
quotient_zero a b h = ap (λ n. (n *ℤ pos b.den) *ℤ sign b.num) h ∙ ap (λ n. n *ℤ sign b.num) (zero-*ℤ (pos b.den)) ∙ zero-*ℤ (sign b.num)

quotient_over : (p : Place) (f : AffineForm) (a : Fraction) → IsOver p f → IsOver p (quotient_form f a)
quotient_over p f a over = record {
  names = λ v some. over.names v (before (f.coefficient v) some);
  pairs = λ s d some. over.pairs s d (before (f.paired s d) some);
}
  where
    before : (x : Fraction) → is_nonzero (quotient x a) ≡ true → is_nonzero x ≡ true
    before x some = elim (one_of_two x x (quotient x a) (λ h k. quotient_zero x a h) some) [ inl y ↦ y | inr y ↦ y ]

multiply_gives : (p : Place) (divide : Bool) (at : ℕ) (f g : AffineForm) → IsTidy p f → IsTidy p g → Gives p (multiply_forms p divide at f g)
multiply_gives p false at f g a b h e =
    product_gives p at f g a b h (if_err (may_multiply p.sizes f g) (then_form (kept p at (product_form p.sizes f g)) (λ x. placed at (checked_form p.sizes x))) h (NotAffine at) e).1
multiply_gives p true at f g a b h e =
    let first = else_ok (has_coefficient p.sizes g) (if is_nonzero g.constant then placed at (checked_form p.sizes (quotient_form f g.constant)) else Err (ConstFault at ZeroDivisor)) h (NotAffine at) e in
    let second = if_err (is_nonzero g.constant) (placed at (checked_form p.sizes (quotient_form f g.constant))) h (ConstFault at ZeroDivisor) first.1 in
    checked_gives p at (quotient_form f g.constant) (quotient_over p f g.constant a.over) h second.1

raise_gives : (p : Place) (exp at : ℕ) (f : AffineForm) → Gives p (raise_form p exp at f)
raise_gives p exp at f h e = by_coefficient (has_coefficient p.sizes f) refl
  where
    by_value : (r : Result Fraction NumErr) → has_coefficient p.sizes f ≡ false → checked (power f.constant exp) ≡ r → IsTidy p h
    by_value (Ok a) plain is = let here : raise_form p exp at f ≡ Ok (constant_form a) = rw (plain, is) refl in given p (constant_form a) (constant_tidy p a) h (sym here ∙ e)
    by_value (Err fault) plain is = let here : raise_form p exp at f ≡ Err (ConstFault at fault) = rw (plain, is) refl in nothing_given p (ConstFault at fault) h (sym here ∙ e)

    by_coefficient : (b : Bool) → has_coefficient p.sizes f ≡ b → IsTidy p h
    by_coefficient true is = let here : raise_form p exp at f ≡ Err (NotAffine at) = rw is refl in nothing_given p (NotAffine at) h (sym here ∙ e)
    by_coefficient false is = by_value (checked (power f.constant exp)) is refl

-- the forms of algebraic variables are tidy, as ones of equations
abbrev pub AreTidy : Sizes → (ℕ → AffineForm) → Type 0
AreTidy n forms = (v : ℕ) → IsTidy (record { sizes = n; in_equation = true }) (forms v)

module _ (c : Context) (n : ℕ) (tidy : AreTidy c.place.sizes c.forms) where
  variable_gives : (v at : ℕ) → Gives c.place (kept c.place at (variable_form c v))
  variable_gives v at = by (nat_lt v (c.place.sizes.states + c.place.sizes.discretes)) refl
    where
      below : (a b : ℕ) → nat_lt a b ≡ true → a < b
      below a b e = grind (arith, nat_tests)

      by : (b : Bool) → nat_lt v (c.place.sizes.states + c.place.sizes.discretes) ≡ b → Gives c.place (kept c.place at (if b then name_form v else c.forms v))
      by true e h k =
          let low : v < c.place.sizes.states + c.place.sizes.discretes = below v (c.place.sizes.states + c.place.sizes.discretes) e in
          kept_tidy c.place at (name_form v) h (name_tidy (record c.place { in_equation = true }) v (omega (arith, low), λ _. low)) k
      by false e h k = kept_tidy c.place at (c.forms v) h (tidy v) k

  mutual
    pub form_gives : (e : FlatExpression) → IsNumbered c.place n e → Gives c.place (form_of c e)
    form_gives (Constant a at) h = given c.place (constant_form a) (constant_tidy c.place a)
    form_gives (Variable v at) h = variable_gives v at
    form_gives (Previous v at) h =
        let low = h.1 in
        given c.place (name_form (v + c.place.sizes.discretes)) (name_tidy c.place (v + c.place.sizes.discretes) (omega (arith, low), λ is. absurd (let wrong : true ≡ false = sym is ∙ h.0 in cc wrong)))
    form_gives (Now at) h = λ x e. given c.place time_form (time_tidy c.place) x (else_ok c.place.in_equation (Ok time_form) x (TimeHere at) e).1
    form_gives (Sum ts) h = sum_gives (Ok (constant_form (whole (pos 0)))) ts (given c.place (constant_form (whole (pos 0))) (constant_tidy c.place (whole (pos 0)))) h
    form_gives (Product fs) h = factors_give (Ok (constant_form (whole (pos 1)))) fs (given c.place (constant_form (whole (pos 1))) (constant_tidy c.place (whole (pos 1)))) h
    form_gives (Power base exp at) h = then_gives c.place (form_of c base) (raise_form c.place exp at) (form_gives base h) (λ f tidy. raise_gives c.place exp at f)

    sum_gives : (total : Result AffineForm AffineErr) (ts : FlatTerms) → Gives c.place total → AreNumbered c.place n ts → Gives c.place (sum_form c total ts)
    sum_gives total no_terms g h = g
    sum_gives total (term minus at e rest) g h =
        let one = form_gives e h.0 in
        sum_gives (then_form total (λ f. then_form (form_of c e) (join_forms c.place minus at f))) rest
        (then_gives c.place total (λ f. then_form (form_of c e) (join_forms c.place minus at f)) g (λ f of_f. then_gives c.place (form_of c e) (join_forms c.place minus at f) one (λ x of_x. join_gives c.place minus at f x of_f of_x))) h.1

    factors_give : (total : Result AffineForm AffineErr) (fs : FlatFactors) → Gives c.place total → AreNumberedFactors c.place n fs → Gives c.place (product_of c total fs)
    factors_give total no_factors g h = g
    factors_give total (factor divide at e rest) g h =
        let one = form_gives e h.0 in
        factors_give (then_form total (λ f. then_form (form_of c e) (multiply_forms c.place divide at f))) rest
        (then_gives c.place total (λ f. then_form (form_of c e) (multiply_forms c.place divide at f)) g (λ f of_f. then_gives c.place (form_of c e) (multiply_forms c.place divide at f) one (λ x of_x. multiply_gives c.place divide at f x of_f of_x))) h.1

  -- the forms of conditions and statements
  pub condition_gives : (b : FlatBranchTree) → IsNumbered c.place n b.left → IsNumbered c.place n b.right → Gives c.place (condition_form c b)
  condition_gives b left right =
      then_gives c.place (form_of c b.left) (λ l. then_form (form_of c b.right) (λ r. placed b.at (checked_form c.place.sizes (combined difference l r)))) (form_gives b.left left) (λ l of_l.
      then_gives c.place (form_of c b.right) (λ r. placed b.at (checked_form c.place.sizes (combined difference l r))) (form_gives b.right right) (λ r of_r.
      checked_gives c.place b.at (combined difference l r) (combined_over c.place difference l r difference_zeros of_l.over of_r.over)))

  pub action_gives : (a : FlatAction) → IsNumberedAction c.place n a → Gives c.place (action_form c a)
  action_gives (Assign v e) h = form_gives e h
  action_gives (Restart v e) h = form_gives e h
