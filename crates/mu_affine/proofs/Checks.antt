-- When a form is in range, and when one of its numbers is not.
use Rattle.mu_affine.proofs.Common
use Common.{ℕ, ◌&&◌, ◌+◌, ◌<◌, ◌||◌, ◌∙◌, ◌≡◌, ◌≤◌, AffineForm, any_from, ap, arith, Bool}
use Common.{cases_Bool, cases_eq, checked, checked_form, Err, false, Fraction, fun_ext, inl, inr}
use Common.{is_small, IsName, IsPair, lowest, lowest_form, not, NumErr, Ok, Range, refl, Sizes, suc}
use Common.{true, zero}
use Rattle.mu_affine.specs.AffineForm.{is_in_range}
use Rattle.mu_affine.proofs.Fractions.{passed, failed}

-- a test that passes nowhere
pub any_from-none : (start count : ℕ) (test : ℕ → Bool) → ((k : ℕ) → start ≤ k → k < start + count → test k ≡ false) → any_from start count test ≡ false
unfolding any_from
any_from-none start zero test h = refl
any_from-none start (suc count) test h =
    rw (h start (omega arith) (omega arith)) (any_from-none (suc start) count test (λ k low high. h k (omega arith) (omega arith)))

-- a test that passes somewhere
pub any_from-some : (start count k : ℕ) (test : ℕ → Bool) → start ≤ k → k < start + count → test k ≡ true → any_from start count test ≡ true
unfolding any_from
any_from-some start zero k test low high h = absurd (omega arith)
any_from-some start (suc count) k test low high h =
    elim (cases_eq start k) [
      | inl same ↦ let here : test start ≡ true = ap test same ∙ h in rw here refl
      | inr other ↦
          let later : any_from (suc start) count test ≡ true = any_from-some (suc start) count k test (omega arith) (omega arith) h in
          rw later (or_true (test start))
    ]
  where
    or_true : (b : Bool) → (b || true) ≡ true
    or_true true = refl
    or_true false = refl

-- where a test passes, if it passes somewhere
pub any_from-at : (start count : ℕ) (test : ℕ → Bool) → any_from start count test ≡ true → (k : ℕ) × (start ≤ k) × (k < start + count) × (test k ≡ true)
unfolding any_from
any_from-at start zero test h = absurd (cc)
any_from-at start (suc count) test h =
    elim (cases_Bool (test start)) [
      | inl here ↦ (start, omega arith, omega arith, here)
      | inr not_here ↦
          let later : any_from (suc start) count test ≡ true = rw not_here at h in
          let found = any_from-at (suc start) count test later in
          (found.0, omega (arith, found.1), omega (arith, found.2), found.3)
    ]

-- every number of a form in lowest terms is in range, and another form has them
pub record PassesAs (f g : AffineForm) : Type 0 where
  pub names : (v : ℕ) → checked (f.coefficient v) ≡ Ok (g.coefficient v)
  pub pairs : (s d : ℕ) → checked (f.paired s d) ≡ Ok (g.paired s d)
  pub time : checked f.time ≡ Ok g.time
  pub constant : checked f.constant ≡ Ok g.constant

-- a number that is in range
not_large : (a r : Fraction) → checked a ≡ Ok r → not (is_small (lowest a)) ≡ false
not_large a r h = ap not (passed a r h).small

in_range : (n : Sizes) (f g : AffineForm) → PassesAs f g → is_in_range n f ≡ true
in_range n f g p =
    let names : any_from 0 (n.states + n.discretes + n.discretes) (λ v. not (is_small (lowest (f.coefficient v)))) ≡ false =
    any_from-none _ _ _ (λ v _ _. not_large (f.coefficient v) (g.coefficient v) (p.names v)) in
    let pairs : any_from 0 n.states (λ s. any_from n.states n.discretes (λ d. not (is_small (lowest (f.paired s d))))) ≡ false =
    any_from-none _ _ _ (λ s _ _. any_from-none _ _ _ (λ d _ _. not_large (f.paired s d) (g.paired s d) (p.pairs s d))) in
    rw (names, pairs, (passed f.time g.time p.time).small, (passed f.constant g.constant p.constant).small) refl

same_lowest : (f g : AffineForm) → PassesAs f g → lowest_form f ≡ g
same_lowest f g p =
    let names : (λ v. lowest (f.coefficient v)) ≡ g.coefficient = fun_ext (λ v. (passed (f.coefficient v) (g.coefficient v) (p.names v)).is) in
    let pairs : (λ s d. lowest (f.paired s d)) ≡ g.paired = fun_ext (λ s. fun_ext (λ d. (passed (f.paired s d) (g.paired s d) (p.pairs s d)).is)) in
    let time : lowest f.time ≡ g.time = (passed f.time g.time p.time).is in
    let constant : lowest f.constant ≡ g.constant = (passed f.constant g.constant p.constant).is in
    λ i. record { coefficient = names i; paired = pairs i; time = time i; constant = constant i }

-- such a form is checked to the other one
pub checked_form-passes : (n : Sizes) (f g : AffineForm) → PassesAs f g → checked_form n f ≡ Ok g
checked_form-passes n f g p = rw (in_range n f g p) (ap Ok (same_lowest f g p))

-- a form that is not in range
out_of_range : (n : Sizes) (f : AffineForm) (fault : NumErr) → is_in_range n f ≡ false → fault ≡ Range → checked_form n f ≡ Err fault
out_of_range n f fault h is = rw (h, is) refl

large_here : (a : Fraction) (fault : NumErr) → checked a ≡ Err fault → not (is_small (lowest a)) ≡ true
large_here a fault h = ap not (failed a fault h).large

-- a test that is joined with one that fails
pub and_false : (a : Bool) → (a && false) ≡ false
and_false true = refl
and_false false = refl

-- a name whose number is not in range
pub name_fails : (n : Sizes) (f : AffineForm) (v : ℕ) (fault : NumErr) → IsName n v → checked (f.coefficient v) ≡ Err fault → checked_form n f ≡ Err fault
name_fails n f v fault within h =
    let large : any_from 0 (n.states + n.discretes + n.discretes) (λ v. not (is_small (lowest (f.coefficient v)))) ≡ true =
    any_from-some 0 _ v _ (omega arith) (omega arith) (large_here (f.coefficient v) fault h) in
    out_of_range n f fault (rw large refl) (failed (f.coefficient v) fault h).is

-- a pair whose number is not in range
pub pair_fails : (n : Sizes) (f : AffineForm) (s d : ℕ) (fault : NumErr) → IsPair n s d → checked (f.paired s d) ≡ Err fault → checked_form n f ≡ Err fault
pair_fails n f s d fault within h =
    let row : any_from n.states n.discretes (λ d. not (is_small (lowest (f.paired s d)))) ≡ true =
    any_from-some n.states n.discretes d _ within.1 within.2 (large_here (f.paired s d) fault h) in
    let large : any_from 0 n.states (λ s. any_from n.states n.discretes (λ d. not (is_small (lowest (f.paired s d))))) ≡ true =
    any_from-some 0 n.states s _ (omega arith) (omega arith) row in
    out_of_range n f fault (rw (large, and_false) refl) (failed (f.paired s d) fault h).is

-- a time coefficient that is not in range
pub time_fails : (n : Sizes) (f : AffineForm) (fault : NumErr) → checked f.time ≡ Err fault → checked_form n f ≡ Err fault
time_fails n f fault h =
    let t = failed f.time fault h in
    out_of_range n f fault (rw (t.large, and_false) refl) t.is

-- a constant that is not in range
pub constant_fails : (n : Sizes) (f : AffineForm) (fault : NumErr) → checked f.constant ≡ Err fault → checked_form n f ≡ Err fault
constant_fails n f fault h =
    let t = failed f.constant fault h in
    out_of_range n f fault (rw (t.large, and_false) refl) t.is
