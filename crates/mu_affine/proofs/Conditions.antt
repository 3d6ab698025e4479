-- The form of a condition: a sum that begins with the left side, from which the right side is taken.
use Rattle.mu_affine.proofs.Common
use Common.{ℕ, ◌∙◌, ◌≡◌, AffineErr, AffineForm, ap, AreReduced, arith, checked, combined}
use Common.{constant_form, Err, ExactForm, false, form_meaning, Fraction, IsFinished, IsReduced}
use Common.{join_forms, joined, map, named, nat_cmp, none, Ok, pair_cmp, paired, Place, refl, sum}
use Common.{sym}
use Rattle.mu_affine.specs.FormParts.{placed}
use Rattle.mu_affine.proofs.Fractions.{checked_same, checked-reduced, lowest-zero_sum}
use Rattle.mu_affine.proofs.Checks.{PassesAs, checked_form-passes}
use Rattle.mu_affine.proofs.Sums.{AreReduced-finished}

-- what joins 0 is checked to itself
zero_joins : (a : Fraction) → IsReduced a → checked (sum none a) ≡ Ok a
zero_joins a h = checked_same (sum none a) a (lowest-zero_sum none a refl (omega arith) h.positive) ∙ checked-reduced a h

-- a finished form joins a sum of no forms as it is
pub joins_nothing : (p : Place) (at : ℕ) (f : ExactForm) → IsFinished p f → IsReduced f.constant → join_forms p false at (constant_form none) (form_meaning f) ≡ Ok (form_meaning f)
joins_nothing p at f h constant =
    let names : AreReduced nat_cmp (map named f.entries) = AreReduced-finished nat_cmp (map named f.entries) h.canonical.names.each in
    let pairs : AreReduced pair_cmp (map paired f.products) = AreReduced-finished pair_cmp (map paired f.products) h.canonical.pairs.each in
    let passes : PassesAs (combined (joined false) (constant_form none) (form_meaning f)) (form_meaning f) =
    record { names = λ v. zero_joins _ (names v); pairs = λ s d. zero_joins _ (pairs (s, d)); time = zero_joins f.time h.canonical.time; constant = zero_joins f.constant constant } in
    ap (placed at) (checked_form-passes p.sizes (combined (joined false) (constant_form none) (form_meaning f)) (form_meaning f) passes)

-- what joins a sum of no forms first is the sum
pub sum_begins : (p : Place) (at : ℕ) (f : ExactForm) (empty new : AffineForm) → IsFinished p f → IsReduced f.constant → empty ≡ constant_form none → join_forms p false at empty (form_meaning f) ≡ Ok new → new ≡ form_meaning f
sum_begins p at f empty new h constant is joins =
    let same : Ok (form_meaning f) ≡ Ok new = sym (joins_nothing p at f h constant) ∙ sym (ap (λ (e : AffineForm). join_forms p false at e (form_meaning f)) is) ∙ joins in
    cc

-- and it can't fail
pub never_fails : (p : Place) (at : ℕ) (f : ExactForm) (empty : AffineForm) (fault : AffineErr) → IsFinished p f → IsReduced f.constant → empty ≡ constant_form none → join_forms p false at empty (form_meaning f) ≡ Err fault → ⊥
never_fails p at f empty fault h constant is fails =
    let both : Ok (form_meaning f) ≡ Err fault = sym (joins_nothing p at f h constant) ∙ sym (ap (λ (e : AffineForm). join_forms p false at e (form_meaning f)) is) ∙ fails in
    cc
