-- Forms that fit come back from their bits.
use Rattle.mu_affine.proofs.Common
use Common.{[], ℕ, ℤ, ◌&&◌, ◌+◌, ◌^◌, ◌∙◌, ◌∷◌, ◌≡◌, ◌≤◌, and_from, and_parts, ap, arith, Bool}
use Common.{Entry, ExactForm, exceeds, false, form_fits, leb-true, List, list_all, nat_le, not}
use Common.{of_z, refl, rounded, rounded_entries, rounded_form, sum_by, sum_by-cons, to_z, true}
use Common.{unsigned_abs, w128, w64}
use Rattle.mu_num.proofs.SizeTests.{within-passes}
use Rattle.mu_affine.proofs.KeptNumbers.{cast_small}

small_number : (z : ℤ) → unsigned_abs z ≤ 2 ^ 44 → not (exceeds 44 z) ≡ true
small_number z h = ap not (within-passes 44 z h)

-- coefficients whose sizes add up to little are small
small_entries : (es : List Entry) → sum_by (λ (e : Entry). unsigned_abs e.coef) es ≤ 2 ^ 44 → list_all (λ (e : Entry). not (exceeds 44 e.coef)) es ≡ true
small_entries [] h = refl
small_entries (e ∷ es) h =
    let sum = sum_by-cons (λ (e : Entry). unsigned_abs e.coef) e es in
    and_from (not (exceeds 44 e.coef)) (list_all (λ (e : Entry). not (exceeds 44 e.coef)) es) (small_number e.coef (omega (arith, sum))) (small_entries es (omega (arith, sum)))

-- so a form with a large one does not fit
pub unfit_entries : (es : List Entry) (time gamma : ℤ) → list_all (λ (e : Entry). not (exceeds 44 e.coef)) es ≡ false → form_fits (record { entries = es; time = time; gamma = gamma }) ≡ false
unfit_entries es time gamma large = by_case (nat_le (sum_by (λ (e : Entry). unsigned_abs e.coef) es + unsigned_abs time) (2 ^ 38)) refl
  where
    by_case : (b : Bool) → nat_le (sum_by (λ (e : Entry). unsigned_abs e.coef) es + unsigned_abs time) (2 ^ 38) ≡ b → (b && not (exceeds 78 gamma)) ≡ false
    by_case false e = refl
    by_case true e =
        let le = leb-true (sum_by (λ (e : Entry). unsigned_abs e.coef) es + unsigned_abs time) (2 ^ 38) e in
        absurd (let small = small_entries es (omega (arith, le)) in cc)

small_time : (es : List Entry) (time gamma : ℤ) → form_fits (record { entries = es; time = time; gamma = gamma }) ≡ true → exceeds 44 time ≡ false
small_time es time gamma fits =
    let sum = sum_by (λ (e : Entry). unsigned_abs e.coef) es in
    let both = and_parts (nat_le (sum + unsigned_abs time) (2 ^ 38)) (not (exceeds 78 gamma)) fits in
    let le = leb-true (sum + unsigned_abs time) (2 ^ 38) both.0 in
    within-passes 44 time (omega (arith, le))

-- what the code makes of rounded numbers that fit
pub form_made : (p f : ℕ) (form : ExactForm) (es all : List Entry) (time gamma t g : ℤ) → all ≡ es → es ≡ rounded_entries p form.entries → time ≡ rounded p form.time → gamma ≡ rounded (f + p) form.constant →
    t ≡ to_z w64 (of_z w64 (to_z w128 (of_z w128 time))) → g ≡ gamma → form_fits (record { entries = es; time = time; gamma = gamma }) ≡ true →
    (record { entries = all; time = t; gamma = g } ≡ rounded_form p f form) × (form_fits (record { entries = all; time = t; gamma = g }) ≡ true)
form_made p f form es all time gamma t g same entries own constant cast kept fits =
    let back : t ≡ time = cast ∙ cast_small time (small_time es time gamma fits) in
    let known : record { entries = all; time = t; gamma = g } ≡ record { entries = es; time = time; gamma = gamma } =
    ap (λ (xs : List Entry). record { entries = xs; time = t; gamma = g }) same
    ∙ ap (λ (z : ℤ). record { entries = es; time = z; gamma = g }) back
    ∙ ap (λ (z : ℤ). record { entries = es; time = time; gamma = z }) kept in (
      known
          ∙ ap (λ (xs : List Entry). record { entries = xs; time = time; gamma = gamma }) entries
          ∙ ap (λ (z : ℤ). record { entries = rounded_entries p form.entries; time = z; gamma = gamma }) own
          ∙ ap (λ (z : ℤ). record { entries = rounded_entries p form.entries; time = rounded p form.time; gamma = z }) constant,
      ap form_fits known ∙ fits,
    )
