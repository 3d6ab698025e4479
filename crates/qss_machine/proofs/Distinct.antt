-- A variable has at most one entry of rising ones.
use Rattle.qss_machine.proofs.Common
use Common.{+ℤ_idl, +ℤ_idr, [], ℕ, ℤ, ◌+ℤ◌, ◌<◌, ◌==◌, ◌∙◌, ◌∷◌, ◌≡◌, ◌≢◌, ◌⊎◌, abs_of, add-one}
use Common.{All, All-head, All-tail, ap, arith, Bool, cases_eq, coefficient_of, Entry, eqb-no}
use Common.{eqb-yes, false, get_or, get_or-map, if-false, if-true, if◌then◌else◌, inl, inr, ints}
use Common.{IsStrictlyIncreasing, IsWithin, length, length-map, List, map, pos, refl, slice_index}
use Common.{suc, sum_over, sym, true, zero}
use Rattle.mu_num.proofs.RisingNumbers.{rising_rest}

-- the first is below each later one
head_below : (x : ℕ) (xs : List ℕ) → IsStrictlyIncreasing (x ∷ xs) → (k : ℕ) → k < length xs → x < slice_index xs k
head_below x xs h zero within = h 0 (omega (arith, within))
head_below x xs h (suc k) within =
    let next : get_or xs k 0 < get_or xs (suc k) 0 = rw add-one at (h (suc k) (rw add-one (omega (arith, within)))) in
    omega (arith, next, head_below x xs h k (omega arith))

pub none_at : (entries : List Entry) (var : ℕ) → All (λ entry. entry.var ≢ var) entries → coefficient_of entries var ≡ pos 0
none_at [] var h = refl
none_at (entry ∷ entries) var h =
    ap (λ z. z +ℤ coefficient_of entries var) (if-false (entry.var == var) entry.coef (pos 0) (eqb-no entry.var var (All-head (λ (entry : Entry). entry.var ≢ var) entry entries h)))
    ∙ +ℤ_idl (coefficient_of entries var) ∙ none_at entries var (All-tail (λ (entry : Entry). entry.var ≢ var) entry entries h)

-- after a rising list's first entry its variable does not come again
rest_differs : (entry : Entry) (entries : List Entry) → IsStrictlyIncreasing (map (λ (entry : Entry). entry.var) (entry ∷ entries)) →
    All (λ (other : Entry). other.var ≢ entry.var) entries
rest_differs entry entries h k d within =
    let vars = map (λ (entry : Entry). entry.var) entries in
    let inside : k < length vars = rw (length-map entries (λ (entry : Entry). entry.var)) within in
    let below : entry.var < (get_or entries k d).var = rw (get_or-map (λ (entry : Entry). entry.var) entries k d 0 within) at (head_below entry.var vars h k inside) in
    λ e. omega (arith, below, e)

-- the entry of a variable is its coefficient
pub coefficient_at : (entries : List Entry) (var k : ℕ) (d : Entry) → IsStrictlyIncreasing (map (λ (entry : Entry). entry.var) entries) →
    k < length entries → (get_or entries k d).var ≡ var → coefficient_of entries var ≡ (get_or entries k d).coef
coefficient_at [] var k d rising within same = absurd (omega arith)
coefficient_at (entry ∷ entries) var zero d rising within same =
    let none : coefficient_of entries var ≡ pos 0 = none_at entries var (λ k d within. λ e. rest_differs entry entries rising k d within (e ∙ sym same)) in
    ap (λ z. z +ℤ coefficient_of entries var) (if-true (entry.var == var) entry.coef (pos 0) (eqb-yes entry.var var same)) ∙ ap (λ z. entry.coef +ℤ z) none ∙ +ℤ_idr entry.coef
coefficient_at (entry ∷ entries) var (suc k) d rising within same =
    let inside : k < length entries = omega (arith, within) in
    let other : entry.var ≢ var = λ e. rest_differs entry entries rising k d inside (same ∙ sym e) in
    ap (λ z. z +ℤ coefficient_of entries var) (if-false (entry.var == var) entry.coef (pos 0) (eqb-no entry.var var other)) ∙ +ℤ_idl (coefficient_of entries var)
    ∙ coefficient_at entries var k d (rising_rest entry.var (map (λ (entry : Entry). entry.var) entries) rising) inside same

pub coefficient_small : (entries : List Entry) (var : ℕ) → IsStrictlyIncreasing (map (λ (entry : Entry). entry.var) entries) →
    All (λ entry. IsWithin 44 entry.coef) entries → IsWithin 44 (coefficient_of entries var)
coefficient_small [] var rising small = omega arith
coefficient_small (entry ∷ entries) var rising small =
    elim (cases_eq entry.var var) [
      | inl same ↦
          let none : coefficient_of entries var ≡ pos 0 = none_at entries var (λ k d within. λ e. rest_differs entry entries rising k d within (e ∙ sym same)) in
          let own : coefficient_of (entry ∷ entries) var ≡ entry.coef =
          ap (λ z. z +ℤ coefficient_of entries var) (if-true (entry.var == var) entry.coef (pos 0) (eqb-yes entry.var var same)) ∙ ap (λ z. entry.coef +ℤ z) none ∙ +ℤ_idr entry.coef in
          rw own (All-head (λ (entry : Entry). IsWithin 44 entry.coef) entry entries small)
      | inr other ↦
          let rest : coefficient_of (entry ∷ entries) var ≡ coefficient_of entries var =
          ap (λ z. z +ℤ coefficient_of entries var) (if-false (entry.var == var) entry.coef (pos 0) (eqb-no entry.var var other)) ∙ +ℤ_idl (coefficient_of entries var) in
          rw rest (coefficient_small entries var (rising_rest entry.var (map (λ (entry : Entry). entry.var) entries) rising) (All-tail (λ (entry : Entry). IsWithin 44 entry.coef) entry entries small))
    ]

-- an entry without its sign
abbrev pub plain : Entry → Entry
plain entry = record { var = entry.var; coef = abs_of entry.coef }

plain_own : (entry : Entry) (var : ℕ) → (if entry.var == var then abs_of entry.coef else pos 0) ≡ abs_of (if entry.var == var then entry.coef else pos 0)
plain_own entry var = by_case (entry.var == var)
  where
    by_case : (b : Bool) → (if b then abs_of entry.coef else pos 0) ≡ abs_of (if b then entry.coef else pos 0)
    by_case true = refl
    by_case false = refl

-- where the entries rise, the size of a coefficient is that of the one entry
pub coefficient_size : (entries : List Entry) (var : ℕ) → IsStrictlyIncreasing (map (λ (entry : Entry). entry.var) entries) →
    sum_over (λ (entry : Entry). if entry.var == var then abs_of entry.coef else pos 0) entries ≡ abs_of (coefficient_of entries var)
coefficient_size [] var rising = refl
coefficient_size (entry ∷ entries) var rising =
    let rest = coefficient_size entries var (rising_rest entry.var (map (λ (entry : Entry). entry.var) entries) rising) in
    ap (λ z. z +ℤ sum_over (λ (entry : Entry). if entry.var == var then abs_of entry.coef else pos 0) entries) (plain_own entry var)
    ∙ ap (λ z. abs_of (if entry.var == var then entry.coef else pos 0) +ℤ z) rest
    ∙ elim (cases_eq entry.var var) [
      | inl same ↦ one_zero (if entry.var == var then entry.coef else pos 0) (coefficient_of entries var)
          (inr (none_at entries var (λ k d within. λ e. rest_differs entry entries rising k d within (e ∙ sym same))))
      | inr other ↦ one_zero (if entry.var == var then entry.coef else pos 0) (coefficient_of entries var)
          (inl (if-false (entry.var == var) entry.coef (pos 0) (eqb-no entry.var var other)))
    ]
  where
    one_zero : (a b : ℤ) → (a ≡ pos 0) ⊎ (b ≡ pos 0) → abs_of a +ℤ abs_of b ≡ abs_of (a +ℤ b)
    one_zero a b (inl e) = omega (arith, ints)
    one_zero a b (inr e) = omega (arith, ints)
