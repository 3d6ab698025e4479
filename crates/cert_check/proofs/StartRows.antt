-- Sums over the rows of a machine at the start values of discrete variables.
use Rattle.cert_check.proofs.Common
use Common.{*ℤ-zero, [], ℕ, ℤ, ◌*ℤ◌, ◌*◌, ◌++◌, ◌+ℤ◌, ◌+◌, ◌-◌, ◌<◌, ◌^◌, ◌∙◌, ◌≡◌, ◌≤◌, ap, arith}
use Common.{constant_part, discrete_count, Entry, fits_below, get_or, get_or-append_right}
use Common.{get_or-replicate, get_or_append_left, get_or_default, int_at, ints, IsRow, length}
use Common.{length-append, length-replicate, List, Machine, mul-le-mul_right, of_z, pos, replicate}
use Common.{row_at, SlopeRow, start_discretes, state_count, sum_below, sum_below-same}
use Common.{sum_below-zero, sum_over, sym, take, to_z}
use Rattle.std.proofs.Math.IntN.{+ℤ_idl, +ℤ_idr}
use Rattle.std.proofs.lemmas.Int.{to_z-of_z}
use Rattle.std.specs.Int.RustNames.{unsigned_abs, FitsSigned}
use Rattle.mu_num.proofs.Sums.{sum_below-split, sum_over_more}
use Rattle.qss_machine.specs.Slopes.{coefficient_of}
use Rattle.qss_machine.proofs.Few.{entries_few, products_few}
use Rattle.qss_machine.proofs.SumLaws.{weighted_sum-entries}
use mir.Syntax.{w128}

-- ---- partial sums

-- the next partial sum of at most n terms of size b fits
pub next-fits : (s t : ℤ) (i n b : ℕ) → unsigned_abs s ≤ i * b → unsigned_abs t ≤ b → i < n →
    n * b < 2 ^ 127 → FitsSigned w128 (s +ℤ to_z w128 (of_z w128 t))
next-fits s t i n b bound small within room =
    let more : (i + 1) * b ≤ n * b = mul-le-mul_right b (omega arith) in
    let total : unsigned_abs (s +ℤ t) ≤ (i + 1) * b = omega (arith, ints) in
    let one : unsigned_abs t ≤ (i + 1) * b = omega arith in
    let own : FitsSigned w128 t = fits_below t (omega arith) in
    rw (to_z-of_z w128 t own) (fits_below (s +ℤ t) (omega arith))

-- a term 0 is skipped
pub sum-skips : {X : Type 0} (f : X → ℤ) (xs : List X) (i : ℕ) (d : X) (s : ℤ) →
    s ≡ sum_over f (take i xs) → f (get_or xs i d) ≡ pos 0 → i < length xs →
    s ≡ sum_over f (take (i + 1) xs)
sum-skips f xs i d s so_far zero within =
    let sum : ℤ = sum_over f (take i xs) in
    so_far ∙ sym (sum_over_more f xs i d within ∙ ap (λ z. sum +ℤ z) zero ∙ +ℤ_idr sum)

-- ---- entries, where levels are 0

-- the value of a variable: 0 for a state, and the start value of a discrete variable
abbrev pub value_of : Machine → ℕ → ℤ
value_of m var = int_at (replicate (state_count m) (pos 0) ++ start_discretes m) var

-- the value of a variable times its coefficient
abbrev pub term_of : Machine → Entry → ℤ
term_of m entry = entry.coef *ℤ value_of m entry.var

pub state-value : (m : Machine) (var : ℕ) → var < state_count m → value_of m var ≡ pos 0
state-value m var h =
    let n = state_count m in
    let zeros : List ℤ = replicate n (pos 0) in
    let inside : var < length zeros = omega (arith, h, length-replicate n (pos 0)) in
    get_or_append_left zeros (start_discretes m) (pos 0) var inside
    ∙ get_or-replicate n var (pos 0) (pos 0) h

pub discrete-value : (m : Machine) (var : ℕ) → state_count m ≤ var →
    value_of m var ≡ int_at (start_discretes m) (var - state_count m)
discrete-value m var h =
    let n = state_count m in
    get_or-append_right (replicate n (pos 0)) (start_discretes m) n var (pos 0)
    (length-replicate n (pos 0)) h

-- the entries and the constant
pub constant-is : (m : Machine) (row : SlopeRow) →
    sum_over (term_of m) row.entries +ℤ row.beta ≡
    constant_part (state_count m) row (start_discretes m)
constant-is m row =
    let n = state_count m in
    let starts : List ℤ = start_discretes m in
    let zeros : List ℤ = replicate n (pos 0) in
    let c = λ (v : ℕ). coefficient_of row.entries v in
    let f = λ (v : ℕ). c v *ℤ value_of m v in
    let g = λ (k : ℕ). c (n + k) *ℤ int_at starts k in
    let rest : ℤ = sum_below (length starts) (λ k. f (n + k)) in
    let many : length (zeros ++ starts) ≡ n + length starts =
    length-append zeros starts ∙ ap (λ k. k + length starts) (length-replicate n (pos 0)) in
    let none = sum_below-same n f (λ i. pos 0)
    (λ i h. ap (λ z. c i *ℤ z) (state-value m i h) ∙ *ℤ-zero (c i)) in
    let some : rest ≡ sum_below (length starts) g =
    sum_below-same (length starts) (λ k. f (n + k)) g
    (λ k h. ap (λ z. c (n + k) *ℤ z) (at-start k)) in
    ap (λ z. z +ℤ row.beta)
    (sym (weighted_sum-entries row.entries (zeros ++ starts)) ∙ ap (λ k. sum_below k f) many
    ∙ sum_below-split n (length starts) f ∙ ap (λ z. z +ℤ rest) (none ∙ sum_below-zero n)
    ∙ +ℤ_idl rest ∙ some)
  where
    at-start : (k : ℕ) → value_of m (state_count m + k) ≡ int_at (start_discretes m) k
    at-start k =
        let there : state_count m + k - state_count m ≡ k = omega arith in
        discrete-value m (state_count m + k) (omega arith) ∙ ap (int_at (start_discretes m)) there

-- ---- rows

-- an item of the rows is the row of its state
pub row-is : (m : Machine) (rows : List SlopeRow) (j : ℕ) (row : SlopeRow) → rows ≡ m.rows →
    j < state_count m → row ≡ get_or rows j row → row ≡ row_at m j
row-is m rows j row same h is =
    let none : SlopeRow = record { entries = []; products = []; beta = pos 0 } in
    is ∙ ap (λ (rs : List SlopeRow). get_or rs j row) same
    ∙ get_or_default m.rows j row none (omega (arith, h, m.has_rows.one_each))

-- the number of terms of a row
pub few-entries : (m : Machine) (row : SlopeRow) → IsRow (state_count m) (discrete_count m) row →
    length row.entries ≤ 4096
few-entries m row h =
    let few = entries_few (state_count m + discrete_count m) row.entries h.entries in
    omega (arith, few, m.has_variables.few)

pub few-products : (m : Machine) (row : SlopeRow) → IsRow (state_count m) (discrete_count m) row →
    length row.products ≤ 2 ^ 24
few-products m row h =
    products_few (state_count m) (discrete_count m) row.products h.products m.has_variables.few
