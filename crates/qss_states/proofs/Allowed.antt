-- A row that allows a bound exceeds no limit up to it.
use Rattle.qss_states.proofs.Common
use Common.{[], ℕ, ℤ, ◌*ℤ◌, ◌*◌, ◌++◌, ◌+ℤ◌, ◌+◌, ◌-ℤ◌, ◌-◌, ◌<◌, ◌==◌, ◌^◌, ◌||◌, ◌∙◌, ◌∷◌, ◌≡◌}
use Common.{◌≤◌, abs_of, add-mul, All, AllowsBound, ap, arith, Bool, cases_lt, discrete_count}
use Common.{Entry, exceeds, excess, false, get_or, half_limit, if◌then◌else◌, inl, inr, int_at}
use Common.{ints, IsRow, IsSafeBound, IsUpTo, length, length-map, List, Machine, mode_coefficient}
use Common.{mode_fits, mul-le, nat_tests, not, pos, Product, refl, SlopeRow, Some, state_count}
use Common.{subst, sum_by, sum_by-cons, sym, true, unsigned_abs}
use Rattle.std.proofs.Common.{◌≤ℤ◌, map}
use Rattle.std.proofs.Math.IntN.{pos-*ℤ-pos, zero-*ℤ, *ℤ_comm}
use Rattle.mu_num.specs.IndexedSums.{sum_over, sum_below}
use Rattle.std.proofs.lemmas.Int.{unsigned_abs-mul}
use Rattle.std.proofs.Math.ListN.{get_or-map}
use Rattle.std.proofs.lemmas.Nat.{div-add-mod', mod_below}
use Rattle.mu_num.proofs.Integers.{mul-sub, mul-nonneg}
use Rattle.mu_num.proofs.Quotients.{nearest_meets}
use Rattle.mu_num.specs.Rounding.{nearest_of}
use Rattle.qss_machine.proofs.ModeTests.{fits_true}
use Rattle.qss_machine.proofs.Powers.{power_positive}
use Rattle.qss_machine.proofs.SumLaws.{weighted_sum-entries}
use Rattle.qss_machine.proofs.WeightLaws.{sizes_sum-entries, weight_parts, slope-within_weight}
use Rattle.qss_machine.specs.Slopes.{coefficient_of, products_of, weight_of}
use Rattle.qss_states.specs.SafeBounds.{IsSafe, IsFirstHalf}
use Rattle.std.proofs.lemmas.List.{get_or_append_left, get_or-append-add, get_or_past}
use Rattle.mu_num.proofs.Sums.{sum_below-le}

-- a number of a list that is up to a bound, and 0 past the end
up_to_at : (bound : ℕ) (xs : List ℤ) → All (IsUpTo bound) xs → (i : ℕ) → IsUpTo bound (int_at xs i)
up_to_at bound xs small i =
    elim (cases_lt i (length xs)) [
      | inl below ↦ small i (pos 0) below
      | inr past ↦ (let none : int_at xs i ≡ pos 0 = get_or_past xs i (pos 0) past in subst (IsUpTo bound) (sym none) (omega arith))
    ]

-- a number of two lists one after the other
up_to_both : (bound : ℕ) (xs ys : List ℤ) → All (IsUpTo bound) xs → All (IsUpTo bound) ys → (i : ℕ) → IsUpTo bound (int_at (xs ++ ys) i)
up_to_both bound xs ys first second i =
    elim (cases_lt i (length xs)) [
      | inl below ↦ subst (IsUpTo bound) (sym (get_or_append_left xs ys (pos 0) i below)) (up_to_at bound xs first i)
      | inr past ↦
          let there : length xs + (i - length xs) ≡ i = omega (arith, past) in
          subst (λ (k : ℕ). IsUpTo bound (int_at (xs ++ ys) k)) there
          (subst (IsUpTo bound) (sym (get_or-append-add xs ys (i - length xs) (pos 0))) (up_to_at bound ys second (i - length xs)))
    ]

-- sizes added up as whole numbers
sizes_are : (entries : List Entry) → sum_over (λ (entry : Entry). abs_of entry.coef) entries ≡ pos (sum_by (λ (entry : Entry). unsigned_abs entry.coef) entries)
sizes_are [] = refl
sizes_are (entry ∷ entries) = omega (arith, ints, sizes_are entries, sum_by-cons (λ (other : Entry). unsigned_abs other.coef) entry entries)

-- each coefficient times its variable's value, of values up to a bound
terms_within : (bound : ℕ) (values : List ℤ) → ((i : ℕ) → IsUpTo bound (int_at values i)) → (entries : List Entry) →
    (pos 0 ≤ℤ sum_over (λ (entry : Entry). abs_of (entry.coef *ℤ int_at values entry.var)) entries)
    × (sum_over (λ (entry : Entry). abs_of (entry.coef *ℤ int_at values entry.var)) entries ≤ℤ (sum_over (λ (entry : Entry). abs_of entry.coef) entries *ℤ pos bound))
terms_within bound values small [] = (omega (arith, ints), omega (arith, ints, zero-*ℤ (pos bound)))
terms_within bound values small (entry ∷ entries) =
    let rest = terms_within bound values small entries in
    let value : ℤ = int_at values entry.var in
    let own : unsigned_abs (entry.coef *ℤ value) ≤ unsigned_abs entry.coef * bound =
    omega (arith, unsigned_abs-mul entry.coef value, mul-le (unsigned_abs entry.coef) (unsigned_abs value) (unsigned_abs entry.coef) bound (omega arith) (small entry.var)) in
    let here = pos-*ℤ-pos (unsigned_abs entry.coef) bound in
    let both = add-mul (abs_of entry.coef) (sum_over (λ (other : Entry). abs_of other.coef) entries) (pos bound) in
    (omega (arith, ints, rest.0), omega (arith, ints, rest.1, own, here, both))

-- a product's excess as an entry of its state
abbrev as_entry : ℕ → ℕ → Product → Entry
as_entry bits bound product = record { var = product.state; coef = pos (excess bits bound product) }

-- ---- sums

-- one coefficient of many is at most all of them in absolute value
coefficient_within : (entries : List Entry) (var : ℕ) → abs_of (coefficient_of entries var) ≤ℤ sum_over (λ (entry : Entry). abs_of entry.coef) entries
coefficient_within [] var = omega (arith, ints)
coefficient_within (entry ∷ entries) var = by_own (entry.var == var) (coefficient_within entries var)
  where
    by_own : (b : Bool) → abs_of (coefficient_of entries var) ≤ℤ sum_over (λ (other : Entry). abs_of other.coef) entries →
        abs_of ((if b then entry.coef else pos 0) +ℤ coefficient_of entries var) ≤ℤ (abs_of entry.coef +ℤ sum_over (λ (other : Entry). abs_of other.coef) entries)
    by_own true h = omega (arith, ints, h)
    by_own false h = omega (arith, ints, h)

-- a sum of lesser terms
-- a lesser number times a size
times_size : (a b : ℤ) (k : ℕ) → a ≤ℤ b → (a *ℤ pos k) ≤ℤ (b *ℤ pos k)
times_size a b k le = omega (arith, ints, mul-nonneg k (b -ℤ a) (omega (arith, ints, le)), mul-sub (pos k) b a, *ℤ_comm a (pos k), *ℤ_comm b (pos k))

-- ---- excesses

excesses_are : (bits bound : ℕ) (products : List Product) → sum_over (λ (entry : Entry). abs_of entry.coef) (map (as_entry bits bound) products) ≡ pos (sum_by (excess bits bound) products)
excesses_are bits bound [] = refl
excesses_are bits bound (product ∷ products) = omega (arith, ints, excesses_are bits bound products, sum_by-cons (excess bits bound) product products)

excess_nonneg : (bits bound : ℕ) (products : List Product) (state : ℕ) → pos 0 ≤ℤ coefficient_of (map (as_entry bits bound) products) state
excess_nonneg bits bound [] state = omega (arith, ints)
excess_nonneg bits bound (product ∷ products) state = by_own (product.state == state) (excess_nonneg bits bound products state)
  where
    by_own : (b : Bool) → pos 0 ≤ℤ coefficient_of (map (as_entry bits bound) products) state →
        pos 0 ≤ℤ ((if b then pos (excess bits bound product) else pos 0) +ℤ coefficient_of (map (as_entry bits bound) products) state)
    by_own true h = omega (arith, ints, h)
    by_own false h = omega (arith, ints, h)

-- a product times a value up to the bound is at most its excess of whole coefficients
term_within : (bits bound : ℕ) (product : Product) (value : ℤ) → IsUpTo bound value → abs_of (product.coef *ℤ value) ≤ℤ (pos (excess bits bound product) *ℤ pos (2 ^ bits))
term_within bits bound product value small =
    let all : ℕ = unsigned_abs product.coef * bound in
    let at_most = mul-le (unsigned_abs product.coef) (unsigned_abs value) (unsigned_abs product.coef) bound (omega arith) small in
    let some : 0 < 2 ^ bits = omega (arith, ints, power_positive bits) in
    omega (
      arith,
      ints,
      unsigned_abs-mul product.coef value,
      at_most,
      div-add-mod' all (2 ^ bits),
      mod_below all (2 ^ bits) some,
      pos-*ℤ-pos (excess bits bound product) (2 ^ bits),
    )

-- a state's products are at most its excesses of whole coefficients
products_within : (bits bound first : ℕ) (discretes : List ℤ) → ((g : ℕ) → IsUpTo bound (int_at discretes g)) → (products : List Product) (state : ℕ) →
    abs_of (products_of products first discretes state) ≤ℤ (coefficient_of (map (as_entry bits bound) products) state *ℤ pos (2 ^ bits))
products_within bits bound first discretes small [] state = omega (arith, ints, zero-*ℤ (pos (2 ^ bits)))
products_within bits bound first discretes small (product ∷ products) state =
    by_own (product.state == state) (product.coef *ℤ int_at discretes (product.discrete - first)) (products_of products first discretes state) (pos (excess bits bound product))
    (coefficient_of (map (as_entry bits bound) products) state) (pos (2 ^ bits)) (term_within bits bound product (int_at discretes (product.discrete - first)) (small (product.discrete - first)))
    (products_within bits bound first discretes small products state)
  where
    by_own : (b : Bool) (term rest own others unit : ℤ) → abs_of term ≤ℤ (own *ℤ unit) → abs_of rest ≤ℤ (others *ℤ unit) →
        abs_of ((if b then term else pos 0) +ℤ rest) ≤ℤ (((if b then own else pos 0) +ℤ others) *ℤ unit)
    by_own true term rest own others unit h k = omega (arith, ints, h, k, add-mul own others unit)
    by_own false term rest own others unit h k = omega (arith, ints, k, add-mul (pos 0) others unit, zero-*ℤ unit)

-- a number of at most `count` units rounds to at most `count`
nearest_within : (z : ℤ) (unit count : ℕ) → 0 < unit → unsigned_abs z ≤ count * unit → unsigned_abs (nearest_of z (pos unit)) ≤ count
nearest_within z unit count some small =
    let q : ℤ = nearest_of z (pos unit) in
    let near = (nearest_meets z (pos unit) (omega (arith, ints, some))).near in
    elim (cases_lt count (unsigned_abs q)) [
      | inl more ↦
          let great : unit * (count + 1) ≤ unit * unsigned_abs q = mul-le unit (count + 1) unit (unsigned_abs q) (omega arith) (omega (arith, more)) in
          absurd (omega (arith, ints, near, great, unsigned_abs-mul (pos unit) q, small, some))
      | inr not_more ↦ not_more
    ]

module _ (m : Machine) (bound : ℕ) (row : SlopeRow) (is : IsRow (state_count m) (discrete_count m) row) (has : AllowsBound m.f bound row) where
  abbrev excesses : List Entry
  excesses = map (as_entry m.f bound) row.products

  -- a coefficient in the current mode is at most its own coefficient and its excesses
  mode_within : (n : ℕ) (discretes : List ℤ) → All (IsUpTo bound) discretes → (i : ℕ) →
      abs_of (mode_coefficient m.f n row discretes i) ≤ℤ (abs_of (coefficient_of row.entries i) +ℤ coefficient_of excesses i)
  mode_within n discretes small i =
      let own : ℤ = coefficient_of (map (as_entry m.f bound) row.products) i in
      let count : ℕ = unsigned_abs own in
      let is_count : own ≡ pos count = omega (arith, ints, excess_nonneg m.f bound row.products i) in
      let product = ap (λ z. z *ℤ pos (2 ^ m.f)) is_count ∙ pos-*ℤ-pos count (2 ^ m.f) in
      let sum : unsigned_abs (products_of row.products n discretes i) ≤ count * 2 ^ m.f =
      omega (arith, ints, products_within m.f bound n discretes (up_to_at bound discretes small) row.products i, product) in
      let some : 0 < 2 ^ m.f = omega (arith, ints, power_positive m.f) in
      omega (arith, ints, nearest_within (products_of row.products n discretes i) (2 ^ m.f) count some sum, is_count)

  modes_within : (discretes : List ℤ) → All (IsUpTo bound) discretes → mode_fits m.f (state_count m) row discretes ≡ true
  modes_within discretes small =
      fits_true (state_count m) (mode_coefficient m.f (state_count m) row discretes)
      (λ i h.
      let here : unsigned_abs (mode_coefficient m.f (state_count m) row discretes i) ≤ 2 ^ 44 =
      omega (
        arith,
        ints,
        mode_within (state_count m) discretes small i,
        coefficient_within row.entries i,
        coefficient_within excesses i,
        excess_nonneg m.f bound row.products i,
        sizes_are row.entries,
        excesses_are m.f bound row.products,
        has.modes,
      ) in
      grind (arith, nat_tests))

  -- what products add to the absolute row sum
  excess_within : (levels discretes : List ℤ) → All (IsUpTo bound) levels → All (IsUpTo bound) discretes →
      sum_below (length levels) (λ i. (abs_of (mode_coefficient m.f (length levels) row discretes i) -ℤ abs_of (coefficient_of row.entries i)) *ℤ abs_of (int_at levels i))
      ≤ℤ (pos (sum_by (excess m.f bound) row.products) *ℤ pos bound)
  excess_within levels discretes small small_d =
      let n : ℕ = length levels in
      let sizes : List ℤ = map abs_of levels in
      let at : (i : ℕ) → int_at sizes i ≡ abs_of (int_at levels i) = λ i. get_or-map abs_of levels i (pos 0) in
      let each = sum_below-le n (λ i. (abs_of (mode_coefficient m.f n row discretes i) -ℤ abs_of (coefficient_of row.entries i)) *ℤ abs_of (int_at levels i))
      (λ i. coefficient_of excesses i *ℤ int_at sizes i)
      (λ i h.
      let more : (abs_of (mode_coefficient m.f n row discretes i) -ℤ abs_of (coefficient_of row.entries i)) ≤ℤ coefficient_of excesses i = omega (arith, ints, mode_within n discretes small_d i) in
      omega (arith, ints, times_size _ _ (unsigned_abs (int_at levels i)) more, ap (λ z. coefficient_of excesses i *ℤ z) (at i))) in
      let turned = ap (λ k. sum_below k (λ i. coefficient_of excesses i *ℤ int_at sizes i)) (sym (length-map levels abs_of)) ∙ weighted_sum-entries excesses sizes in
      let small_sizes : (i : ℕ) → IsUpTo bound (int_at sizes i) = λ i. omega (arith, ints, up_to_at bound levels small i, at i) in
      let terms = terms_within bound sizes small_sizes excesses in
      let at_most = plain_terms sizes excesses in
      let all = ap (λ z. z *ℤ pos bound) (excesses_are m.f bound row.products) in
      omega (arith, ints, each, turned, terms.1, at_most, all)
    where
      -- terms are at most their sizes
      plain_terms : (values : List ℤ) (entries : List Entry) →
          sum_over (λ (entry : Entry). entry.coef *ℤ int_at values entry.var) entries ≤ℤ sum_over (λ (entry : Entry). abs_of (entry.coef *ℤ int_at values entry.var)) entries
      plain_terms values [] = omega (arith, ints)
      plain_terms values (entry ∷ entries) = omega (arith, ints, plain_terms values entries)

  weight_within : (levels discretes : List ℤ) → All (IsUpTo bound) levels → All (IsUpTo bound) discretes → exceeds 88 (weight_of m.f row levels discretes) ≡ false
  weight_within levels discretes small small_d =
      let values : List ℤ = levels ++ discretes in
      let sizes : ℕ = sum_by (λ (entry : Entry). unsigned_abs entry.coef) row.entries in
      let extra : ℕ = sum_by (excess m.f bound) row.products in
      let terms = terms_within bound values (up_to_both bound levels discretes small small_d) row.entries in
      let own = sizes_sum-entries row.entries values is.entries.rising in
      let more = excess_within levels discretes small small_d in
      let weight = weight_parts m.f row levels discretes in
      let first = ap (λ z. z *ℤ pos bound) (sizes_are row.entries) ∙ pos-*ℤ-pos sizes bound in
      let second = pos-*ℤ-pos extra bound in
      let all : (sizes + extra) * bound ≤ 2 ^ 44 * 2 ^ 43 = mul-le (sizes + extra) bound (2 ^ 44) (2 ^ 43) has.modes has.small in
      let beta : unsigned_abs row.beta ≤ 2 ^ 78 = is.constant in
      let positive = slope-within_weight m.f row levels discretes in
      let within : unsigned_abs (weight_of m.f row levels discretes) ≤ 2 ^ 88 = omega (arith, ints, terms.1, own, more, weight, first, second, all, beta, positive) in
      grind (arith, nat_tests)

  -- the row exceeds no limit
  pub safe : IsSafe m bound row
  safe levels discretes many many_d small small_d =
      ap (λ b. not b || exceeds 88 (weight_of m.f row levels discretes)) (modes_within discretes small_d) ∙ weight_within levels discretes small small_d

-- where all rows allow it
pub all_safe : (m : Machine) (bound : ℕ) → All (AllowsBound m.f bound) m.rows → All (IsSafe m bound) m.rows
all_safe m bound allow k none h = safe m bound (get_or m.rows k none) (m.has_rows.each k none h) (allow k none h)

-- ---- the bound that is found

-- one number of halvings is the first
first_half_is : (m : Machine) (one other : ℕ) → IsFirstHalf m one → IsFirstHalf m other → one ≡ other
first_half_is m one other first second =
    elim (cases_lt one other) [
      | inl less ↦ absurd (second.before one less first.allowed)
      | inr not_less ↦
          elim (cases_lt other one) [
            | inl more ↦ absurd (first.before other more second.allowed)
            | inr not_more ↦ omega (arith, not_less, not_more)
          ]
    ]

-- one bound is found
pub one_bound : (m : Machine) (bound other : ℕ) → IsSafeBound m (Some bound) → IsSafeBound m (Some other) → bound ≡ other
one_bound m bound other first second = first.2 ∙ ap half_limit (first_half_is m first.0 second.0 first.1 second.1) ∙ sym second.2

-- up to it no row exceeds its limits
pub bound_safe : (m : Machine) (bound : ℕ) → IsSafeBound m (Some bound) → All (IsSafe m bound) m.rows
bound_safe m bound found = all_safe m bound (subst (λ (b : ℕ). All (AllowsBound m.f b) m.rows) (sym found.2) found.1.allowed)
