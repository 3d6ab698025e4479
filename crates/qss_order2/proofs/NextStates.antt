-- The next state that a row names.
use Rattle.qss_order2.proofs.Common
use Common.{[], ℕ, ◌+◌, ◌-◌, ◌<◌, ◌∙◌, ◌≡◌, ◌≤◌, All, arith, cases_lt, Entry, false, get_or}
use Common.{get_or-map, get_or_default, inl, inr, IsNonDecreasingBy, IsPartitionPoint}
use Common.{IsStrictlyIncreasing, length, length-map, List, Machine, map, mode_coefficient, nat_lt}
use Common.{nat_tests, none_at, pos, Product, row_at, SlopeRow, start_coefficient, start_discretes}
use Common.{state_count, subst, true}
use Rattle.std.proofs.lemmas.List.Sorted.{IsPartitionedBy-ltb}
use Rattle.std.specs.List.Sorted.{IsPartitionedBy}
use Rattle.std.specs.Prelude.{slice_index}
use Rattle.qss_machine.specs.MachineLimits.{AreProducts}
use Rattle.qss_machine.proofs.ProductStates.{rising_to, rising_states, own_mode}

less_of : (a b : ℕ) → nat_lt a b ≡ true → a < b
less_of a b e = grind (arith, nat_tests)

most_of : (a b : ℕ) → nat_lt a b ≡ false → b ≤ a
most_of a b e = grind (arith, nat_tests)

-- ---- lists by rising number

pub rising_entries : (entries : List Entry) →
    IsStrictlyIncreasing (map (λ (entry : Entry). entry.var) entries) →
    IsNonDecreasingBy (λ (entry : Entry). entry.var) entries
rising_entries entries rising i j d le inside =
    let variable = λ (entry : Entry). entry.var in
    let vars : List ℕ = map variable entries in
    let many : length vars ≡ length entries = length-map entries variable in
    let at_i : slice_index vars i ≡ (get_or entries i d).var =
    get_or-map variable entries i d 0 (omega (arith, le, inside)) in
    let at_j : slice_index vars j ≡ (get_or entries j d).var =
    get_or-map variable entries j d 0 inside in
    let there : i + (j - i) ≡ j = omega (arith, le) in
    let ordered : slice_index vars i ≤ slice_index vars j =
    subst (λ (m : ℕ). slice_index vars i ≤ slice_index vars m) there (rising_to vars rising i
    (j - i) (omega (arith, le, inside, many))) in
    omega (arith, at_i, at_j, ordered)

pub rising_products : (states count : ℕ) (products : List Product) →
    AreProducts states count products → IsNonDecreasingBy (λ (product : Product). product.state)
    products
rising_products states count products are i j d le inside =
    rising_states states count products are i j d d le inside

-- ---- where a number is first reached

module _ {X : Type 0} (number : X → ℕ) (xs : List X) (from place : ℕ)
    (rise : IsNonDecreasingBy number xs) where
  pub lesser_first : IsPartitionedBy (λ x. nat_lt (number x) from) xs
  lesser_first = IsPartitionedBy-ltb number xs from rise

  module _ (point : IsPartitionPoint (λ x. nat_lt (number x) from ≡ true) (λ x. nat_lt (number x)
      from ≡ false) xs place) where
    pub reached : (d : X) → place < length xs → from ≤ number (get_or xs place d)
    reached d inside = most_of (number (get_or xs place d)) from (point.1 place d (omega arith)
        inside)

    -- none between this number and the one there
    pub none_between : (found : ℕ) → ((d : X) → place < length xs →
        found ≤ number (get_or xs place d)) → All (λ x. from ≤ number x → found ≤ number x) xs
    none_between found first k d inside at_least = elim (cases_lt k place) [
      | inl before ↦ absurd (omega (
        arith,
        less_of (number (get_or xs k d)) from
            (point.0 k d (omega arith) before),
        at_least,
      ))
      | inr behind ↦ omega (
        arith,
        first d (omega (arith, behind, inside)),
        rise place k d behind inside,
      )
    ]

-- ---- a state that a row does not name

pub no_mode : (m : Machine) (row from next : ℕ) (right_side : SlopeRow) → row < length m.rows →
    right_side ≡ get_or m.rows row right_side →
    All (λ (entry : Entry). from ≤ entry.var → next ≤ entry.var) right_side.entries →
    All (λ (product : Product). from ≤ product.state → next ≤ product.state) right_side.products →
    (i : ℕ) → from ≤ i → i < next → start_coefficient m row i ≡ pos 0
no_mode m row from next right_side known is entries products i low high =
    let none : SlopeRow = record { entries = []; products = []; beta = pos 0 } in
    let own : right_side ≡ row_at m row = is ∙ get_or_default m.rows row right_side none known in
    let free =
    λ (k : ℕ) (d : Product) (inside : k < length right_side.products) (e : (get_or
    right_side.products k d).state ≡ i).
    absurd (omega (arith, products k d inside (omega (arith, e, low)), e, high)) in
    subst (λ (r : SlopeRow). mode_coefficient m.f (state_count m) r (start_discretes m) i ≡ pos 0)
    own
    (own_mode m.f (state_count m) right_side (start_discretes m) i free
    ∙ none_at right_side.entries i (λ k d inside e.
    absurd (omega (arith, entries k d inside (omega (arith, e, low)), e, high))))

-- ---- a number at the place that is found

pub first_is : {X : Type 0} (number : X → ℕ) (xs : List X) (place found : ℕ) (e : X) →
    found ≤ number (get_or xs place e) → (d : X) → place < length xs →
    found ≤ number (get_or xs place d)
first_is number xs place found e le d inside =
    subst (λ x. found ≤ number x) (get_or_default xs place e d inside) le

pub none_before : {X : Type 0} (number : X → ℕ) (xs : List X) (from more next : ℕ) → next ≤ more →
    All (λ x. from ≤ number x → more ≤ number x) xs → All (λ x. from ≤ number x → next ≤ number x)
    xs
none_before number xs from more next le all k d inside at_least =
    omega (arith, le, all k d inside at_least)
