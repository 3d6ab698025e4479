-- The rows of a second-order run are of variables of its machine.
use Rattle.qss_order2.proofs.Common
use Common.{[], ℕ, ℤ, ◌*ℤ◌, ◌+◌, ◌<◌, ◌∙◌, ◌∷◌, ◌≡◌, All, All-append, arith, discrete_count}
use Common.{discrete_rows2, DiscreteInfo, end_rows, Err, exceeds, fine_states, first_exceeding}
use Common.{first_exceeding_limit, flat_map, floor_of, get_or, get_or-map-range_with_len}
use Common.{HasVariable2, if_cases, if◌then◌else◌, int_at, is_limit_check, is_requantization, Kind2}
use Common.{leaves_quantum, length, length-map, length-map-range_with_len, level_row, level_unit}
use Common.{List, Machine, map, moved_level, moved_state, nearest_change, next_changes, next_levels}
use Common.{next_snapshot, None, Ok, Option, option_or, overflow_row, Past, pos, range_with_len}
use Common.{refl, Result, rise_change_weight, rise_weight, Row2, rows2_after, run2_rows}
use Common.{second_order_run, second_scale, second_snapshot_unless, second_start, second_step}
use Common.{SecondSnapshot, slope_row, snapshots_from, snapshots_unless, snapshots_with, Some}
use Common.{start_discretes, start_rows, start_states, state_count, subst, suc, sym, tabulate}
use Common.{tick_rows2, zero}
use Rattle.std.proofs.lemmas.List.Elements.{All-nil, All-cons}
use Rattle.std.proofs.lemmas.List.Quantifiers.{position-Some}
use Rattle.qss_machine.proofs.Near.{or_known}
use Rattle.qss_order2.specs.declared.order2_rows.Kind2.TheVariants as kind

abbrev pub count : Machine → ℕ
count m = state_count m + discrete_count m

-- ---- rows that are made one for each number

all_tabulated : (m : Machine) (f : ℕ → Row2) (n : ℕ) → ((j : ℕ) → j < n → (f j).var < count m) →
    All (HasVariable2 m) (tabulate n f)
all_tabulated m f n each k d h =
    let inside : k < n = omega (arith, h, length-map-range_with_len f 0 n) in
    let is : get_or (map f (range_with_len 0 n)) k d ≡ f k =
    get_or-map-range_with_len f 0 n k k d inside (omega arith) in
    subst (λ (row : Row2). row.var < count m) (sym is) (each k inside)

all_of_range : (P : Row2 → Type 0) (f : ℕ → List Row2) (a n : ℕ) → ((j : ℕ) → j < a + n →
    All P (f j)) → All P (flat_map f (range_with_len a n))
all_of_range P f a zero each = All-nil P
all_of_range P f a (suc n) each =
    All-append P (f a) (flat_map f (range_with_len (a + 1) n)) (each a (omega arith))
    (all_of_range P f (a + 1) n (λ j h. each j (omega (arith, h))))

one : (m : Machine) (row : Row2) → row.var < count m → All (HasVariable2 m) (row ∷ [])
one m row h = All-cons (HasVariable2 m) row [] h (All-nil (HasVariable2 m))

two : (m : Machine) (k : Kind2) (tick : ℕ) (w : SecondSnapshot) (j : ℕ) → j < state_count m →
    All (HasVariable2 m) (level_row k tick w j ∷ slope_row tick w j ∷ [])
two m k tick w j h =
    let inside : j < count m = omega (arith, h) in
    All-cons (HasVariable2 m) (level_row k tick w j) (slope_row tick w j ∷ []) inside
    (one m (slope_row tick w j) inside)

discretes_known : (m : Machine) (k : Kind2) (tick : ℕ) →
    All (HasVariable2 m) (discrete_rows2 k tick m)
discretes_known m k tick =
    let many : length (start_discretes m) ≡ discrete_count m =
    length-map m.discretes (λ (discrete : DiscreteInfo). discrete.d0) in
    all_tabulated m (λ g. record {
      tick = tick;
      kind = k;
      var = state_count m + g;
      level =
          int_at (start_discretes m) g;
      state = pos 0;
    }) (length (start_discretes m)) (λ j h. omega (arith, h, many))

start_known : (m : Machine) (w : SecondSnapshot) → All (HasVariable2 m) (start_rows m w)
start_known m w =
    All-append (HasVariable2 m) (flat_map (λ j. level_row kind.Start 0 w j ∷ slope_row 0 w j ∷ [])
    (range_with_len 0 (state_count m))) (discrete_rows2 kind.Start 0 m)
    (all_of_range (HasVariable2 m) (λ j. level_row kind.Start 0 w j ∷ slope_row 0 w j ∷ []) 0
    (state_count m) (λ j h. two m kind.Start 0 w j (omega (arith, h))))
    (discretes_known m kind.Start 0)

tick_known : (m : Machine) (tick : ℕ) (w next : SecondSnapshot) →
    All (HasVariable2 m) (tick_rows2 m tick w next)
tick_known m tick w next =
    all_of_range (HasVariable2 m) (λ j. if leaves_quantum m w j then level_row kind.Level tick next
    j ∷ slope_row tick next j ∷ [] else []) 0 (state_count m)
    (λ j h. if_cases (All (HasVariable2 m)) (leaves_quantum m w j) (level_row kind.Level tick next j
    ∷ slope_row tick next j ∷ []) [] (λ e. two m kind.Level tick next j (omega (arith, h)))
    (λ e. All-nil (HasVariable2 m)))

end_known : (m : Machine) (tick : ℕ) (w : SecondSnapshot) → All (HasVariable2 m) (end_rows m tick w)
end_known m tick w =
    All-append (HasVariable2 m) (tabulate (state_count m) (level_row kind.End tick w))
    (discrete_rows2 kind.End tick m)
    (all_tabulated m (level_row kind.End tick w) (state_count m) (λ j h. omega (arith, h)))
    (discretes_known m kind.End tick)

-- ---- overflows

limit_known : (m : Machine) (levels changes : List ℤ) → length levels ≡ state_count m → (var : ℕ) →
    first_exceeding_limit m levels changes ≡ Some var → var < count m
limit_known m levels changes many =
    let rises = tabulate (state_count m) (rise_weight m levels) in
    let bends = tabulate (state_count m) (rise_change_weight m changes) in
    or_known (count m) (first_exceeding 49 levels) (option_or (first_exceeding 94 rises)
    (first_exceeding 94 bends))
    (λ var e. let found = position-Some (exceeds 49) levels var (pos 0) e in omega (
      arith,
      found.0,
      many,
    ))
    (or_known (count m) (first_exceeding 94 rises) (first_exceeding 94 bends)
    (λ var e. let found = position-Some (exceeds 94) rises var (pos 0) e in omega (
      arith,
      found.0,
      length-map-range_with_len (rise_weight m levels) 0 (state_count m),
    ))
    (λ var e. let found = position-Some (exceeds 94) bends var (pos 0) e in omega (
      arith,
      found.0,
      length-map-range_with_len (rise_change_weight m changes) 0 (state_count m),
    )))

-- a result is a snapshot, or a state of the machine
abbrev IsResult : Machine → Result SecondSnapshot ℕ → Type 0
IsResult m (Ok next) = Unit {0}
IsResult m (Err var) = var < count m

unless_known : (m : Machine) (o : Option ℕ) (w : SecondSnapshot) → ((var : ℕ) → o ≡ Some var →
    var < count m) → IsResult m (second_snapshot_unless o w)
unless_known m None w over = tt
unless_known m (Some var) w over = over var refl

step_known : (m : Machine) (tick : ℕ) (w : SecondSnapshot) →
    IsResult m (second_step nearest_change m tick w)
step_known m tick w =
    let next = next_snapshot m w (next_changes nearest_change m w (next_levels m w)) in
    unless_known m (if is_limit_check m tick (is_requantization m w) then first_exceeding_limit m
    next.levels next.changes else None) next
    (if_cases (λ o. (var : ℕ) → o ≡ Some var → var < count m) (is_limit_check m tick
    (is_requantization m w)) (first_exceeding_limit m next.levels next.changes) None
    (λ e. limit_known m next.levels next.changes (length-map-range_with_len
    (λ j. if leaves_quantum m w j then floor_of (moved_state m w j) (level_unit m) else moved_level
    w j) 0 (state_count m)))
    (λ e var f. absurd (cc)))

-- ---- runs

-- rows after a snapshot are of the machine
abbrev IsKnownAfter : Machine → ℕ → SecondSnapshot → List SecondSnapshot × Option Past → Type 0
IsKnownAfter m tick w after = All (HasVariable2 m) (rows2_after m tick w after.0 after.1)

with_known : (m : Machine) (more tick : ℕ) (w : SecondSnapshot) → ((next : SecondSnapshot) →
    IsKnownAfter m (tick + 1) next (snapshots_from nearest_change m more (tick + 1) next)) →
    (result : Result SecondSnapshot ℕ) → IsResult m result →
    IsKnownAfter m tick w (snapshots_with result (tick + 1) (λ next. snapshots_from nearest_change m
    more (tick + 1) next))
with_known m more tick w rest (Err var) inside =
    one m (overflow_row (record { tick = tick + 1; var = var })) inside
with_known m more tick w rest (Ok next) is =
    All-append (HasVariable2 m) (tick_rows2 m (tick + 1) w next) _ (tick_known m (tick + 1) w next)
    (rest next)

from_known : (m : Machine) (more tick : ℕ) (w : SecondSnapshot) →
    IsKnownAfter m tick w (snapshots_from nearest_change m more tick w)
from_known m zero tick w = end_known m tick w
from_known m (suc more) tick w = with_known m more tick w (λ next. from_known m more (tick + 1)
    next) (second_step nearest_change m (tick + 1) w) (step_known m (tick + 1) w)

limit_unless : (m : Machine) (w : SecondSnapshot) (after : List SecondSnapshot × Option Past) →
    IsKnownAfter m 0 w after → (o : Option ℕ) → ((var : ℕ) → o ≡ Some var → var < count m) →
    IsKnownAfter m 0 w (snapshots_unless 0 o after)
limit_unless m w after is None over = is
limit_unless m w after is (Some var) over = one m (overflow_row (record { tick = 0; var = var }))
    (over var refl)

start_levels : (m : Machine) → length (second_start nearest_change m).levels ≡ state_count m
start_levels m =
    length-map (fine_states m) (λ (x : ℤ). floor_of x (level_unit m)) ∙ length-map (start_states m)
    (λ (x : ℤ). pos second_scale *ℤ x) ∙ length-map m.states (λ s. s.x0)

pub run_known : (m : Machine) → All (HasVariable2 m) (run2_rows m (second_order_run m))
run_known m =
    let w = second_start nearest_change m in
    All-append (HasVariable2 m) (start_rows m w) _ (start_known m w) (limit_unless m w
    (snapshots_from nearest_change m m.last 0 w) (from_known m m.last 0 w) (first_exceeding_limit m
    w.levels w.changes) (limit_known m w.levels w.changes (start_levels m)))
