-- The values at the start are within the limits.
use Rattle.qss_events.proofs.Common
use Common.{[], ℕ, ℤ, ◌++◌, ◌+◌, ◌<◌, ◌||◌, ◌∙◌, ◌∷◌, ◌≡◌, ◌≤◌, All, ap, Bool, exceeds}
use Common.{exceeds_row_limits, false, get_or, IsWithin, length, length-map, level_below}
use Common.{level_unit, List, Machine, map, mode_fits, no_row, None, not, pos, position, refl}
use Common.{state_count, StateInfo, subst, sym, take, true, weight_of, within-passes}
use Rattle.std.proofs.Common.{rules}
use Rattle.std.proofs.lemmas.List.{take_more, take_all, map-append}
use Rattle.std.specs.Bool.{IsTrue}
use Rattle.qss_machine.specs.Machines.{start_states, start_discretes}
use Rattle.qss_events.proofs.Ranges.{position-none}
use Rattle.mu_num.proofs.Tables.{map_twice}
use Rattle.qss_machine.proofs.StartValues.{all_map}

no_state : StateInfo
no_state = record { name = []; x0 = pos 0; quantum = pos 0 }

abbrev pub levels_at_start : Machine → List ℤ
levels_at_start m = map (level_below (level_unit m)) (start_states m)

pub levels_are : (m : Machine) → map (level_below (level_unit m)) (start_states m) ≡ map (λ (s : StateInfo). level_below (level_unit m) s.x0) m.states
levels_are m = map_twice (level_below (level_unit m)) (λ (s : StateInfo). s.x0) m.states

pub levels_start : (m : Machine) → All (IsWithin 43) (levels_at_start m)
unfolding no_state
levels_start m =
    subst (All (IsWithin 43)) (sym (levels_are m))
    (all_map (IsWithin 43) (λ (s : StateInfo). level_below (level_unit m) s.x0) m.states no_state (λ k h. (m.has_variables.each_state k no_state h).level))

is_true_of : (b : Bool) → IsTrue b → b ≡ true
is_true_of true t = refl
is_true_of false t = absurd (search (rules, t))

light_of : (a b : Bool) → a ≡ true → b ≡ false → (not a || b) ≡ false
light_of true b e f = f
light_of false b e f = absurd (cc)

pub light_start : (m : Machine) → position (exceeds_row_limits m (levels_at_start m) (start_discretes m)) m.rows ≡ None
light_start m =
    position-none no_row (exceeds_row_limits m (levels_at_start m) (start_discretes m)) m.rows
    (λ k h.
    let row = get_or m.rows k no_row in
    let heavy : IsWithin 88 (weight_of m.f row (levels_at_start m) (start_discretes m)) =
    subst (λ l. IsWithin 88 (weight_of m.f row l (start_discretes m))) (sym (levels_are m)) (m.has_rows.weights k no_row h) in
    light_of (mode_fits m.f (state_count m) row (start_discretes m)) (exceeds 88 (weight_of m.f row (levels_at_start m) (start_discretes m)))
    (is_true_of (mode_fits m.f (state_count m) row (start_discretes m)) (m.has_rows.modes k no_row h)) (within-passes 88 (weight_of m.f row (levels_at_start m) (start_discretes m)) heavy))

-- the same of levels and discrete values that are those at the start
pub light_at : (m : Machine) (levels d : List ℤ) → levels ≡ levels_at_start m → d ≡ start_discretes m → position (exceeds_row_limits m levels d) m.rows ≡ None
light_at m levels d of_levels of_d =
    ap (λ l. position (exceeds_row_limits m l d) m.rows) of_levels ∙ ap (λ e. position (exceeds_row_limits m (levels_at_start m) e) m.rows) of_d ∙ light_start m

pub count_start : (m : Machine) → length (levels_at_start m) ≡ state_count m
count_start m = length-map (start_states m) (level_below (level_unit m)) ∙ length-map m.states (λ (s : StateInfo). s.x0)

-- one more level
pub levels_more : (m : Machine) (j : ℕ) (d : StateInfo) (old : List ℤ) (level : ℤ) → j < length m.states →
    old ≡ map (λ (s : StateInfo). level_below (level_unit m) s.x0) (take j m.states) → level ≡ level_below (level_unit m) (get_or m.states j d).x0 →
    old ++ level ∷ [] ≡ map (λ (s : StateInfo). level_below (level_unit m) s.x0) (take (j + 1) m.states)
levels_more m j d old level h is own =
    let level_of = λ (s : StateInfo). level_below (level_unit m) s.x0 in
    ap (λ l. old ++ l ∷ []) own
    ∙ ap (λ xs. xs ++ level_of (get_or m.states j d) ∷ []) is
    ∙ sym (map-append level_of (take j m.states) (get_or m.states j d ∷ []))
    ∙ sym (ap (map level_of) (take_more m.states j d h))

-- all levels
pub levels_all : (m : Machine) (j : ℕ) (found : List ℤ) → length m.states ≤ j → found ≡ map (λ (s : StateInfo). level_below (level_unit m) s.x0) (take j m.states) →
    found ≡ levels_at_start m
levels_all m j found h is = is ∙ ap (map (λ (s : StateInfo). level_below (level_unit m) s.x0)) (take_all j m.states h) ∙ sym (levels_are m)
