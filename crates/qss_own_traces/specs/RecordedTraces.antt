-- The contents of the draft of a trace.
use Rattle.std.specs.Prelude.{◌≡◌, ℕ, List, length, flat_map, ℤ, All}
use Rattle.mu_num.specs.Sizes.{IsWithin}
use Rattle.qss_own_traces.specs.declared.own_trace_draft.Draft.{Draft}

-- a draft has these states and levels tick by tick, n numbers each, within the limits of a trace
pub record Holds (n : ℕ) (states levels : List (List ℤ)) (d : Draft) : Type 0 where
  pub own_states : d.states.items ≡ flat_map (λ xs. xs) states
  pub own_levels : d.levels.items ≡ flat_map (λ xs. xs) levels
  pub as_many : length levels ≡ length states
  pub sized_states : All (λ xs. length xs ≡ n) states
  pub sized_levels : All (λ xs. length xs ≡ n) levels
  pub small_states : All (IsWithin 108) d.states.items
  pub small_levels : All (IsWithin 64) d.levels.items
