use Rattle.qss_components.proofs.Common
use Common.{ℕ, ◌<◌, ◌≡◌, ◌≤◌, All, EachAt, get_or as slice_index_or, length, List, None, Option}
use Common.{Some, take}
use Rattle.qss_components.proofs.atomic.least_advance.Given as goal

-- the least of the models so far, with the ticks of their next transitions
abbrev pub invariant-loop-place : goal.invariant-loop-place
invariant-loop-place g l = record {
  within : l.least ≤ l.until;
  inside : l.place ≤ length l.models;
  not_past : All (λ a. (next : ℕ) → g.A.Atomic.is_next a (Some next) → l.least ≤ next) (take l.place l.models);
  later : (tick : ℕ) → tick < l.until → All (λ a. (next : ℕ) → g.A.Atomic.is_next a (Some next) → tick < next) l.models → tick < l.least;
  dues : (dues : List (Option ℕ)) × (length dues ≡ l.place) × EachAt (λ place a. g.A.Atomic.is_next a (slice_index_or dues place None)) (take l.place l.models);
}
