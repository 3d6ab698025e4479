use Rattle.qss_devs.proofs.Common.{ℕ, ◌<◌, ◌≡◌, ◌≤◌, flag_at, holds_at, length, map}
use Rattle.qss_devs.proofs.Readings.{AreReadUpTo}
use Rattle.qss_devs.proofs.coupled_arrivals.read_all_on_arrival.Given as goal

-- the crossings so far were read, with the truth values that they sent
abbrev pub invariant-loop-place : goal.invariant-loop-place
invariant-loop-place l = record {
  crossings : AreReadUpTo l.tick l.place l.fn.crossings l.crossings;
  as_many : length l.now ≡ length l.fn.now;
  flags_are : (k : ℕ) → k < l.place → flag_at l.now k ≡ flag_at (map (λ c. holds_at c.detector l.tick) l.fn.crossings) k;
  rest : (k : ℕ) → l.place ≤ k → flag_at l.now k ≡ flag_at l.fn.now k;
}
