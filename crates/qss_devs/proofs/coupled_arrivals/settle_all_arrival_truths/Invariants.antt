use Rattle.qss_devs.proofs.Common.{ℕ, ◌<◌, ◌≡◌, compares, flag_at, length, map}
use Rattle.qss_devs.proofs.coupled_arrivals.settle_all_arrival_truths.Given as goal

-- the truths so far
abbrev pub invariant-loop-place : goal.invariant-loop-place
invariant-loop-place l = record {
  as_many : length l.flags ≡ length l.crossings;
  each : (k : ℕ) → k < l.place → flag_at l.flags k ≡ flag_at (map (λ c. compares c.detector.rel c.detector.value) l.crossings) k;
}
