-- The rounds of a loop.
use Rattle.std.specs.Prelude.{ℕ, pos, neg_ℤ, ◌^◌, ◌≤ℤ◌, List, Result, Ok}
use Rattle.mu_tree.specs.Expression.{Expression}
use Rattle.mu_unroll.specs.declared.unroll_fault.UnrollErr.{UnrollErr}
use Rattle.mu_unroll.specs.declared.environment.NameDenotation.{NameDenotation}
use Rattle.mu_unroll.specs.declared.unrolled_values.Rounds.{Rounds}
use Rattle.mu_unroll.specs.Flattening.{bound_of}
use Rattle.mu_unroll.specs.ConstantValues.{bind_result}

-- the first and the last value of the loop variable; a fault of the first bound is reported first
abbrev pub bounds_of : (List ℕ → NameDenotation) → ℕ → Expression → Expression → Result Rounds UnrollErr
bounds_of known at from to = bind_result (bound_of known at from) (λ a. bind_result (bound_of known at to) (λ b. Ok (record { next = a; last = b })))

-- the next value is at least -2^62, and the last value is at most 2^62
pub record AreRoundsBounded (r : Rounds) : Type 0 where
  pub low : (neg_ℤ (pos (2 ^ 62))) ≤ℤ r.next
  pub high : r.last ≤ℤ pos (2 ^ 62)
