-- Rounds of loops.
use Rattle.mu_unroll.proofs.Common
use Common.{ℕ, ℤ, ◌+ℤ◌, ◌^◌, ◌∙◌, ◌≡◌, ◌≤ℤ◌, ◌≤◌, ap, AreRoundsBounded, arith, bind_result}
use Common.{bounds_of, Counts, Err, false, int_le, ints, IsFault, List, looped, NameDenotation, Ok}
use Common.{pos, Progress, progress, Range, refl, repeated, Result, Rounds, rounds_from, suc, sym}
use Common.{true, UnrollErr, unsigned_abs, with_round, zero}
use Rattle.std.specs.Prelude.{negsuc, neg_ℤ, ◌-ℤ◌, ◌<ℤ◌}
use Rattle.mu_unroll.specs.Unrolling.{natural}
use Rattle.mu_unroll.proofs.Faulty.{after, fault_after, fault_same, fault_then}

-- by the difference
one_by : (a b z : ℤ) → a ≤ℤ b → b -ℤ a ≡ z → rounds_from a b ≡ suc (rounds_from (a +ℤ pos 1) b)
one_by a b (pos k) h e =
    let up : (b -ℤ a) +ℤ pos 1 ≡ pos (suc k) = omega (arith, ints) in
    let down : (b -ℤ (a +ℤ pos 1)) +ℤ pos 1 ≡ pos k = omega (arith, ints) in
    ap natural up ∙ sym (ap (λ z. suc (natural z)) down)
one_by a b (negsuc k) h e = absurd (omega (arith, ints))

-- where the first number is not past the last one, one round and those from the next number on
pub one_round : (a b : ℤ) → a ≤ℤ b → rounds_from a b ≡ suc (rounds_from (a +ℤ pos 1) b)
one_round a b h = one_by a b (b -ℤ a) h refl

none_by : (a b z : ℤ) → b <ℤ a → (b -ℤ a) +ℤ pos 1 ≡ z → natural z ≡ 0
none_by a b (pos zero) h e = refl
none_by a b (pos (suc k)) h e = absurd (omega (arith, ints))
none_by a b (negsuc k) h e = refl

-- and none where it is
pub no_round : (a b : ℤ) → b <ℤ a → rounds_from a b ≡ 0
no_round a b h = none_by a b ((b -ℤ a) +ℤ pos 1) h refl

-- one round, and those from the next number on
pub round_step : {X : Type 0} (once : ℤ → Progress X → Result (Progress X) UnrollErr) (i last : ℤ) (p : Progress X) (counted : Counts) (q : Progress X) → i ≤ℤ last
    → with_round p.counts ≡ Ok counted → once i (progress p.done counted) ≡ Ok q → repeated once i (rounds_from i last) p ≡ repeated once (i +ℤ pos 1) (rounds_from (i +ℤ pos 1) last) q
round_step {X} once i last p counted q h e1 e2 =
    ap (λ k. repeated once i k p) (one_round i last h)
    ∙ after (with_round p.counts) (λ c. bind_result (once i (progress p.done c)) (λ r. repeated once (i +ℤ pos 1) (rounds_from (i +ℤ pos 1) last) r)) counted e1
    ∙ after (once i (progress p.done counted)) (λ r. repeated once (i +ℤ pos 1) (rounds_from (i +ℤ pos 1) last) r) q e2

-- a round too many
pub round_limit : {X : Type 0} (once : ℤ → Progress X → Result (Progress X) UnrollErr) (i last : ℤ) (p : Progress X) (f : UnrollErr) → i ≤ℤ last
    → with_round p.counts ≡ Err f → repeated once i (rounds_from i last) p ≡ Err f
round_limit {X} once i last p f h e =
    ap (λ k. repeated once i k p) (one_round i last h)
    ∙ ap (λ (r : Result Counts UnrollErr). bind_result r (λ c. bind_result (once i (progress p.done c)) (λ q. repeated once (i +ℤ pos 1) (rounds_from (i +ℤ pos 1) last) q))) e

-- a fault in a round
pub round_fault : {X : Type 0} (once : ℤ → Progress X → Result (Progress X) UnrollErr) (i last : ℤ) (p : Progress X) (counted : Counts) (f : UnrollErr) → i ≤ℤ last
    → with_round p.counts ≡ Ok counted → IsFault (once i (progress p.done counted)) f → IsFault (repeated once i (rounds_from i last) p) f
round_fault {X} once i last p counted f h e fault =
    fault_same (repeated once i (suc (rounds_from (i +ℤ pos 1) last)) p) (repeated once i (rounds_from i last) p) f (sym (ap (λ k. repeated once i k p) (one_round i last h)))
    (fault_after (with_round p.counts) (λ c. bind_result (once i (progress p.done c)) (λ r. repeated once (i +ℤ pos 1) (rounds_from (i +ℤ pos 1) last) r)) counted f e
    (fault_then (once i (progress p.done counted)) (λ r. repeated once (i +ℤ pos 1) (rounds_from (i +ℤ pos 1) last) r) f fault))

-- no round
pub round_none : {X : Type 0} (once : ℤ → Progress X → Result (Progress X) UnrollErr) (i last : ℤ) (p : Progress X) → last <ℤ i → repeated once i (rounds_from i last) p ≡ Ok p
round_none {X} once i last p h = ap (λ k. repeated once i k p) (no_round i last h)

-- a loop with its bounds
pub loop_begins : {X : Type 0} (known : List ℕ → NameDenotation) (range : Range) (once : ℤ → Progress X → Result (Progress X) UnrollErr) (p : Progress X) (r : Rounds)
    → bounds_of known range.at range.from range.to ≡ Ok r → looped known range once p ≡ repeated once r.next (rounds_from r.next r.last) p
loop_begins {X} known range once p r e = after (bounds_of known range.at range.from range.to) (λ (x : Rounds). repeated once x.next (rounds_from x.next x.last) p) r e

-- the rounds that are left are near
pub near_next : (r : Rounds) → AreRoundsBounded r → AreRoundsBounded (record { next = r.next +ℤ pos 1; last = r.last })
near_next r n = record { low = omega (arith, ints, n.low); high = n.high }

-- a value of a loop variable is small
pub near_small : (r : Rounds) → AreRoundsBounded r → r.next ≤ℤ r.last → unsigned_abs r.next ≤ 2 ^ 62
near_small r n h = small r.next (omega (arith, ints, n.low)) (omega (arith, ints, n.high))
  where
    small : (z : ℤ) → (neg_ℤ (pos (2 ^ 62))) ≤ℤ z → z ≤ℤ pos (2 ^ 62) → unsigned_abs z ≤ 2 ^ 62
    small z low high = omega (arith, ints)

-- what the tests of rounds say
pub le_of : (a b : ℤ) → int_le a b ≡ true → a ≤ℤ b
le_of a b h = omega (arith, ints)

pub lt_of : (a b : ℤ) → int_le a b ≡ false → b <ℤ a
lt_of a b h = omega (arith, ints)
