-- The tick at which a line leaves the quantum of its level, and the next level.
use Rattle.qss_events.proofs.Common
use Common.{ℕ, ℤ, ◌*ℤ◌, ◌+◌, ◌<◌, ◌^◌, ◌∙◌, ◌≡◌, ◌≤ℤ◌, ap, arith, Bool, false, FirstAfter}
use Common.{int_lt-false, int_lt-true, ints, is_within_quantum, IsAllowedLevel, IsAnswer, IsAway}
use Common.{IsLineWithinQuantum, IsNextLevel, level_unit, Line, Machine, MatchBool, Option, pos}
use Common.{quantum_of, quantum_positive, refl, Rule, state_at, state_count, subst, suc, sym, true}
use Common.{zero}
use Rattle.std.proofs.Common.{negsuc}
use Rattle.qss_events.specs.Schedules.{IsDue}

-- the tick that was found for a line from its tick on
pub due_here : (m : Machine) (tick j : ℕ) (line : Line) (x slope level unit quantum : ℤ) (found : Option ℕ) →
    line ≡ record { tick = tick; x = x; slope = slope; level = level } → unit ≡ level_unit m → quantum ≡ quantum_of m j level →
    FirstAfter (λ t. IsAway unit (state_at line t) line.level quantum) line.tick found → IsDue m tick j line found
due_here m tick j line x slope level unit quantum found is one own first =
    let own' : quantum ≡ quantum_of m j line.level = own ∙ ap (λ (l : Line). quantum_of m j l.level) (sym is) in
    subst (λ t. FirstAfter (λ n. IsAway (level_unit m) (state_at line n) line.level (quantum_of m j line.level)) t found) (ap (λ (l : Line). l.tick) is)
    (subst (λ q. FirstAfter (λ n. IsAway (level_unit m) (state_at line n) line.level q) line.tick found) own'
    (subst (λ u. FirstAfter (λ n. IsAway u (state_at line n) line.level quantum) line.tick found) one first))

-- the level that a quantizer gives may come next
pub next_by : (name : Option Rule) (m : Machine) (j : ℕ) (state old new : ℤ) → (IsLineWithinQuantum (level_unit m) state old (quantum_of m j old) → new ≡ old) →
    (IsAway (level_unit m) state old (quantum_of m j old) → IsAnswer name state old (level_unit m) new) → IsNextLevel (IsAllowedLevel name) m j state old new
next_by name m j state old new kept taken = by_near (is_within_quantum m j state old) refl
  where
    by_near : (b : Bool) → is_within_quantum m j state old ≡ b → MatchBool b (new ≡ old) (IsAllowedLevel name (level_unit m) state old new)
    by_near true e = kept (int_lt-true _ _ e)
    by_near false e = taken (int_lt-false _ _ e)

-- a level that may come next is near its state
pub next_is_near : (name : Option Rule) (m : Machine) (j : ℕ) (state old new : ℤ) → j < state_count m → IsNextLevel (IsAllowedLevel name) m j state old new →
    IsLineWithinQuantum (level_unit m) state new (quantum_of m j new)
next_is_near name m j state old new h next = by_near (is_within_quantum m j state old) refl next
  where
    above : (k : ℕ) (q : ℤ) → pos 1 ≤ℤ q → pos k ≤ℤ (pos k *ℤ q)
    above k (pos zero) low = absurd (omega (arith, ints))
    above k (pos (suc n)) low = omega (arith, ints)
    above k (negsuc n) low = absurd (omega (arith, ints))

    by_near : (b : Bool) → is_within_quantum m j state old ≡ b → MatchBool b (new ≡ old) (IsAllowedLevel name (level_unit m) state old new) → IsLineWithinQuantum (level_unit m) state new (quantum_of m j new)
    by_near true e same = subst (λ l. IsLineWithinQuantum (level_unit m) state l (quantum_of m j l)) (sym same) (int_lt-true _ _ e)
    by_near false e ruled = omega (arith, ints, ruled.close, above (2 ^ (m.p + m.k)) (quantum_of m j new) (quantum_positive m j new h))
