-- States stay near their levels.
use Rattle.qss_machine.proofs.Common
use Common.{[], ℕ, ℤ, ◌*ℤ◌, ◌*◌, ◌+ℤ◌, ◌+◌, ◌-ℤ◌, ◌<ℤ◌, ◌<◌, ◌^◌, ◌∷◌, ◌≡◌, ◌≤ℤ◌, ◌≤◌, arith}
use Common.{clamps, first_exceeding, get_or-map, handlers_at, inl, inr, int_at, ints}
use Common.{is_within_quantum, IsFreeExecution, IsFreeLevel, IsStepBy, IsWithinOneLevel}
use Common.{IsWithinQuantum, last_snapshot, length-map, level_below, level_unit, List, Machine}
use Common.{moved_states, mul-le-mul_left, mul-le-mul_right, negsuc, None, Ok, Option, option_or}
use Common.{pos, pow_mono, quanta, quantum_of, refl, slope_at, Snapshot, snapshot_unless, Some}
use Common.{start_snapshot, start_states, state_count, StateInfo, subst, suc, sym, true, truths}
use Common.{unsigned_abs, unsigned_abs-mul, zero}
use Rattle.std.proofs.Math.Pow.{pow_pos}
use Rattle.mu_num.specs.Rounding.{floor_of}
use Rattle.mu_num.specs.Sizes.{IsPositiveWithin}
use Rattle.mu_num.proofs.Integers.{mul-sub}
use Rattle.mu_num.proofs.Tests.{int_lt-true}
use Rattle.mu_num.proofs.Quotients.{floor_meets}
use Rattle.qss_machine.specs.Ticks.{AreLevelsBy}
use Rattle.qss_machine.specs.RunLaws.{StaysWithinDrift, RunsStayWithinDrift}

-- ---- what a step gives

snapshot_unless-Ok : (overflow : Option ℕ) (w next : Snapshot) → Ok next ≡ snapshot_unless overflow w → (overflow ≡ None) × (next ≡ w)
snapshot_unless-Ok None w next e = (refl, cc)
snapshot_unless-Ok (Some var) w next e = absurd (cc)

pub option_or-None : (o p : Option ℕ) → option_or o p ≡ None → (o ≡ None) × (p ≡ None)
option_or-None None p e = (refl, e)
option_or-None (Some var) p e = absurd (cc)

-- the first of two variables is a variable of the machine, if each is
pub or_known : (n : ℕ) (a b : Option ℕ) → ((var : ℕ) → a ≡ Some var → var < n) → ((var : ℕ) → b ≡ Some var → var < n) → (var : ℕ) → option_or a b ≡ Some var → var < n
or_known n None b first_view second = second
or_known n (Some v) b first_view second = first_view

-- the snapshot after a step, by its parts
pub record StepFacts (Allows : ℕ → ℤ → ℤ → ℤ → Type 0) (m : Machine) (tick : ℕ) (w next : Snapshot) : Type 0 where
  pub no_overflow : (handlers_at m tick w).overflow ≡ None
  pub states : next.states ≡ (handlers_at m tick w).states
  pub discretes : next.discretes ≡ (handlers_at m tick w).discretes
  pub at_arrival : next.at_arrival ≡ truths m (moved_states m w) w.discretes tick
  pub after_handlers : next.after_handlers ≡ truths m next.states next.discretes tick
  pub levels : AreLevelsBy Allows m next.states w.levels next.levels
  pub small_levels : first_exceeding 43 next.levels ≡ None

pub step_facts : (Allows : ℕ → ℤ → ℤ → ℤ → Type 0) (m : Machine) (tick : ℕ) (w next : Snapshot) → IsStepBy Allows m tick w (Ok next) → StepFacts Allows m tick w next
step_facts Allows m tick w next s =
    let facts = snapshot_unless-Ok _ _ next s.2 in
    let calm = option_or-None (handlers_at m tick w).overflow _ facts.0 in
    let small = option_or-None (first_exceeding 43 s.0) _ calm.1 in
    subst (StepFacts Allows m tick w) (sym facts.1) (record {
      no_overflow = calm.0;
      states = refl;
      discretes = refl;
      at_arrival = refl;
      after_handlers = refl;
      levels = s.1 calm.0;
      small_levels = small.0;
    })

-- ---- the unit of levels and the quanta

pub unit_positive : (m : Machine) → pos 0 <ℤ level_unit m
unit_positive m = omega (arith, ints, pow_pos (m.p + m.k))

pub unit_low : (m : Machine) → pos 1 ≤ℤ level_unit m
unit_low m = omega (arith, ints, pow_pos (m.p + m.k))

pub unit_high : (m : Machine) → level_unit m ≤ℤ pos (2 ^ 44)
unit_high m = let le : 2 ^ (m.p + m.k) ≤ 2 ^ 44 = pow_mono m.has_units.unit_bits in omega (arith, ints)

-- the unit of levels is positive, and its size is at most 2^44
pub unit_fits : (m : Machine) → IsPositiveWithin 44 (level_unit m)
unit_fits m = record { from_one = unit_low m; within = omega (arith, ints, unit_low m, unit_high m) }

pub quanta_positive : (m : Machine) (j : ℕ) → j < state_count m → pos 1 ≤ℤ int_at (quanta m) j
quanta_positive m j h =
    let d : StateInfo = record { name = []; x0 = pos 0; quantum = pos 0 } in
    rw (get_or-map (λ (state : StateInfo). state.quantum) m.states j d (pos 0) h) ((m.has_variables.each_state j d h).quantum_low)

pub quantum_positive : (m : Machine) (j : ℕ) (level : ℤ) → j < state_count m → pos 1 ≤ℤ quantum_of m j level
quantum_positive m j level h = omega (arith, ints, clamps, quanta_positive m j h)

pub unit_le : (k : ℕ) (q : ℤ) → pos 1 ≤ℤ q → pos k ≤ℤ (pos k *ℤ q)
unit_le k (pos zero) h = absurd (omega (arith, ints))
unit_le k (pos (suc b)) h = omega (arith, ints)
unit_le k (negsuc b) h = absurd (omega (arith, ints))

-- ---- near, after a step and at the start

next_near : (m : Machine) (j : ℕ) (state old new : ℤ) → j < state_count m → IsFreeLevel m j state old new →
    pos (unsigned_abs (state -ℤ level_unit m *ℤ new)) <ℤ (level_unit m *ℤ quantum_of m j new)
next_near m j state old new h level = elim level [ inl kept ↦ at_old kept.0 kept.1 | inr free ↦ within free ]
  where
    at_old : is_within_quantum m j state old ≡ true → new ≡ old → pos (unsigned_abs (state -ℤ level_unit m *ℤ new)) <ℤ (level_unit m *ℤ quantum_of m j new)
    at_old e same = subst (λ z. pos (unsigned_abs (state -ℤ level_unit m *ℤ z)) <ℤ (level_unit m *ℤ quantum_of m j z)) (sym same) (int_lt-true _ _ e)

    within : IsWithinOneLevel (level_unit m) state old new → pos (unsigned_abs (state -ℤ level_unit m *ℤ new)) <ℤ (level_unit m *ℤ quantum_of m j new)
    within free = omega (arith, ints, free, unit_le (2 ^ (m.p + m.k)) (quantum_of m j new) (quantum_positive m j new h))

-- a number and what is left when it is rounded down
floor_near : (x d : ℤ) → pos 0 <ℤ d → pos (unsigned_abs (x -ℤ d *ℤ floor_of x d)) <ℤ d
floor_near x d h = let f = floor_meets x d h in omega (arith, ints, f.at_most, f.greatest)

pub start_near : (m : Machine) → IsWithinQuantum m (start_snapshot m)
start_near m j h =
    let e : int_at (start_snapshot m).levels j ≡ level_below (level_unit m) (int_at (start_states m) j) =
    get_or-map (level_below (level_unit m)) (start_states m) j (pos 0) (pos 0) (rw (length-map m.states (λ (state : StateInfo). state.x0)) h) in
    rw e (omega (
      arith,
      ints,
      floor_near (int_at (start_states m) j) (level_unit m) (unit_positive m),
      unit_le (2 ^ (m.p + m.k)) (quantum_of m j (level_below (level_unit m) (int_at (start_states m) j))) (quantum_positive m j (level_below (level_unit m) (int_at (start_states m) j)) h),
    ))

pub step_near : (m : Machine) (tick : ℕ) (w next : Snapshot) → IsStepBy (IsFreeLevel m) m tick w (Ok next) → IsWithinQuantum m next
step_near m tick w next s j h =
    let facts = step_facts (IsFreeLevel m) m tick w next s in
    next_near m j (int_at next.states j) (int_at w.levels j) (int_at next.levels j) h (facts.levels.each j h)

pub steps_near : (m : Machine) (tick : ℕ) (w : Snapshot) (snapshots : List Snapshot) → IsWithinQuantum m w → IsFreeExecution m tick w snapshots → IsWithinQuantum m (last_snapshot w snapshots)
steps_near m tick w [] near steps = near
steps_near m tick w (next ∷ snapshots) near steps = steps_near m (tick + 1) next snapshots (step_near m (tick + 1) w next steps.0) steps.1

-- ---- between two ticks

drift : (x y q f : ℤ) (a b : ℕ) → pos (unsigned_abs (x -ℤ y)) <ℤ q → a ≤ b → 1 ≤ b →
    pos (unsigned_abs (pos b *ℤ x +ℤ pos a *ℤ f -ℤ pos b *ℤ y)) <ℤ (pos b *ℤ (q +ℤ pos (unsigned_abs f)))
drift x y (negsuc n) f a b near low high = absurd (omega (arith, ints))
drift x y (pos n) f a b near low high =
    let closer : suc (unsigned_abs (x -ℤ y)) ≤ n = omega (arith, ints) in
    let apart : b * suc (unsigned_abs (x -ℤ y)) ≤ b * n = mul-le-mul_left b closer in
    let rise : a * unsigned_abs f ≤ b * unsigned_abs f = mul-le-mul_right (unsigned_abs f) low in
    omega (arith, ints, mul-sub (pos b) x y, unsigned_abs-mul (pos b) (x -ℤ y), unsigned_abs-mul (pos a) f)

pub near_stays : (m : Machine) (w : Snapshot) → IsWithinQuantum m w → StaysWithinDrift m w
near_stays m w near j a b h low high =
    drift (int_at w.states j) (level_unit m *ℤ int_at w.levels j) (level_unit m *ℤ quantum_of m j (int_at w.levels j)) (slope_at m j w.levels w.discretes) a b (near j h) low high

pub runs_stay_near : RunsStayWithinDrift
runs_stay_near m snapshots steps = near_stays m (last_snapshot (start_snapshot m) snapshots) (steps_near m 0 (start_snapshot m) snapshots (start_near m) steps)
