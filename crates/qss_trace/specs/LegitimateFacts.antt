-- The facts that make a trace a legitimate run, and the first that fails.
use Rattle.std.specs.Prelude.{◌≡◌, ℕ, ◌-◌, ◌<◌, ◌≤◌, ◌⊎◌, [], ℤ, pos, ◌-ℤ◌, ◌*ℤ◌, ◌≤ℤ◌}
use Rattle.std.specs.Prelude.{unsigned_abs, slice_index_or}
use Rattle.qss_machine.specs.declared.compiled_machine.Machine.{Machine}
use Rattle.mu_num.specs.IndexedSums.{int_at}
use Rattle.qss_machine.specs.Machines.{level_unit, start_states}
use Rattle.qss_machine.specs.Legitimate.{entry_at, scaled_slope}
use Rattle.qss_trace.specs.declared.trace.Trace.{Trace}
use Rattle.qss_trace.specs.declared.trace_checker.Fact.{Fact}
use Rattle.qss_trace.specs.declared.trace_checker.Fact.TheVariants.{Start, Move, Near}
use Rattle.qss_trace.specs.Trace.{count_of, states_of, levels_of}

-- the number of a fact
abbrev pub number_of : Fact → ℕ
number_of Start = 1
number_of Move = 2
number_of Near = 3

-- the places of a fact: start at place 0 only, move from place 1 on, near at each
abbrev pub IsTakenAt : Fact → ℕ → Type 0
IsTakenAt Start place = place ≡ 0
IsTakenAt Move place = 1 ≤ place
IsTakenAt Near place = Unit {0}

-- the left side at a place: the state; its change per tick; its distance from its level
abbrev pub left_of : Machine → Trace → Fact → ℕ → ℕ → ℤ
left_of m t Start place j = entry_at (states_of t) place j
left_of m t Move place j = pos t.refine *ℤ (entry_at (states_of t) place j -ℤ entry_at (states_of t) (place - 1) j)
left_of m t Near place j = pos (unsigned_abs (entry_at (states_of t) place j -ℤ level_unit m *ℤ entry_at (levels_of t) place j))

-- the right side: the machine's start; the slope at the levels of the place before; the quantum
abbrev pub right_of : Machine → Trace → Fact → ℕ → ℕ → ℤ
right_of m t Start place j = pos t.scale *ℤ int_at (start_states m) j
right_of m t Move place j = scaled_slope m t.scale j (slice_index_or (levels_of t) (place - 1) [])
right_of m t Near place j = pos t.scale *ℤ level_unit m *ℤ int_at t.q j

-- the relation that the two sides must satisfy
abbrev pub IsMet : Fact → ℤ → ℤ → Type 0
IsMet Start left right = left ≡ right
IsMet Move left right = left ≡ right
IsMet Near left right = left ≤ℤ right

-- the fact applies to this state at this place
pub record IsTaken (t : Trace) (fact : Fact) (place j : ℕ) : Type 0 where
  pub inside : place < count_of t
  pub state : j < t.n
  pub there : IsTakenAt fact place

-- the fact holds for this state at this place
abbrev pub HoldsAt : Machine → Trace → Fact → ℕ → ℕ → Type 0
HoldsAt m t fact place j = IsMet fact (left_of m t fact place j) (right_of m t fact place j)

-- the order of facts: by place, then by number, then by state
abbrev pub IsBefore : Fact → ℕ → ℕ → Fact → ℕ → ℕ → Type 0
IsBefore fact place j fact' place' j' =
    (place < place') ⊎ ((place ≡ place') × (number_of fact < number_of fact')) ⊎ ((place ≡ place') × (fact ≡ fact') × (j < j'))

-- each fact holds
abbrev pub AllHold : Machine → Trace → Type 0
AllHold m t = (fact : Fact) (place j : ℕ) → IsTaken t fact place j → HoldsAt m t fact place j

-- this fact fails with these two sides, and each one before it holds
pub record IsFirstBroken (m : Machine) (t : Trace) (fact : Fact) (place j : ℕ) (left right : ℤ) : Type 0 where
  pub taken : IsTaken t fact place j
  pub left_is : left ≡ left_of m t fact place j
  pub right_is : right ≡ right_of m t fact place j
  pub fails : IsMet fact left right → ⊥
  pub before : (fact' : Fact) (place' j' : ℕ) → IsTaken t fact' place' j' → IsBefore fact' place' j' fact place j → HoldsAt m t fact' place' j'
