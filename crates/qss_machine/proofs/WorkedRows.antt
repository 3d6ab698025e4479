-- Runs of small machines, computed from the definitions.
use Rattle.qss_machine.proofs.Common
use Common.{[], ℕ, ℤ, ◌+◌, ◌<◌, ◌^◌, ◌∷◌, ◌≡◌, ◌≢◌, ◌≤◌, Action, All-nil, arith, BranchInfo}
use Common.{ClauseInfo, DiscreteInfo, Entry, IsRow, IsStateInfo, IsWithin, List, mode_fits, negsuc}
use Common.{pos, Product, refl, Reinit, Row, run_by, Set, SlopeRow, StateInfo, uses_of, weight_of}
use Rattle.std.proofs.Common.{neg_ℤ, lit<, lit≤}
use Rattle.std.proofs.lemmas.List.Elements.{All-from_recursion}
use Rattle.std.specs.Prelude.{IsTrue}
use Rattle.qss_machine.specs.declared.machine_parts.Form.{Form}
use Rattle.qss_machine.specs.declared.machine_parts.Rel.{Rel}
use Rattle.qss_machine.specs.declared.machine_parts.Rel.TheVariants.{Less, GreaterEq}
use Rattle.qss_machine.specs.declared.machine_parts.RowKind.{RowKind}
use Rattle.qss_machine.specs.MachineLimits.{IsClause}
use Rattle.mu_num.specs.Levels.{floor_level, near_level, inward_level}
use Rattle.qss_machine.specs.Runs.{run_rows}
use Rattle.qss_machine.proofs.Fields.{Parts, IsSound, machine_of}
use Rattle.qss_machine.specs.EventCounts.{visits, touches}
use Rattle.qss_machine.specs.declared.machine_parts.RowKind.TheVariants as kind

-- the rows of the machine's run
abbrev rows_by : (ℤ → ℤ → ℤ → ℤ) → (parts : Parts) → IsSound parts → List Row
rows_by level parts sound = run_rows (machine_of parts sound) (run_by level (machine_of parts sound))

abbrev row : ℕ → RowKind → ℕ → ℤ → ℤ → Row
row tick kind var level state = record { tick = tick; kind = kind; var = var; level = level; state = state }

abbrev state : ℤ → ℤ → StateInfo
state x0 quantum = record { name = []; x0 = x0; quantum = quantum }

abbrev discrete : ℤ → DiscreteInfo
discrete d0 = record { name = []; d0 = d0 }

abbrev entry : ℕ → ℤ → List Entry
entry var coef = record { var = var; coef = coef } ∷ []

abbrev line : List Entry → ℤ → SlopeRow
line entries beta = record { entries = entries; products = []; beta = beta }

abbrev form : List Entry → ℤ → Form
form entries gamma = record { entries = entries; time = pos 0; gamma = gamma }

abbrev branch : Form → Rel → Action → BranchInfo
branch f rel action = record { condition = record { form = f; rel = rel }; actions = action ∷ [] }

abbrev clause : List BranchInfo → ClauseInfo
clause branches = record { branches = branches }

-- ---- x falls at its own size, from 64 levels

abbrev decay : ℕ → ℤ → ℕ → Parts
decay last quantum relative = record {
  p = 8;
  k = 4;
  f = 0;
  last = last;
  states = state (pos 262144) quantum ∷ [];
  discretes = [];
  rows = line (entry 0 (negsuc 255)) (pos 0) ∷ [];
  clauses = [];
  relative = relative;
}

decay_rows : (sound : IsSound (decay 16 (pos 4) 0)) → rows_by floor_level (decay 16 (pos 4) 0) sound ≡
    row 0 kind.Start 0 (pos 64) (pos 262144)
    ∷ row 1 kind.Level 0 (pos 60) (pos 245760)
    ∷ row 3 kind.Level 0 (pos 52) (pos 215040)
    ∷ row 5 kind.Level 0 (pos 46) (pos 188416)
    ∷ row 7 kind.Level 0 (pos 40) (pos 164864)
    ∷ row 9 kind.Level 0 (pos 35) (pos 144384)
    ∷ row 11 kind.Level 0 (pos 30) (pos 126464)
    ∷ row 14 kind.Level 0 (pos 25) (pos 103424)
    ∷ row 16 kind.End 0 (pos 25) (pos 90624)
    ∷ []
decay_rows sound = refl

stopped_rows : (sound : IsSound (decay 0 (pos 4) 0)) → rows_by floor_level (decay 0 (pos 4) 0) sound ≡
    row 0 kind.Start 0 (pos 64) (pos 262144) ∷ row 0 kind.End 0 (pos 64) (pos 262144) ∷ []
stopped_rows sound = refl

abbrev three_ticks : ℤ → List Row
three_ticks level =
    row 0 kind.Start 0 (pos 64) (pos 262144)
    ∷ row 1 kind.Level 0 (pos 60) (pos 245760)
    ∷ row 3 kind.Level 0 level (pos 215040)
    ∷ row 3 kind.End 0 level (pos 215040)
    ∷ []

floor_rows : (sound : IsSound (decay 3 (pos 4) 0)) → rows_by floor_level (decay 3 (pos 4) 0) sound ≡ three_ticks (pos 52)
floor_rows sound = refl

near_rows : (sound : IsSound (decay 3 (pos 4) 0)) → rows_by near_level (decay 3 (pos 4) 0) sound ≡ three_ticks (pos 52)
near_rows sound = refl

inward_rows : (sound : IsSound (decay 3 (pos 4) 0)) → rows_by inward_level (decay 3 (pos 4) 0) sound ≡ three_ticks (pos 53)
inward_rows sound = refl

relative_rows : (sound : IsSound (decay 16 (pos 1) 512)) → rows_by floor_level (decay 16 (pos 1) 512) sound ≡
    row 0 kind.Start 0 (pos 64) (pos 262144)
    ∷ row 2 kind.Level 0 (pos 56) (pos 229376)
    ∷ row 4 kind.Level 0 (pos 49) (pos 200704)
    ∷ row 6 kind.Level 0 (pos 42) (pos 175616)
    ∷ row 9 kind.Level 0 (pos 35) (pos 143360)
    ∷ row 11 kind.Level 0 (pos 30) (pos 125440)
    ∷ row 13 kind.Level 0 (pos 26) (pos 110080)
    ∷ row 16 kind.Level 0 (pos 22) (pos 90112)
    ∷ row 16 kind.End 0 (pos 22) (pos 90112)
    ∷ []
relative_rows sound = refl

-- ---- a ball that bounces

abbrev ball : Parts
ball = record {
  p = 4;
  k = 2;
  f = 2;
  last = 5;
  states = state (pos 256) (pos 1) ∷ state (pos 0) (pos 1) ∷ [];
  discretes = [];
  rows = line (entry 1 (pos 16)) (pos 0) ∷ line [] (neg_ℤ (pos 640)) ∷ [];
  clauses = clause (branch (form (entry 0 (pos 16)) (pos 0)) Less (Reinit 1 (form (entry 1 (neg_ℤ (pos 4))) (pos 0))) ∷ []) ∷ [];
  relative = 0;
}

ball_rows : (sound : IsSound ball) → rows_by floor_level ball sound ≡
    row 0 kind.Start 0 (pos 4) (pos 256)
    ∷ row 0 kind.Start 1 (pos 0) (pos 0)
    ∷ row 1 kind.Level 1 (neg_ℤ (pos 10)) (neg_ℤ (pos 640))
    ∷ row 2 kind.Level 0 (pos 1) (pos 96)
    ∷ row 2 kind.Level 1 (neg_ℤ (pos 20)) (neg_ℤ (pos 1280))
    ∷ row 3 (kind.When 0 0) 0 (pos 0) (pos 0)
    ∷ row 3 kind.Reinit 1 (pos 0) (pos 480)
    ∷ row 3 kind.Level 0 (neg_ℤ (pos 4)) (neg_ℤ (pos 224))
    ∷ row 3 kind.Level 1 (pos 7) (pos 480)
    ∷ row 4 kind.Level 0 (neg_ℤ (pos 2)) (neg_ℤ (pos 112))
    ∷ row 4 kind.Level 1 (neg_ℤ (pos 3)) (neg_ℤ (pos 160))
    ∷ row 5 kind.Level 1 (neg_ℤ (pos 13)) (neg_ℤ (pos 800))
    ∷ row 5 kind.End 0 (neg_ℤ (pos 2)) (neg_ℤ (pos 160))
    ∷ row 5 kind.End 1 (neg_ℤ (pos 13)) (neg_ℤ (pos 800))
    ∷ []
ball_rows sound = refl

-- ---- a condition that is false after its handler

abbrev lifted : Parts
lifted = record {
  p = 4;
  k = 2;
  f = 2;
  last = 2;
  states = state (pos 64) (pos 1) ∷ [];
  discretes = [];
  rows = line [] (neg_ℤ (pos 128)) ∷ [];
  clauses = clause (branch (form (entry 0 (pos 16)) (pos 0)) Less (Reinit 0 (form [] (pos 16))) ∷ []) ∷ [];
  relative = 0;
}

lifted_rows : (sound : IsSound lifted) → rows_by floor_level lifted sound ≡
    row 0 kind.Start 0 (pos 1) (pos 64)
    ∷ row 1 (kind.When 0 0) 0 (pos 0) (pos 0)
    ∷ row 1 kind.Reinit 0 (pos 0) (pos 64)
    ∷ row 2 (kind.When 0 0) 0 (pos 0) (pos 0)
    ∷ row 2 kind.Reinit 0 (pos 0) (pos 64)
    ∷ row 2 kind.End 0 (pos 1) (pos 64)
    ∷ []
lifted_rows sound = refl

-- ---- a state that rises by one, with these clauses

abbrev counter : List ClauseInfo → Parts
counter clauses = record {
  p = 0;
  k = 0;
  f = 0;
  last = 1;
  states = state (pos 0) (pos 1) ∷ [];
  discretes = discrete (pos 0) ∷ [];
  rows = line [] (pos 1) ∷ [];
  clauses = clauses;
  relative = 0;
}

abbrev at_one : Action → BranchInfo
at_one action = branch (form (entry 0 (pos 1)) (negsuc 0)) GreaterEq action

abbrev two_clauses : List ClauseInfo
two_clauses = clause (at_one (Reinit 0 (form [] (pos 0))) ∷ []) ∷ clause (at_one (Set 1 (form (entry 2 (pos 1)) (pos 1))) ∷ []) ∷ []

two_clauses_rows : (sound : IsSound (counter two_clauses)) → rows_by floor_level (counter two_clauses) sound ≡
    row 0 kind.Start 0 (pos 0) (pos 0)
    ∷ row 0 kind.Start 1 (pos 0) (pos 0)
    ∷ row 1 (kind.When 0 0) 0 (pos 0) (pos 0)
    ∷ row 1 kind.Reinit 0 (pos 0) (pos 0)
    ∷ row 1 (kind.When 1 0) 0 (pos 0) (pos 0)
    ∷ row 1 kind.Set 1 (pos 1) (pos 0)
    ∷ row 1 kind.End 0 (pos 0) (pos 0)
    ∷ row 1 kind.End 1 (pos 1) (pos 0)
    ∷ []
two_clauses_rows sound = refl

abbrev two_branches : List ClauseInfo
two_branches = clause (at_one (Set 1 (form [] (pos 1))) ∷ at_one (Set 1 (form [] (pos 2))) ∷ []) ∷ []

two_branches_rows : (sound : IsSound (counter two_branches)) → rows_by floor_level (counter two_branches) sound ≡
    row 0 kind.Start 0 (pos 0) (pos 0)
    ∷ row 0 kind.Start 1 (pos 0) (pos 0)
    ∷ row 1 (kind.When 0 0) 0 (pos 0) (pos 0)
    ∷ row 1 kind.Set 1 (pos 1) (pos 0)
    ∷ row 1 kind.Level 0 (pos 1) (pos 1)
    ∷ row 1 kind.End 0 (pos 1) (pos 1)
    ∷ row 1 kind.End 1 (pos 1) (pos 0)
    ∷ []
two_branches_rows sound = refl

-- ---- a state that overflows

abbrev growth : Parts
growth = record {
  p = 0;
  k = 0;
  f = 0;
  last = 10;
  states = state (pos 1) (pos 1) ∷ [];
  discretes = [];
  rows = line (entry 0 (pos 1000)) (pos 0) ∷ [];
  clauses = [];
  relative = 0;
}

growth_rows : (sound : IsSound growth) → rows_by floor_level growth sound ≡
    row 0 kind.Start 0 (pos 1) (pos 1)
    ∷ row 1 kind.Level 0 (pos 1001) (pos 1001)
    ∷ row 2 kind.Level 0 (pos 1002001) (pos 1002001)
    ∷ row 3 kind.Level 0 (pos 1003003001) (pos 1003003001)
    ∷ row 4 kind.Level 0 (pos 1004006004001) (pos 1004006004001)
    ∷ row 5 kind.Overflow 0 (pos 0) (pos 0)
    ∷ []
growth_rows sound = refl

-- ---- a state whose rate is a discrete variable

abbrev switched : ℕ → ℕ → ℤ → List ClauseInfo → Parts
switched f last d0 clauses = record {
  p = 0;
  k = 0;
  f = f;
  last = last;
  states = state (pos 8) (pos 1) ∷ [];
  discretes = discrete d0 ∷ [];
  rows = record { entries = []; products = record { state = 0; discrete = 1; coef = pos 1 } ∷ []; beta = pos 0 } ∷ [];
  clauses = clauses;
  relative = 0;
}

abbrev turn : List ClauseInfo
turn = clause (branch (form (entry 0 (pos 1)) (neg_ℤ (pos 16))) GreaterEq (Set 1 (form [] (negsuc 0))) ∷ []) ∷ []

switched_rows : (sound : IsSound (switched 0 4 (pos 1) turn)) → rows_by floor_level (switched 0 4 (pos 1) turn) sound ≡
    row 0 kind.Start 0 (pos 8) (pos 8)
    ∷ row 0 kind.Start 1 (pos 1) (pos 0)
    ∷ row 1 (kind.When 0 0) 0 (pos 0) (pos 0)
    ∷ row 1 kind.Set 1 (negsuc 0) (pos 0)
    ∷ row 1 kind.Level 0 (pos 16) (pos 16)
    ∷ row 2 kind.Level 0 (pos 0) (pos 0)
    ∷ row 4 kind.End 0 (pos 0) (pos 0)
    ∷ row 4 kind.End 1 (negsuc 0) (pos 0)
    ∷ []
switched_rows sound = refl

-- the rate 3/2 counts as 2
tied_rows : (sound : IsSound (switched 1 1 (pos 3) [])) → rows_by floor_level (switched 1 1 (pos 3) []) sound ≡
    row 0 kind.Start 0 (pos 8) (pos 8)
    ∷ row 0 kind.Start 1 (pos 3) (pos 0)
    ∷ row 1 kind.Level 0 (pos 24) (pos 24)
    ∷ row 1 kind.End 0 (pos 24) (pos 24)
    ∷ row 1 kind.End 1 (pos 3) (pos 0)
    ∷ []
tied_rows sound = refl

-- ---- the first machine is within the limits

decay_sound : IsSound (decay 16 (pos 4) 0)
decay_sound = record {
  units = record {
    coefficient_bits = lit≤ tt;
    tick_bits = lit≤ tt;
    unit_bits = lit≤ tt;
    level_bits = lit≤ tt;
    state_bits = lit≤ tt;
    last_tick = lit< tt;
    share = lit≤ tt;
  };
  variables = record {
    few = lit≤ tt;
    each_state = All-from_recursion (IsStateInfo (pos (2 ^ (8 + 4)))) (state (pos 262144) (pos 4) ∷ [])
        (record { start = lit≤ tt; level = lit≤ tt; quantum_low = record { le = tt }; quantum_high = record { le = tt } }, tt);
    each_discrete = All-nil (λ (d : DiscreteInfo). IsWithin 43 d.d0);
  };
  row_limits = record {
    one_each = refl;
    each = All-from_recursion (IsRow 1 0) (line (entry 0 (negsuc 255)) (pos 0) ∷ []) (decay_row, tt);
    modes = All-from_recursion (λ (row : SlopeRow). IsTrue (mode_fits 0 1 row [])) (line (entry 0 (negsuc 255)) (pos 0) ∷ []) (refl, tt);
    weights = All-from_recursion (λ (row : SlopeRow). IsWithin 88 (weight_of 0 row (pos 64 ∷ []) [])) (line (entry 0 (negsuc 255)) (pos 0) ∷ []) (lit≤ tt, tt);
  };
  clause_limits = record { each = All-nil (IsClause 1 0); few = lit≤ tt };
}
  where
    decay_row : IsRow 1 0 (line (entry 0 (negsuc 255)) (pos 0))
    decay_row = record {
      entries = record {
        rising = λ k h. absurd (omega (arith, h));
        known = All-from_recursion (λ (e : Entry). e.var < 1) (entry 0 (negsuc 255)) (lit< tt, tt);
        nonzero = All-from_recursion (λ (e : Entry). e.coef ≢ pos 0) (entry 0 (negsuc 255)) ((λ e. cc), tt);
      };
      products = record {
        rising = λ k h. absurd (omega (arith, h));
        of_states = All-nil (λ (p : Product). p.state < 1);
        of_discretes = All-nil (λ (p : Product). (1 ≤ p.discrete) × (p.discrete < 1 + 0));
        nonzero = All-nil (λ (p : Product). p.coef ≢ pos 0);
      };
      coefficients = All-from_recursion (λ (e : Entry). IsWithin 44 e.coef) (entry 0 (negsuc 255)) (lit≤ tt, tt);
      factors = All-nil (λ (p : Product). IsWithin 44 p.coef);
      constant = lit≤ tt;
    }

-- ---- time, a plain rate and a rounded one

abbrev clock : Parts
clock = record {
  p = 0;
  k = 1;
  f = 1;
  last = 2;
  states = state (pos 0) (pos 1) ∷ [];
  discretes = discrete (pos 0) ∷ [];
  rows = line [] (pos 0) ∷ [];
  clauses = clause (branch (record { entries = []; time = pos 1; gamma = negsuc 0 }) GreaterEq (Set 1 (form [] (pos 6))) ∷ []) ∷ [];
  relative = 0;
}

clock_rows : (sound : IsSound clock) → rows_by floor_level clock sound ≡
    row 0 kind.Start 0 (pos 0) (pos 0)
    ∷ row 0 kind.Start 1 (pos 0) (pos 0)
    ∷ row 1 (kind.When 0 0) 0 (pos 0) (pos 0)
    ∷ row 1 kind.Set 1 (pos 6) (pos 0)
    ∷ row 2 kind.End 0 (pos 0) (pos 0)
    ∷ row 2 kind.End 1 (pos 6) (pos 0)
    ∷ []
clock_rows sound = refl

abbrev rate : ℕ → ℤ → ℤ → Parts
rate p x0 coef = record {
  p = p;
  k = 0;
  f = 0;
  last = 1;
  states = state x0 (pos 1) ∷ [];
  discretes = [];
  rows = line (entry 0 coef) (pos 0) ∷ [];
  clauses = [];
  relative = 0;
}

plain_rate_rows : (sound : IsSound (rate 0 (pos 1) (negsuc 1))) → rows_by floor_level (rate 0 (pos 1) (negsuc 1)) sound ≡
    row 0 kind.Start 0 (pos 1) (pos 1) ∷ row 1 kind.Level 0 (negsuc 0) (negsuc 0) ∷ row 1 kind.End 0 (negsuc 0) (negsuc 0) ∷ []
plain_rate_rows sound = refl

rounded_rate_rows : (sound : IsSound (rate 8 (pos 2560) (neg_ℤ (pos 26)))) → rows_by floor_level (rate 8 (pos 2560) (neg_ℤ (pos 26))) sound ≡
    row 0 kind.Start 0 (pos 10) (pos 2560) ∷ row 1 kind.Level 0 (pos 8) (pos 2300) ∷ row 1 kind.End 0 (pos 8) (pos 2300) ∷ []
rounded_rate_rows sound = refl

-- ---- counts

decay_visits : (sound : IsSound (decay 16 (pos 4) 0)) →
    visits (machine_of (decay 16 (pos 4) 0) sound) (run_by floor_level (machine_of (decay 16 (pos 4) 0) sound)) ≡ 8
decay_visits sound = refl

decay_touches : (sound : IsSound (decay 16 (pos 4) 0)) →
    touches (machine_of (decay 16 (pos 4) 0) sound) (run_by floor_level (machine_of (decay 16 (pos 4) 0) sound)) ≡ 8
decay_touches sound = refl

switched_visits : (sound : IsSound (switched 0 4 (pos 1) turn)) →
    visits (machine_of (switched 0 4 (pos 1) turn) sound) (run_by floor_level (machine_of (switched 0 4 (pos 1) turn) sound)) ≡ 3
switched_visits sound = refl

switched_touches : (sound : IsSound (switched 0 4 (pos 1) turn)) →
    touches (machine_of (switched 0 4 (pos 1) turn) sound) (run_by floor_level (machine_of (switched 0 4 (pos 1) turn) sound)) ≡ 3
switched_touches sound = refl

-- ---- who reads what

rate_uses : (sound : IsSound (rate 0 (pos 1) (negsuc 1))) → uses_of (machine_of (rate 0 (pos 1) (negsuc 1)) sound) ≡
    ((0 ∷ []) ∷ [], [] ∷ [], (negsuc 1 ∷ []) ∷ [])
rate_uses sound = refl

ball_uses : (sound : IsSound ball) → uses_of (machine_of ball sound) ≡
    ([] ∷ (0 ∷ []) ∷ [], (0 ∷ []) ∷ [] ∷ [], [] ∷ (pos 16 ∷ []) ∷ [])
ball_uses sound = refl

switched_uses : (sound : IsSound (switched 0 4 (pos 1) turn)) →
    uses_of (machine_of (switched 0 4 (pos 1) turn) sound) ≡
    ((0 ∷ []) ∷ (0 ∷ []) ∷ [], (0 ∷ []) ∷ [] ∷ [] ∷ [], (pos 0 ∷ []) ∷ (pos 0 ∷ []) ∷ [])
switched_uses sound = refl

clock_uses : (sound : IsSound clock) → uses_of (machine_of clock sound) ≡ ([] ∷ [] ∷ [], [] ∷ [] ∷ [] ∷ [], [] ∷ [] ∷ [])
clock_uses sound = refl
