-- Ticks without rows, one after another, under whichever rule.
use Rattle.qss_events.proofs.Common
use Common.{[], ℕ, ℤ, ◌++◌, ◌+◌, ◌-◌, ◌<◌, ◌∙◌, ◌∷◌, ◌≡◌, ◌≤◌, ap, AreEventFree, arith, Bool, false}
use Common.{handlers_at, if◌then◌else◌, int_at, is_within_quantum, IsAllowedLevel, IsEventFree}
use Common.{IsEventFreeExecution, IsStep, last_snapshot, length, level_by, level_unit, List}
use Common.{Machine, MatchBool, MayFollowTick, nat_lt, nat_tests, NoneRises, Ok, refl, Result, Row}
use Common.{rows_from, Rule, Snapshot, snapshot_after, Some, step, subst, suc, sym, true, zero}
use Rattle.qss_machine.specs.Ticks.{RuleOf}
use Rattle.qss_machine.proofs.OneRun.{step_only}
use Rattle.qss_events.proofs.Forced.{allowed}
use Rattle.qss_events.proofs.Skipped.{settled_twice, quiet_more, world_more, quiet_rows, rows_step}

-- the snapshots of event-free ticks
abbrev pub quiet_worlds : Machine → Snapshot → ℕ → List Snapshot
quiet_worlds m w zero = []
quiet_worlds m w (suc ticks) = snapshot_after m w 1 ∷ quiet_worlds m (snapshot_after m w 1) ticks

pub quiet_leads : (Rule : ℤ → ℤ → ℤ → ℤ → Type 0) (m : Machine) (tick : ℕ) (w : Snapshot) (ticks : ℕ) → MayFollowTick m w → NoneRises w →
    ((t : ℕ) → 0 < t → t ≤ ticks → IsEventFree m tick w t) → AreEventFree Rule m tick w (quiet_worlds m w ticks) (tick + ticks) (snapshot_after m w ticks)
quiet_leads Rule m tick w zero left none quiet = record { leads = tt; as_many = refl; reached = refl }
quiet_leads Rule m tick w (suc ticks) left none quiet =
    let first : IsEventFree m tick w 1 = quiet 1 (omega arith) (omega arith) in
    let rest = quiet_leads Rule m (tick + 1) (snapshot_after m w 1) ticks
    (record { one_each = left.one_each; small_levels = left.small_levels; light = left.light }) (settled_twice w.after_handlers)
    (λ t positive below. quiet_more m tick w t (quiet (suc t) (omega arith) (omega (arith, below)))) in
    record {
      leads = (allowed Rule m tick w (Ok (snapshot_after m w 1)) left none first refl, quiet_rows m tick w left none first, rest.leads);
      as_many = omega (arith, rest.as_many);
      reached = rest.reached ∙ world_more m w ticks;
    }

pub leads_on : (Rule : ℤ → ℤ → ℤ → ℤ → Type 0) (m : Machine) (tick : ℕ) (w : Snapshot) (a b : List Snapshot) → IsEventFreeExecution Rule m tick w a →
    IsEventFreeExecution Rule m (tick + length a) (last_snapshot w a) b → IsEventFreeExecution Rule m tick w (a ++ b)
leads_on Rule m tick w [] b first more = let e : tick + 0 ≡ tick = omega arith in subst (λ t. IsEventFreeExecution Rule m t w b) e more
leads_on Rule m tick w (next ∷ a) b first more =
    let e : tick + suc (length a) ≡ (tick + 1) + length a = omega arith in
    (first.0, first.1, leads_on Rule m (tick + 1) next a b first.2 (subst (λ t. IsEventFreeExecution Rule m t (last_snapshot next a) b) e more))

pub last-append : (w : Snapshot) (a b : List Snapshot) → last_snapshot w (a ++ b) ≡ last_snapshot (last_snapshot w a) b
last-append w [] b = refl
last-append w (next ∷ a) b = last-append next a b

-- the truth values on arrival after a number of ticks without a change
abbrev pub arrived_then : ℕ → List Bool → List Bool → List Bool
arrived_then zero at_arrival after_handlers = at_arrival
arrived_then (suc ticks) at_arrival after_handlers = after_handlers

-- they are those after the handlers, where a tick is skipped
pub arrived_if : (tick next k : ℕ) (at_arrival after_handlers : List Bool) → tick + k ≡ next - 1 → tick < next → (if nat_lt (tick + 1) next then after_handlers else at_arrival) ≡ arrived_then k at_arrival after_handlers
arrived_if tick next zero at_arrival after_handlers e later =
    let no : nat_lt (tick + 1) next ≡ false = grind (arith, nat_tests) in
    ap (λ b. if b then after_handlers else at_arrival) no
arrived_if tick next (suc k) at_arrival after_handlers e later =
    let yes : nat_lt (tick + 1) next ≡ true = grind (arith, nat_tests) in
    ap (λ b. if b then after_handlers else at_arrival) yes

-- ---- a rule with a name

named_level : (rule : Rule) (m : Machine) (j : ℕ) (state old new : ℤ) (near : Bool) → MatchBool near (new ≡ old) (IsAllowedLevel (Some rule) (level_unit m) state old new) →
    MatchBool near (new ≡ old) (RuleOf (level_by rule) (level_unit m) state old new)
named_level rule m j state old new true e = e
named_level rule m j state old new false e = e.named rule refl

pub named_step : (rule : Rule) (m : Machine) (tick : ℕ) (w : Snapshot) (result : Result Snapshot ℕ) → IsStep (IsAllowedLevel (Some rule)) m tick w result → result ≡ step (level_by rule) m tick w
named_step rule m tick w result s =
    step_only (level_by rule) m tick w result (
      s.0,
      (λ calm. let are = s.1 calm in record {
        one_each = are.one_each;
        each = λ j h. named_level rule m j _ _ _ (is_within_quantum m j (int_at (handlers_at m tick w).states j) (int_at w.levels j)) (are.each j h);
      }),
      s.2,
    )

pub silent_rows : (rule : Rule) (m : Machine) (tick : ℕ) (w : Snapshot) (silent : List Snapshot) (rest : ℕ) → IsEventFreeExecution (IsAllowedLevel (Some rule)) m tick w silent →
    rows_from (level_by rule) m (length silent + rest) tick w ≡ rows_from (level_by rule) m rest (tick + length silent) (last_snapshot w silent)
silent_rows rule m tick w [] rest leads =
    let e : 0 + rest ≡ rest = omega arith in
    let f : tick + 0 ≡ tick = omega arith in
    ap (λ n. rows_from (level_by rule) m n tick w) e ∙ ap (λ t. rows_from (level_by rule) m rest t w) (sym f)
silent_rows rule m tick w (next ∷ silent) rest leads =
    let e : suc (length silent) + rest ≡ suc (length silent + rest) = omega arith in
    let f : (tick + 1) + length silent ≡ tick + suc (length silent) = omega arith in
    ap (λ n. rows_from (level_by rule) m n tick w) e
    ∙ rows_step (level_by rule) m (length silent + rest) tick w next (sym (named_step rule m (tick + 1) w (Ok next) leads.0))
    ∙ ap (λ (rows : List Row). rows ++ rows_from (level_by rule) m (length silent + rest) (tick + 1) next) leads.1
    ∙ silent_rows rule m (tick + 1) next silent rest leads.2
    ∙ ap (λ t. rows_from (level_by rule) m rest t (last_snapshot next silent)) f
