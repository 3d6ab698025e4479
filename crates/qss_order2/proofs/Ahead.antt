-- Under the nearest rule a call does the first part of what was ahead: the rows to come, and the
-- overflow with which
-- the run ends.
use Rattle.qss_order2.proofs.Common
use Common.{[], ℕ, ◌++◌, ◌+◌, ◌-◌, ◌<◌, ◌∙◌, ◌∷◌, ◌≡◌, ap, arith, Done, end_rows, EndsAs, Err}
use Common.{Events, first_exceeding_limit, inl, inr, IsAble, IsNext2, IsRuled2, IsSecondStep}
use Common.{IsStart2, IsStarted, last_second_snapshot, LeadsSilently2, length, List, Machine}
use Common.{nearest_change, None, Ok, Option, Outcome2, Over, overflow_ahead, overflow_row}
use Common.{Overflows, Past, refl, Result, Row2, rows2_after, rows2_left, run2_by, run2_rows}
use Common.{second_order_run, second_start, second_step, SecondRunView, SecondSnapshot, SlopeRuleOf}
use Common.{snapshots_from, snapshots_unless, snapshots_with, Some, start_rows, suc, sym}
use Common.{tick_rows2, true, zero}
use Rattle.std.proofs.Common.{append-nil}
use Rattle.qss_order2.proofs.Uniqueness.{step2_only, start2_only, changes_by}
use Rattle.qss_order2.specs.Events.{GoesOn2}

pub named_step : (m : Machine) (tick : ℕ) (w : SecondSnapshot) (result : Result SecondSnapshot ℕ) →
    IsSecondStep (IsRuled2 true) m tick w result → result ≡ second_step nearest_change m tick w
named_step m tick w result s = step2_only nearest_change m tick w result (
  s.0,
  changes_by (IsRuled2 true) (SlopeRuleOf nearest_change) (λ rise z answer. answer.named refl) s.1,
  s.2,
)

named_start : (m : Machine) (w : SecondSnapshot) → IsStart2 (IsRuled2 true) m w →
    w ≡ second_start nearest_change m
named_start m w s = start2_only nearest_change m w (record {
  states = s.states;
  levels = s.levels;
  changes = changes_by (IsRuled2 true) (SlopeRuleOf nearest_change) (λ rise z answer. answer.named
      refl) s.changes;
})

-- the rows and the overflow after a snapshot that these snapshots follow
abbrev after_of : Machine → ℕ → SecondSnapshot → List SecondSnapshot × Option Past →
    List Row2 × Option Past
after_of m tick w after = (rows2_after m tick w after.0 after.1, after.1)

abbrev after_over : ℕ → ℕ → List Row2 × Option Past
after_over tick var =
    let past : Past = record { tick = tick; var = var } in (overflow_row past ∷ [], Some past)

-- the rows and the overflow of the `count` ticks after a snapshot
abbrev after_in : Machine → ℕ → ℕ → SecondSnapshot → List Row2 × Option Past
after_in m count tick w = after_of m tick w (snapshots_from nearest_change m count tick w)

module _ (m : Machine) where
  abbrev after_by : ℕ → ℕ → SecondSnapshot → Result SecondSnapshot ℕ → List Row2 × Option Past
  after_by count tick w r = after_of m tick w (snapshots_with r (tick + 1) (λ next.
      snapshots_from nearest_change m count (tick + 1) next))

  -- event-free ticks change nothing
  after_silent : (count tick rest at : ℕ) (w : SecondSnapshot) (silent : List SecondSnapshot) →
      LeadsSilently2 (IsRuled2 true) m tick w silent → count ≡ length silent + rest →
      at ≡ tick + length silent →
      after_in m count tick w ≡ after_in m rest at (last_second_snapshot w silent)
  after_silent count tick rest at w [] leads many there =
      let e : count ≡ rest = omega arith in
      let f : at ≡ tick = omega arith in
      rw (e, f)
  after_silent zero tick rest at w (next ∷ silent) leads many there = absurd (omega arith)
  after_silent (suc count) tick rest at w (next ∷ silent) leads many there =
      ap (after_by count tick w) (sym (named_step m (tick + 1) w (Ok next) leads.0))
      ∙ ap (λ (rows : List Row2). (
        rows ++ (after_in m count (tick + 1) next).0,
        (after_in m count (tick + 1) next).1,
      )) leads.1
      ∙ after_silent count (tick + 1) rest at next silent leads.2 (omega arith) (omega arith)

-- what is ahead of a simulator
abbrev ahead : SecondRunView → List Row2 × Option Past
ahead s = after_of s.machine s.tick s.snapshot (snapshots_unless s.tick (first_exceeding_limit
    s.machine s.snapshot.levels s.snapshot.changes) (snapshots_from nearest_change s.machine
    (s.machine.last - s.tick) s.tick s.snapshot))

ahead_by : (s : SecondRunView) (o : Option ℕ) → first_exceeding_limit s.machine s.snapshot.levels
    s.snapshot.changes ≡ o → ahead s ≡ after_of s.machine s.tick s.snapshot (snapshots_unless s.tick
    o (snapshots_from nearest_change s.machine (s.machine.last - s.tick) s.tick s.snapshot))
ahead_by s o e = rw e

module _ (s : SecondRunView) (silent : List SecondSnapshot) (goes : GoesOn2 (IsRuled2 true) s
    silent)
  where
    abbrev last : SecondSnapshot
    last = last_second_snapshot s.snapshot silent

    ahead_on : (rest at : ℕ) → s.machine.last - s.tick ≡ length silent + rest →
        at ≡ s.tick + length silent → ahead s ≡ after_in s.machine rest at last
    ahead_on rest at many there = ahead_by s None goes.within
        ∙ after_silent s.machine _ s.tick rest at s.snapshot silent goes.leads many there

    -- one more tick
    ahead_step : (at : ℕ) (result : Result SecondSnapshot ℕ) → at ≡ s.tick + length silent →
        at < s.machine.last → IsSecondStep (IsRuled2 true) s.machine (at + 1) last result →
        ahead s ≡ after_by s.machine (s.machine.last - (at + 1)) at last result
    ahead_step at result there in_time step =
        ahead_on (suc (s.machine.last - (at + 1))) at (omega arith) there
        ∙ ap (after_by s.machine (s.machine.last - (at + 1)) at last)
        (sym (named_step s.machine (at + 1) last result step))

    ahead_done : s.tick + length silent ≡ s.machine.last →
        ahead s ≡ (end_rows s.machine s.machine.last last, None)
    ahead_done end = ahead_on 0 s.machine.last (omega arith) (sym end)

ahead_over : (s : SecondRunView) (tick var : ℕ) → Overflows (IsRuled2 true) s tick var →
    ahead s ≡ after_over tick var
ahead_over s zero var over = ahead_by s (Some var) over.1
    ∙ ap (λ (t : ℕ). after_over t var) over.0
ahead_over s (suc tick) var over =
    let e : tick + 1 ≡ suc tick = omega arith in
    ahead_step s over.0 over.1 tick (Err var) over.2 over.3 over.4
    ∙ ap (λ (t : ℕ). after_over t var) e

-- a call that does not end the run prints the first rows that were ahead
ahead_event : (now new : SecondRunView) (tick : ℕ) → new.machine ≡ now.machine →
    IsNext2 (IsRuled2 true) now new (Events tick) →
    first_exceeding_limit new.machine new.snapshot.levels new.snapshot.changes ≡ None →
    ahead now ≡ (new.rows ++ (ahead new).0, (ahead new).1)
ahead_event now new tick same n within =
    let is = n.1 in
    let at = now.tick + length n.0 in
    let e : at + 1 ≡ new.tick = omega (arith, is.here, is.is_next) in
    let f : tick ≡ new.tick = sym is.here in
    let last = last_second_snapshot now.snapshot n.0 in
    let after = after_in now.machine (now.machine.last - new.tick) new.tick new.snapshot in
    let step = rw (is.is_next) at is.is_step in
    ahead_step now n.0 is.goes at (Ok new.snapshot) refl (omega (arith, is.in_time, is.is_next))
    step
    ∙ ap (λ (t : ℕ). (
      tick_rows2 now.machine t last new.snapshot ++ (after_in now.machine
          (now.machine.last - t) t new.snapshot).0,
      (after_in now.machine (now.machine.last - t) t
          new.snapshot).1,
    )) e
    ∙ ap (λ (rows : List Row2). (rows ++ after.0, after.1)) (ap (λ (t : ℕ). tick_rows2 now.machine t
    last new.snapshot) (sym f) ∙ sym is.own_rows)
    ∙ ap (λ (k : Machine). (
      new.rows ++ (after_in k (k.last - new.tick) new.tick new.snapshot).0,
      (after_in k (k.last - new.tick) new.tick new.snapshot).1,
    )) (sym same)
    ∙ ap (λ (p : List Row2 × Option Past). (new.rows ++ p.0, p.1)) (sym (ahead_by new None within))

-- the rows of a call are the first of those that were to come
pub named_rows : (now new : SecondRunView) (outcome : Outcome2) → now.end ≡ None →
    new.machine ≡ now.machine → (new.end ≡ None → first_exceeding_limit new.machine
    new.snapshot.levels new.snapshot.changes ≡ None) → IsNext2 (IsRuled2 true) now new outcome →
    rows2_left nearest_change now ≡ new.rows ++ rows2_left nearest_change new
named_rows now new (Events tick) going same within n =
    rw (going, n.2) (ap (λ p. p.0) (ahead_event now new tick same n (within n.2)))
named_rows now new Done going same within n =
    rw (going, n.2, append-nil) (ap (λ p. p.0) (ahead_done now n.0 n.1.goes n.1.at_last)
    ∙ ap (end_rows now.machine now.machine.last) (sym n.1.snapshot) ∙ sym n.1.own_rows)
named_rows now new (Over tick var) going same within n =
    rw (going, n.1, append-nil) (ap (λ p. p.0) (ahead_over now tick var n.0.overflows)
    ∙ sym n.0.own_rows)

-- ---- how the run ends

pub able_before : (now new : SecondRunView) (outcome : Outcome2) →
    IsNext2 (IsRuled2 true) now new outcome → IsAble now
able_before now new (Events tick) n = inl n.1.goes.within
able_before now new Done n = inl n.1.goes.within
able_before now new (Over zero var) n = inr n.0.overflows.0
able_before now new (Over (suc tick) var) n = inl n.0.overflows.1.within

-- after an event the overflow ahead is the one that was ahead
pub event_end : (now new : SecondRunView) (tick : ℕ) → new.machine ≡ now.machine →
    IsNext2 (IsRuled2 true) now new (Events tick) → IsAble new →
    overflow_ahead now ≡ overflow_ahead new
event_end now new tick same n (inl within) = ap (λ p. p.1) (ahead_event now new tick same n within)
event_end now new tick same n (inr start) = absurd (omega (arith, start, n.1.here, n.1.is_next))

-- at the last tick there is none, and an overflow is that one
pub done_end : (now new : SecondRunView) → IsNext2 (IsRuled2 true) now new Done →
    EndsAs Done (overflow_ahead now)
done_end now new n = ap (λ p. p.1) (ahead_done now n.0 n.1.goes n.1.at_last)

pub over_end : (now new : SecondRunView) (tick var : ℕ) → IsNext2 (IsRuled2 true) now new
    (Over tick var) → EndsAs (Over tick var) (overflow_ahead now)
over_end now new tick var n = ap (λ p. p.1) (ahead_over now tick var n.0.overflows)

-- ---- from the start all of the run is ahead

start_ahead : (m : Machine) (s : SecondRunView) → IsStarted (IsRuled2 true) m s →
    ahead s ≡ after_of m 0 (run2_by nearest_change m).start
    ((run2_by nearest_change m).snapshots, (run2_by nearest_change m).overflow)
start_ahead m s started =
    let all : m.last - 0 ≡ m.last = omega arith in
    rw (started.machine, started.tick, named_start m s.snapshot started.begins, all)

pub start_over : (m : Machine) (s : SecondRunView) → IsStarted (IsRuled2 true) m s →
    overflow_ahead s ≡ (second_order_run m).overflow
start_over m s started = ap (λ p. p.1) (start_ahead m s started)

-- the rows of the start and all that are left there are those of the run
pub all_rows : (m : Machine) (s : SecondRunView) → IsStarted (IsRuled2 true) m s →
    s.rows ++ rows2_left nearest_change s ≡ run2_rows m (run2_by nearest_change m)
all_rows m s started =
    rw (started.end, started.rows) (ap (λ p. start_rows m s.snapshot ++ p.0)
    (start_ahead m s started) ∙ ap (λ (w : SecondSnapshot). start_rows m w ++ rows2_after m 0
    (second_start nearest_change m) (run2_by nearest_change m).snapshots
    (run2_by nearest_change m).overflow) (named_start m s.snapshot started.begins))
