-- How a run ends, from a later tick on.
use Rattle.qss_events.proofs.Common
use Common.{[], ℕ, ◌+◌, ◌-◌, ◌<◌, ◌∙◌, ◌∷◌, ◌≡◌, ap, arith, Done, EndsFrom, Err, Events}
use Common.{IsAllowedLevel, IsEventFreeExecution, IsNext, last_snapshot, length, level_by, List}
use Common.{Machine, None, Ok, Option, Outcome, Over, remaining_run, Result, rows_from, rows_left}
use Common.{Rule, Run, run_from, run_with, RunView, Snapshot, Some, step, subst, suc, sym}
use Common.{unless_ended}
use Rattle.qss_events.proofs.Silences.{named_step}

-- the last tick of a run's snapshots, and the variable that then overflowed
abbrev pub end_of : ℕ → Run → ℕ × Option ℕ
end_of tick run = (tick + length run.snapshots, run.overflow)

abbrev pub run_at : Rule → Machine → ℕ → ℕ → Snapshot → Run
run_at rule m more tick w = run_from (level_by rule) m more tick w

end_next : (rule : Rule) (m : Machine) (more tick : ℕ) (w next : Snapshot) → step (level_by rule) m (tick + 1) w ≡ Ok next →
    end_of tick (run_at rule m (suc more) tick w) ≡ end_of (tick + 1) (run_at rule m more (tick + 1) next)
end_next rule m more tick w next e =
    let rest = run_at rule m more (tick + 1) next in
    let count : tick + suc (length rest.snapshots) ≡ (tick + 1) + length rest.snapshots = omega arith in
    ap (λ (r : Result Snapshot ℕ). end_of tick (run_with r (λ next. run_at rule m more (tick + 1) next))) e
    ∙ ap (λ (n : ℕ). (n, rest.overflow)) count

end_over : (rule : Rule) (m : Machine) (more tick : ℕ) (w : Snapshot) (var : ℕ) → step (level_by rule) m (tick + 1) w ≡ Err var →
    end_of tick (run_at rule m (suc more) tick w) ≡ (tick + 0, Some var)
end_over rule m more tick w var e =
    ap (λ (r : Result Snapshot ℕ). end_of tick (run_with r (λ next. run_at rule m more (tick + 1) next))) e

end_silent : (rule : Rule) (m : Machine) (tick : ℕ) (w : Snapshot) (silent : List Snapshot) (rest : ℕ) → IsEventFreeExecution (IsAllowedLevel (Some rule)) m tick w silent →
    end_of tick (run_at rule m (length silent + rest) tick w) ≡ end_of (tick + length silent) (run_at rule m rest (tick + length silent) (last_snapshot w silent))
end_silent rule m tick w [] rest leads =
    let e : 0 + rest ≡ rest = omega arith in
    let f : tick + 0 ≡ tick = omega arith in
    ap (λ n. end_of tick (run_at rule m n tick w)) e ∙ ap (λ t. end_of t (run_at rule m rest t w)) (sym f)
end_silent rule m tick w (next ∷ silent) rest leads =
    let e : suc (length silent) + rest ≡ suc (length silent + rest) = omega arith in
    let f : (tick + 1) + length silent ≡ tick + suc (length silent) = omega arith in
    ap (λ n. end_of tick (run_at rule m n tick w)) e
    ∙ end_next rule m (length silent + rest) tick w next (sym (named_step rule m (tick + 1) w (Ok next) leads.0))
    ∙ end_silent rule m (tick + 1) next silent rest leads.2
    ∙ ap (λ t. end_of t (run_at rule m rest t (last_snapshot next silent))) f

end_from : (rule : Rule) (m : Machine) (tick : ℕ) (w : Snapshot) (silent : List Snapshot) (rest : ℕ) → IsEventFreeExecution (IsAllowedLevel (Some rule)) m tick w silent → length silent + rest ≡ m.last - tick →
    end_of tick (run_at rule m (m.last - tick) tick w) ≡ end_of (tick + length silent) (run_at rule m rest (tick + length silent) (last_snapshot w silent))
end_from rule m tick w silent rest leads e = ap (λ n. end_of tick (run_at rule m n tick w)) (sym e) ∙ end_silent rule m tick w silent rest leads

-- what a call of a simulator says of the end of its run
abbrev pub EndIs : Rule → RunView → RunView → Outcome → Type 0
EndIs rule now new (Events tick) = end_of now.tick (remaining_run rule now) ≡ end_of new.tick (remaining_run rule new)
EndIs rule now new Done = EndsFrom Done now.tick (remaining_run rule now)
EndIs rule now new (Over tick var) = EndsFrom (Over tick var) now.tick (remaining_run rule now)

pub end_is : (rule : Rule) (now new : RunView) (outcome : Outcome) → new.machine ≡ now.machine → IsNext (IsAllowedLevel (Some rule)) now new outcome → EndIs rule now new outcome
end_is rule now new (Events tick) same n =
    let m = now.machine in
    let is = n.1 in
    let left : length n.0 + suc (m.last - tick) ≡ m.last - now.tick = omega (arith, is.is_next, is.in_time) in
    let place : now.tick + length n.0 + 1 ≡ tick = sym is.is_next in
    let stepped : step (level_by rule) m (now.tick + length n.0 + 1) (last_snapshot now.snapshot n.0) ≡ Ok new.snapshot =
    ap (λ t. step (level_by rule) m t (last_snapshot now.snapshot n.0)) place ∙ sym (named_step rule m tick (last_snapshot now.snapshot n.0) (Ok new.snapshot) is.is_step) in
    end_from rule m now.tick now.snapshot n.0 (suc (m.last - tick)) is.leads left
    ∙ end_next rule m (m.last - tick) (now.tick + length n.0) (last_snapshot now.snapshot n.0) new.snapshot stepped
    ∙ ap (λ t. end_of t (run_at rule m (m.last - tick) t new.snapshot)) place
    ∙ ap (λ t. end_of t (run_at rule m (m.last - t) t new.snapshot)) (sym is.here)
    ∙ ap (λ (k : Machine). end_of new.tick (run_at rule k (k.last - new.tick) new.tick new.snapshot)) (sym same)
end_is rule now new Done same n =
    let m = now.machine in
    let is = n.1 in
    let left : length n.0 + 0 ≡ m.last - now.tick = omega (arith, is.at_last) in
    ap (λ (e : ℕ × Option ℕ). e.1) (end_from rule m now.tick now.snapshot n.0 0 is.leads left)
end_is rule now new (Over tick var) same n =
    let m = now.machine in
    let is = n.1 in
    let left : length n.0 + suc (m.last - tick) ≡ m.last - now.tick = omega (arith, is.is_next, is.in_time) in
    let place : now.tick + length n.0 + 1 ≡ tick = sym is.is_next in
    let stepped : step (level_by rule) m (now.tick + length n.0 + 1) (last_snapshot now.snapshot n.0) ≡ Err var =
    ap (λ t. step (level_by rule) m t (last_snapshot now.snapshot n.0)) place ∙ sym (named_step rule m tick (last_snapshot now.snapshot n.0) (Err var) is.is_step) in
    let end = end_from rule m now.tick now.snapshot n.0 (suc (m.last - tick)) is.leads left
    ∙ end_over rule m (m.last - tick) (now.tick + length n.0) (last_snapshot now.snapshot n.0) var stepped in
    let count : now.tick + length (remaining_run rule now).snapshots ≡ now.tick + length n.0 + 0 = ap (λ (e : ℕ × Option ℕ). e.0) end in
    (ap (λ (e : ℕ × Option ℕ). e.1) end, omega (arith, count, is.is_next))

-- a run that goes on to another ends as that one
pub same_end : (outcome : Outcome) (now first_view : ℕ) (run whole : Run) → end_of now run ≡ end_of first_view whole → EndsFrom outcome now run → EndsFrom outcome first_view whole
same_end (Events tick) now first_view run whole e ends = ends
same_end Done now first_view run whole e ends = sym (ap (λ (p : ℕ × Option ℕ). p.1) e) ∙ ends
same_end (Over tick var) now first_view run whole e ends =
    let count : now + length run.snapshots ≡ first_view + length whole.snapshots = ap (λ (p : ℕ × Option ℕ). p.0) e in
    (sym (ap (λ (p : ℕ × Option ℕ). p.1) e) ∙ ends.0, omega (arith, count, ends.1))

-- no rows are left of a run that has ended
pub none_left : (rule : Rule) (s : RunView) (end : Outcome) → s.end ≡ Some end → rows_left (level_by rule) s ≡ []
none_left rule s end e = ap (λ (o : Option Outcome). unless_ended o (rows_from (level_by rule) s.machine (s.machine.last - s.tick) s.tick s.snapshot)) e

-- what a call of a simulator does, with the name of its rule
pub record IsCall (rule : Rule) (now new : RunView) (outcome : Outcome) : Type 0 where
  pub machine : new.machine ≡ now.machine
  pub next : IsNext (IsAllowedLevel (Some rule)) now new outcome

pub call_of : (name : Option Rule) (rule : Rule) (now new : RunView) (what outcome : Outcome) → name ≡ Some rule → new.machine ≡ now.machine → what ≡ outcome → IsNext (IsAllowedLevel name) now new what →
    IsCall rule now new outcome
call_of name rule now new what outcome e machine is n = record {
  machine = machine;
  next = subst (λ (o : Outcome). IsNext (IsAllowedLevel (Some rule)) now new o) is (subst (λ (k : Option Rule). IsNext (IsAllowedLevel k) now new what) e n);
}

-- the next event is at a later tick, and the run continues from this event
pub event_unended : (rule : Rule) (now new : RunView) (tick : ℕ) → IsCall rule now new (Events tick) → new.end ≡ None
event_unended rule now new tick call = call.next.2

pub event_later : (rule : Rule) (now new : RunView) (tick : ℕ) → IsCall rule now new (Events tick) → new.machine.last - new.tick < now.machine.last - now.tick
event_later rule now new tick call =
    let is = call.next.1 in
    let last : new.machine.last ≡ now.machine.last = ap (λ (m : Machine). m.last) call.machine in
    omega (arith, last, is.here, is.is_next, is.in_time)

pub event_end : (rule : Rule) (now new : RunView) (tick : ℕ) → IsCall rule now new (Events tick) → end_of now.tick (remaining_run rule now) ≡ end_of new.tick (remaining_run rule new)
event_end rule now new tick call = end_is rule now new (Events tick) call.machine call.next

pub done_left : (rule : Rule) (now new : RunView) → IsCall rule now new Done → rows_left (level_by rule) new ≡ []
done_left rule now new call = none_left rule new Done call.next.2

pub done_end : (rule : Rule) (now new : RunView) → IsCall rule now new Done → EndsFrom Done now.tick (remaining_run rule now)
done_end rule now new call = end_is rule now new Done call.machine call.next

pub over_left : (rule : Rule) (now new : RunView) (tick var : ℕ) → IsCall rule now new (Over tick var) → rows_left (level_by rule) new ≡ []
over_left rule now new tick var call = none_left rule new (Over tick var) call.next.2

pub over_end : (rule : Rule) (now new : RunView) (tick var : ℕ) → IsCall rule now new (Over tick var) → EndsFrom (Over tick var) now.tick (remaining_run rule now)
over_end rule now new tick var call = end_is rule now new (Over tick var) call.machine call.next
