-- What a simulator goes through: free steps, whichever quantizer it has.
use Rattle.qss_theorems.proofs.Common
use Common.{[], ℕ, ℤ, ◌++◌, ◌+◌, ◌∙◌, ◌∷◌, ◌≡◌, ap, arith, Bool, Err, false, handlers_at, inl, inr}
use Common.{int_at, IsAllowedLevel, IsEventFreeExecution, IsFreeExecution, IsFreeLevel, IsStep}
use Common.{IsStepBy, last_snapshot, length, List, Machine, None, Ok, Option, refl, Result, Rule}
use Common.{runs_are_legitimate, runs_stay_near, Snapshot, Some, start_snapshot, subst, sym, true}
use Rattle.std.specs.Prelude.{MatchBool}
use Rattle.qss_machine.specs.Machines.{level_unit}
use Rattle.qss_machine.specs.Ticks.{is_within_quantum}
use Rattle.qss_machine.proofs.Fired.{branches_fire_when_due}
use Rattle.qss_events.specs.RemainingRows.{first_view}
use Rattle.qss_events.specs.Events.{IsNext}
use Rattle.qss_events.specs.RunViews.{RunView}
use Rattle.qss_events.specs.declared.event_outcome.Outcome.{Outcome}
use Rattle.qss_events.specs.declared.event_outcome.Outcome.TheVariants.{Events, Done, Over}
use Rattle.qss_theorems.specs.RunCourses.{IsReached, IsPassed, IsCallSequence, last_view}
use Rattle.qss_theorems.specs.RunCourses.{HasNoOverflow, IsSound, EventsLeadFreely}
use Rattle.qss_events.proofs.Silences.{last-append}

-- ---- steps

module _ (name : Option Rule) (m : Machine) where
  level_freely : (j : ℕ) (state old new : ℤ) (near : Bool) → is_within_quantum m j state old ≡ near →
      MatchBool near (new ≡ old) (IsAllowedLevel name (level_unit m) state old new) → IsFreeLevel m j state old new
  level_freely j state old new true e same = inl (e, same)
  level_freely j state old new false e ruled = inr ruled.close

  step_freely : (tick : ℕ) (w : Snapshot) (result : Result Snapshot ℕ) → IsStep (IsAllowedLevel name) m tick w result → IsStepBy (IsFreeLevel m) m tick w result
  step_freely tick w result s = (
    s.0,
    (λ calm. record {
      one_each = (s.1 calm).one_each;
      each = λ j h. level_freely j (int_at (handlers_at m tick w).states j) (int_at w.levels j) (int_at s.0 j)
          (is_within_quantum m j (int_at (handlers_at m tick w).states j) (int_at w.levels j)) refl ((s.1 calm).each j h);
    }),
    s.2,
  )

  silently : (tick : ℕ) (w : Snapshot) (snapshots : List Snapshot) → IsEventFreeExecution (IsAllowedLevel name) m tick w snapshots → IsFreeExecution m tick w snapshots
  silently tick w [] leads = tt
  silently tick w (next ∷ snapshots) leads = (step_freely (tick + 1) w (Ok next) leads.0, silently (tick + 1) next snapshots leads.2)

-- ---- ways

length_of_both : (xs ys : List Snapshot) → length (xs ++ ys) ≡ length xs + length ys
length_of_both [] ys = omega arith
length_of_both (x ∷ xs) ys = omega (arith, length_of_both xs ys)

leads_on : (m : Machine) (tick : ℕ) (w : Snapshot) (xs ys : List Snapshot) → IsFreeExecution m tick w xs → IsFreeExecution m (tick + length xs) (last_snapshot w xs) ys →
    IsFreeExecution m tick w (xs ++ ys)
leads_on m tick w [] ys leads more = subst (λ (k : ℕ). IsFreeExecution m k w ys) (omega arith) more
leads_on m tick w (x ∷ xs) ys leads more =
    (leads.0, leads_on m (tick + 1) x xs ys leads.1 (subst (λ (k : ℕ). IsFreeExecution m k (last_snapshot x xs) ys) (omega arith) more))

way_on : (m : Machine) (tick : ℕ) (w : Snapshot) (last : ℕ) (snapshot : Snapshot) (end : ℕ) (there : Snapshot) →
    IsReached m tick w last snapshot → IsReached m last snapshot end there → IsReached m tick w end there
way_on m tick w last snapshot end there (xs, a) (ys, b) =
    let from : ℕ → Snapshot → Type 0 = λ k v. IsFreeExecution m k v ys in
    let next : IsFreeExecution m (tick + length xs) (last_snapshot w xs) ys =
    subst (λ (k : ℕ). from k (last_snapshot w xs)) a.as_many (subst (from last) (sym a.reached) b.leads) in (
      xs ++ ys,
      record {
        leads = leads_on m tick w xs ys a.leads next;
        as_many = omega (arith, a.as_many, b.as_many, length_of_both xs ys);
        reached = last-append w xs ys ∙ ap (λ v. last_snapshot v ys) a.reached ∙ b.reached;
      },
    )

way_none : (m : Machine) (tick : ℕ) (w : Snapshot) → IsReached m tick w tick w
way_none m tick w = ([], record { leads = tt; as_many = omega arith; reached = refl })

-- ---- events

event_leads : (name : Option Rule) (old new : RunView) (tick : ℕ) → IsNext (IsAllowedLevel name) old new (Events tick) →
    IsReached old.machine old.tick old.snapshot new.tick new.snapshot
event_leads name old new tick (silent, e, _) =
    let m = old.machine in
    let here : tick ≡ old.tick + length silent + 1 = e.is_next in
    let one : IsStepBy (IsFreeLevel m) m (old.tick + length silent + 1) (last_snapshot old.snapshot silent) (Ok new.snapshot) =
    subst (λ (k : ℕ). IsStepBy (IsFreeLevel m) m k (last_snapshot old.snapshot silent) (Ok new.snapshot)) here (step_freely name m tick (last_snapshot old.snapshot silent) (Ok new.snapshot) e.is_step) in (
      silent ++ new.snapshot ∷ [],
      record {
        leads = leads_on m old.tick old.snapshot silent (new.snapshot ∷ []) (silently name m old.tick old.snapshot silent e.leads) (one, tt);
        as_many = omega (arith, here, e.here, length_of_both silent (new.snapshot ∷ []));
        reached = last-append old.snapshot silent (new.snapshot ∷ []);
      },
    )

done_leads : (name : Option Rule) (old new : RunView) → IsNext (IsAllowedLevel name) old new Done →
    IsReached old.machine old.tick old.snapshot new.tick new.snapshot
done_leads name old new (silent, e, _) = (
  silent,
  record {
    leads = silently name old.machine old.tick old.snapshot silent e.leads;
    as_many = e.here ∙ sym e.at_last;
    reached = sym e.snapshot;
  },
)

over_leads : (name : Option Rule) (old new : RunView) (tick var : ℕ) → IsNext (IsAllowedLevel name) old new (Over tick var) →
    IsPassed old.machine old.tick old.snapshot tick var
over_leads name old new tick var (silent, e, _) =
    let m = old.machine in
    (silent, silently name m old.tick old.snapshot silent e.leads, e.is_next, step_freely name m tick (last_snapshot old.snapshot silent) (Err var) e.is_step)

-- ---- any number of calls

ended_stays : (name : Option Rule) (s : RunView) (more : List RunView) (end : Outcome) → s.end ≡ Some end → IsCallSequence name s more → last_view s more ≡ s
ended_stays name s [] end e goes = refl
ended_stays name s (next ∷ more) end e goes = let never : Some end ≡ None = sym e ∙ goes.0 in absurd (cc)

-- a call that goes on leads to a snapshot, or ends by an overflow
next_leads : (name : Option Rule) (old new : RunView) (outcome : Outcome) → IsNext (IsAllowedLevel name) old new outcome → HasNoOverflow new →
    IsReached old.machine old.tick old.snapshot new.tick new.snapshot
next_leads name old new (Events tick) is calm = event_leads name old new tick is
next_leads name old new Done is calm = done_leads name old new is
next_leads name old new (Over tick var) is calm = absurd (calm tick var is.2)

-- a simulator that overflowed goes no further, so that calls up to a calm one were calm
calm_before : (name : Option Rule) (s : RunView) (more : List RunView) → IsCallSequence name s more → HasNoOverflow (last_view s more) → HasNoOverflow s
calm_before name s more goes calm tick var e =
    calm tick var (subst (λ (x : RunView). x.end ≡ Some (Over tick var)) (sym (ended_stays name s more (Over tick var) e goes)) e)

calls_lead : (name : Option Rule) (s : RunView) (more : List RunView) → IsCallSequence name s more → HasNoOverflow (last_view s more) →
    IsReached s.machine s.tick s.snapshot (last_view s more).tick (last_view s more).snapshot
calls_lead name s [] goes calm = way_none s.machine s.tick s.snapshot
calls_lead name s (next ∷ more) (going, (outcome, is), same, goes) calm =
    let end = last_view next more in
    let rest : IsReached s.machine next.tick next.snapshot end.tick end.snapshot =
    subst (λ (m : Machine). IsReached m next.tick next.snapshot end.tick end.snapshot) same (calls_lead name next more goes calm) in
    way_on s.machine s.tick s.snapshot next.tick next.snapshot end.tick end.snapshot
    (next_leads name s next outcome is (calm_before name next more goes calm)) rest

-- ---- up to an overflow

passed_on : (m : Machine) (tick : ℕ) (w : Snapshot) (last : ℕ) (snapshot : Snapshot) (end var : ℕ) → IsReached m tick w last snapshot → IsPassed m last snapshot end var → IsPassed m tick w end var
passed_on m tick w last snapshot end var way (ys, leads, as_many, is_step) =
    let on = way_on m tick w last snapshot (last + length ys) (last_snapshot snapshot ys) way (ys, record { leads = leads; as_many = refl; reached = refl }) in
    (on.0, on.1.leads, omega (arith, as_many, on.1.as_many), subst (λ (v : Snapshot). IsStepBy (IsFreeLevel m) m end v (Err var)) (sym on.1.reached) is_step)

-- a call that ends the run by another outcome ends it for good
over_is : (name : Option Rule) (next : RunView) (more : List RunView) (end : Outcome) (tick var : ℕ) → next.end ≡ Some end → IsCallSequence name next more →
    (last_view next more).end ≡ Some (Over tick var) → end ≡ Over tick var
over_is name next more end tick var ended goes e =
    let same : Some end ≡ Some (Over tick var) = sym ended ∙ subst (λ (s : RunView). s.end ≡ Some (Over tick var)) (ended_stays name next more end ended goes) e in cc

calls_pass : (name : Option Rule) (s : RunView) (more : List RunView) (tick var : ℕ) → s.end ≡ None → IsCallSequence name s more →
    (last_view s more).end ≡ Some (Over tick var) → IsPassed s.machine s.tick s.snapshot tick var
calls_pass name s [] tick var none goes e = absurd (cc (none, e))
calls_pass name s (next ∷ more) tick var none (going, (outcome, is), same, goes) e = by outcome is
    (λ ended. let rest = calls_pass name next more tick var ended goes e in subst (λ (m : Machine). IsPassed m next.tick next.snapshot tick var) same rest)
  where
    by : (outcome : Outcome) → IsNext (IsAllowedLevel name) s next outcome → (next.end ≡ None → IsPassed s.machine next.tick next.snapshot tick var) → IsPassed s.machine s.tick s.snapshot tick var
    by (Events t) is rest = passed_on s.machine s.tick s.snapshot next.tick next.snapshot tick var (event_leads name s next t is) (rest is.2)
    by Done is rest = let never = over_is name next more Done tick var is.2 goes e in absurd (cc)
    by (Over t v) is rest =
        let one = over_is name next more (Over t v) tick var is.2 goes e in
        let at : t ≡ tick = cc in
        let what : v ≡ var = cc in
        subst (λ (k : ℕ). IsPassed s.machine s.tick s.snapshot k var) at (subst (λ (k : ℕ). IsPassed s.machine s.tick s.snapshot t k) what (over_leads name s next t v is))

-- ---- from the start

pub sound : (m : Machine) (snapshots : List Snapshot) → IsFreeExecution m 0 (start_snapshot m) snapshots → IsSound m snapshots
sound m snapshots leads = record {
  near = runs_stay_near m snapshots leads;
  truths = branches_fire_when_due.have_truths m snapshots leads;
  legitimate = λ none own. runs_are_legitimate.own m snapshots none own leads;
}

pub events_lead_freely : EventsLeadFreely
events_lead_freely = record {
  event = event_leads;
  done = done_leads;
  over = over_leads;
  calls = calls_lead;
  courses = λ name m more goes calm.
      let way = calls_lead name (first_view m) more goes calm in
      (way.0, way.1, sound m way.0 way.1.leads);
  overflows = λ name m more tick var goes e. calls_pass name (first_view m) more tick var refl goes e;
}
