-- One tick of the run.
use Rattle.qss_own_traces.proofs.Common
use Common.{[], ℕ, ℤ, ◌++◌, ◌+◌, ◌∙◌, ◌∷◌, ap, arith, length-append, List, Option, overflow_of}
use Common.{Snapshot, snapshot_unless, start_snapshot, state_count}
use Rattle.qss_own_traces.specs.FirstPlaces.{snapshot_of}
use Rattle.qss_own_traces.proofs.FirstRuns.{left_more, left_refused, wider}
use Rattle.qss_own_traces.proofs.Placing.{holds_more}
use Rattle.qss_own_traces.proofs.first_order_trace.FirstCourse.advance_tick.Goals as goal

pub returns-in-Err-clause-refused : goal.returns-in-Err-clause-refused
returns-in-Err-clause-refused c =
    let m = c.args.m.now in
    let at = c.requires.at in
    left_refused m c.args.tick
    (snapshot_of m c.args.self.now.place) at.snapshots c.in-Err.over.var c.requires.tick_limit
    at.as_many at.rest
    (c.advance_tick.ensures.step (c.args.tick + 1)
    ∙ ap (λ (o : Option ℕ). snapshot_unless o (snapshot_of m c.advance_tick.new.self))
    (ap overflow_of c.in-Err.is))

pub returns-clause-next : goal.returns-clause-next
returns-clause-next c =
    let m = c.args.m.now in
    let at = c.requires.at in
    let place = c.advance_tick.new.self in
    let next = snapshot_of m place in
    let stands = c.advance_tick.ensures.stands (ap overflow_of c.in_default.is) in
    record {
      snapshots = at.snapshots ++ next ∷ [];
      as_many = omega (arith, at.as_many, length-append at.snapshots (next ∷ []));
      rest = left_more m c.args.tick (snapshot_of m c.args.self.now.place) at.snapshots next c.requires.tick_limit at.rest
          (c.advance_tick.ensures.step (c.args.tick + 1)
          ∙ ap (λ (o : Option ℕ). snapshot_unless o next) (ap overflow_of c.in_default.is));
      stands = stands;
      held = holds_more (λ (w : Snapshot). w.states) (λ (w : Snapshot). w.levels) (state_count m)
          (start_snapshot m ∷ at.snapshots) next c.args.self.now.draft c.add.new.self at.held
          stands.states.one_each stands.levels.one_each
          (wider 88 108 place.states.items (omega arith) stands.states.small)
          (wider 43 64 place.levels.items (omega arith) stands.levels.small)
          (c.in_ok-add.ensures.states
          ∙ ap (λ (xs : List ℤ). c.args.self.now.draft.states.items ++ xs) c.deref.ensures.value)
          (c.in_ok-add.ensures.levels
          ∙ ap (λ (xs : List ℤ). c.args.self.now.draft.levels.items ++ xs) c.deref-2.ensures.value);
    }
