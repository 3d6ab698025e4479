-- Event-free ticks, and one more tick.
use Rattle.qss_order2.proofs.Common
use Common.{ℕ, ◌+◌, ◌-◌, ◌<◌, ◌∙◌, ◌≡◌, ap, arith, due_at, false, is_listed, IsDue2, IsRuled2, List}
use Common.{motion_at, Moves, None, Option, overflow_of, place_in, place_rows, refl, SecondSnapshot}
use Common.{snapshot_of, state_count, Store, subst, sym, true, until}
use Rattle.std.specs.Prelude.{flat_map}
use Rattle.qss_order2.proofs.Arrivals.{IsEvent, states2, levels2, past2, near2, small2, line2}
use Rattle.qss_order2.proofs.Arrivals.{since2, kept_change}
use Rattle.qss_order2.proofs.Looks.{look_later}
use Rattle.qss_order2.proofs.Motions.{level_here, state_here, small_here, small_rise_here, movable}
use Rattle.qss_order2.proofs.Motions.{bounded_on, slopes_bounded}
use Rattle.qss_order2.proofs.Looked.{found, visited, visited_rows, moves_on}
use Rattle.qss_order2.proofs.Shifts.{dues_kept}
use Rattle.qss_order2.proofs.RowLists.{listed_rows}
use Rattle.qss_order2.proofs.Silent.{event_free_snapshots}
use Rattle.qss_order2.proofs.order2_events.go_to_event.Goals.{After-apply_rule_at_event-ran}
use Rattle.qss_order2.specs.declared.order2_rows.Kind2.TheVariants as kind
use Rattle.qss_order2.proofs.order2_events.go_to_event.Goals as goal
use Rattle.qss_order2.proofs.order2_events.go_to_event.Given as given

pub overflow_add-result : goal.overflow_add-result
overflow_add-result g c =
    let next = c.move_to_event-ticks.ensures.next in
    omega (arith, next.within, next.is_window.in_time, c.args.f.now.machine.has_units.last_tick)

pub returns-clause-later : goal.returns-clause-later
returns-clause-later g c =
    let m = c.args.f.now.machine in
    let s1 = c.prepare_event.new.s in
    let later = look_later m c.args.tick (snapshot_of (motion_at m s1.motion c.args.tick))
    (λ j. until c.args.tick (due_at s1.dues j)) (is_listed c.move_to_event-ticks.new.s.left.items)
    c.move_to_event-ticks.result c.move_to_event-ticks.ensures.next in
    omega (arith, later)

pub returns-clause-tick_limit : goal.returns-clause-tick_limit
returns-clause-tick_limit g c = let next = c.move_to_event-ticks.ensures.next in omega (
  arith,
  next.within,
  next.is_window.in_time,
)

-- the motions of the event step
event : (g : given.Over) (c : After-apply_rule_at_event-ran g) → IsEvent (IsRuled2
    c.args.rule.now.nearest)
    c.args.f.now.machine c.args.tick c.move_to_event-ticks.result
    c.move_to_event-ticks.new.s.left.items c.move_to_event-ticks.new.s.affected.places
    c.prepare_event.new.s.motion c.move_to_event-ticks.new.s.motion
    c.apply_rule_at_event-ran.new.s.motion (overflow_of c.apply_rule_at_event-ran.result)
event g c = record {
  arrival = record {
    moves = c.prepare_event.ensures.ready.goes.moves;
    past = c.prepare_event.ensures.ready.goes.movable.past;
    arrived = c.move_to_event-ticks.ensures.arrived;
  };
  quiet = c.move_to_event-ticks.ensures.can_apply.quiet;
  lists = c.apply_rule_at_event-ran.ensures.fits.lists;
  applied = c.apply_rule_at_event-ran.ensures.applied;
}

pub returns-clause-visited : goal.returns-clause-visited
returns-clause-visited g c =
    let m = c.args.f.now.machine in
    let tick : ℕ = c.args.tick in
    let t : ℕ = tick + c.move_to_event-ticks.result in
    let s2 = c.move_to_event-ticks.new.s in
    let q3 = c.apply_rule_at_event-ran.new.s.motion in
    let left : List ℕ = s2.left.items in
    let next = c.move_to_event-ticks.ensures.next in
    let can_apply = c.move_to_event-ticks.ensures.can_apply in
    let is = event g (goal.at.returns-clause-visited g c).After-apply_rule_at_event-ran in
    let v3 : SecondSnapshot = snapshot_of (motion_at m q3 t) in
    let same = ap snapshot_of c.prepare_event.ensures.same in (
      event_free_snapshots m (snapshot_of (motion_at m c.args.s.now.motion tick))
          (found is next).0,
      rw same at (visited is next),
      λ none.
          let on = moves_on is next none in
          let here = λ (j : ℕ) (e : is_listed left j
          ≡ true). can_apply.here j (can_apply.own j e) in
          let since : (j : ℕ) → is_listed left j ≡ true → (place_in q3.places.items j).since ≡ t =
          λ j e. ap (λ ps. (place_in ps.items j).since) is.applied.places ∙ (here j e).1 in
          c.set_left_rows.ensures.rows
          ∙ ap (λ (l : List ℕ). flat_map (place_rows kind.Level t q3.places.items
          q3.changes.items) l) (c.deref.ensures.value ∙ ap (λ (s : Store). s.left.items)
          c.apply_rule_at_event-ran.ensures.same)
          ∙ listed_rows kind.Level t (state_count m) q3.places.items q3.changes.items v3 left
          can_apply.numbers
          (λ j e. level_here m q3 t on j (here j e).0 (since j e)) (λ j e.
          state_here m q3 t on j (here j e).0 (since j e)) (λ j e. refl)
          ∙ rw same at (visited_rows is next t v3),
    )

pub returns-clause-same : goal.returns-clause-same
returns-clause-same g c = ap (λ (s : Store). s.over) c.apply_rule_at_event-ran.ensures.same
    ∙ c.move_to_event-ticks.ensures.over ∙ c.prepare_event.ensures.over

pub returns-clause-fits : goal.returns-clause-fits
returns-clause-fits g c =
    let fits = c.apply_rule_at_event-ran.ensures.fits in
    record {
      lists = fits.lists;
      dues = fits.dues;
      left = fits.left;
      affected = fits.affected;
      safe_bound =
          fits.safe_bound;
      levels = fits.levels;
      rows = omega (arith, c.set_left_rows.ensures.room, fits.rows);
    }

pub returns-clause-is_store : goal.returns-clause-is_store
returns-clause-is_store g c e =
    let m = c.args.f.now.machine in
    let n = state_count m in
    let tick : ℕ = c.args.tick in
    let ticks : ℕ = c.move_to_event-ticks.result in
    let t : ℕ = tick + ticks in
    let s1 : Store = c.prepare_event.new.s in
    let s2 : Store = c.move_to_event-ticks.new.s in
    let s3 : Store = c.apply_rule_at_event-ran.new.s in
    let left : List ℕ = s2.left.items in
    let ready = c.prepare_event.ensures.ready in
    let way = ready.goes.movable in
    let next = c.move_to_event-ticks.ensures.next in
    let moved = c.move_to_event-ticks.ensures in
    let can_apply = moved.can_apply in
    let is = event g (goal.at.returns-clause-is_store g c).After-apply_rule_at_event-ran in
    let on : Moves m (motion_at m s3.motion t) = moves_on is next e in
    let same : s3 ≡ record s2 { motion = s3.motion; unbounded = s3.unbounded; levels = s3.levels } =
    c.apply_rule_at_event-ran.ensures.same in
    let kept_over : overflow_of s3.over ≡ None = ap (λ (s : Store). overflow_of s.over) same
    ∙ ap overflow_of (moved.over ∙ c.prepare_event.ensures.over) ∙ c.requires.within in
    let window2 : s2.window ≡ s1.window = moved.kept.0 in
    let window : s3.window ≡ s2.window = ap (λ (s : Store). s.window) same in
    let affected : s3.affected.places ≡ s2.affected.places =
    ap (λ (s : Store). s.affected.places) same in
    let same_bound : s3.safe_bound ≡ s1.safe_bound = ap (λ (s : Store). s.safe_bound) same
    ∙ moved.kept.2 in
    let here3 : (j : ℕ) → is_listed s2.affected.places j ≡ true →
    (j < n) × ((place_in s3.motion.places.items j).since ≡ t) = λ j f. (
      (can_apply.here j f).0,
      since2 is e j f,
    ) in
    record {
      fits = returns-clause-fits g c;
      over = on.within ∙ sym kept_over;
      at_start = λ var f. absurd (cc (f, kept_over));
      goes = λ f. record {
        moves = on;
        movable = movable m s3.motion t on s3.window (past2 is e)
            (near2 is e s3.window (omega (arith, window, can_apply.in_window))
            (omega (arith, window, window2, ready.dues.is_window.few, ready.goes.in_window)) (λ j h.
            omega (arith, window, window2, way.near j h)))
            (small2 is e (λ j h f. (
              small_here m s3.motion t on j h (here3 j f).1,
              small_rise_here m s3.motion t on j h (here3 j f).1,
            )) way.small way.small_rises);
        in_window = omega (arith, window, can_apply.in_window);
        bounded = λ is_bounded.
            let now = c.apply_rule_at_event-ran.ensures.unbounded e is_bounded in
            bounded_on n s1.motion.places.items s3.motion.places.items s1.motion.changes.items
            s3.motion.changes.items left tick t s1.window s3.window s1.safe_bound s3.safe_bound
            now.1.0 (sym moved.kept.2 ∙ now.1.1) same_bound (omega arith)
            (omega (arith, window, window2)) (ready.goes.bounded (sym moved.kept.1 ∙ now.0))
            (λ j u f low high. (now.1.2 j f).levels u (omega (
              arith,
              (here3 j (can_apply.own j f)).1,
              low,
            )) (omega (arith, high, window))) (line2 is e);
        bounded_slopes = λ is_bounded.
            let now = c.apply_rule_at_event-ran.ensures.unbounded e is_bounded in
            slopes_bounded n s1.motion.changes.items s3.motion.changes.items left s1.safe_bound
            s3.safe_bound now.1.0 (sym moved.kept.2 ∙ now.1.1) same_bound
            (ready.goes.bounded_slopes (sym moved.kept.1 ∙ now.0)) (λ j f. (now.1.2 j f).slope)
            (kept_change is e);
        here = λ j f. here3 j (ap (λ (l : List ℕ). is_listed l j) (sym affected) ∙ f);
      };
      dues = λ f before.
          let keeps = dues_kept m tick s1.window ticks (snapshot_of (motion_at m s1.motion tick))
          (snapshot_of (motion_at m s3.motion t)) s1.dues (is_listed left) ready.dues next
          (states2 is e) (levels2 is e) (kept_change is e) (omega (arith, before, window, window2))
          (is_listed s2.affected.places) can_apply.quiet in
          let same_dues : (j : ℕ) → is_listed left j ≡ false → due_at s3.dues j ≡ due_at s1.dues j =
          λ j stays. ap (λ (s : Store). due_at s.dues j) same ∙ moved.dues j stays in
          rw (affected, window, window2) (record {
            is_window = keeps.is_window;
            quiet = λ j h not.
                subst (λ (o : Option ℕ). IsDue2 m (snapshot_of (motion_at m s3.motion t))
                (s1.window - t) j (until t o)) (sym (same_dues j (can_apply.quiet j h not).stays))
                (keeps.quiet j h not);
          });
    }
