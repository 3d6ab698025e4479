-- All states are at the tick, and the next window begins.
use Rattle.qss_order2.proofs.Common
use Common.{ℕ, ◌+◌, ◌-◌, ◌<◌, ◌∙◌, ◌≡◌, ap, arith, CanRead, is_listed, IsWindow, length, List}
use Common.{motion_at, Moves, state_count, subst, sym, true}
use Rattle.qss_order2.proofs.Bounds.{change_small}
use Rattle.qss_order2.proofs.Motions.{still_movable, small_here, small_rise_here, movable}
use Rattle.qss_order2.proofs.Settled.{listed_below}
use Rattle.qss_order2.proofs.order2_events.open_event_window.Goals as goal

pub returns-then-tick-s-clause-goes : goal.returns-then-tick-s-clause-goes
returns-then-tick-s-clause-goes c = c.requires.is_store.goes c.requires.within

pub returns-then-tick-s-clause-keeps : goal.returns-then-tick-s-clause-keeps
returns-then-tick-s-clause-keeps c = c.requires.is_store.dues c.requires.within c.if-tick-s.true

pub touch_all-requires : goal.touch_all-requires
touch_all-requires c = c.requires.is_store.fits.affected ∙ sym (ap length c.as_slice.ensures)

pub move_all_at_event-requires-clause-all : goal.move_all_at_event-requires-clause-all
move_all_at_event-requires-clause-all c k d h = omega (
  arith,
  c.places.ensures.below k d h,
  c.touch_all.ensures.count,
  ap length c.as_slice.ensures,
)

pub move_all_at_event-requires-clause-each : goal.move_all_at_event-requires-clause-each
move_all_at_event-requires-clause-each c j h =
    ap (λ (l : List ℕ). is_listed l j) c.places.ensures.places ∙ c.touch_all.ensures.places j
    (omega (arith, h, ap length c.as_slice.ensures))

pub move_all_at_event-requires-clause-moves : goal.move_all_at_event-requires-clause-moves
move_all_at_event-requires-clause-moves c = (c.requires.is_store.goes c.requires.within).moves

pub move_all_at_event-requires-clause-movable : goal.move_all_at_event-requires-clause-movable
move_all_at_event-requires-clause-movable c =
    let goes = c.requires.is_store.goes c.requires.within in
    still_movable goes.movable c.args.tick c.args.tick (omega arith) goes.in_window

pub is_line_limit_needed-s-requires-clause-list : goal.is_line_limit_needed-s-requires-clause-list
is_line_limit_needed-s-requires-clause-list c k d h = omega (
  arith,
  c.places-2.ensures.below k d h,
  c.touch_all.ensures.count,
  ap length c.as_slice.ensures,
  c.move_all_at_event.ensures.lists.places,
)

pub returns-clause-goes : goal.returns-clause-goes
returns-clause-goes c =
    let m = c.args.f.now.machine in
    let n = state_count m in
    let tick = c.args.tick in
    let q = c.move_all_at_event.new.q in
    let goes = c.requires.is_store.goes c.requires.within in
    let reach = c.ticks_to_limit_check-reach.result in
    let is = c.ticks_to_limit_check-reach.ensures in
    let moves : Moves m (motion_at m q tick) = subst (Moves m) (sym
    c.move_all_at_event.ensures.same)
    goes.moves in
    let here = c.move_all_at_event.ensures.here in
    let listed : (j : ℕ) → j < n → is_listed c.places-2.result.now j ≡ true = λ j h.
    ap (λ (l : List ℕ). is_listed l j) c.places-2.ensures.places ∙ c.touch_all.ensures.places j
    (omega (arith, h, ap length c.as_slice.ensures)) in
    record {
      moves = moves;
      movable = movable m q tick moves (tick + reach) (λ j h. omega (arith, here j h)) (λ j h.
          omega (arith, here j h, is.few)) (λ j h. (
            small_here m q tick moves j h (here j h),
            small_rise_here m q tick moves j h (here j h),
          ));
      in_window = omega arith;
      bounded = λ is_bounded.
          let bounded = c.is_line_limit_needed-s.ensures.bounded is_bounded in (
            bounded.0,
            bounded.1,
            λ j t h low high. (bounded.2 j (listed j h)).levels t (omega (arith, here j h, low))
                high,
          );
      bounded_slopes = λ is_bounded. let bounded = c.is_line_limit_needed-s.ensures.bounded
          is_bounded in (
            bounded.0,
            bounded.1,
            λ j h. (bounded.2 j (listed j h)).slope,
          );
      here = λ j e.
          let h : j < n = omega (
            arith,
            listed_below c.touch_all.new.affected.count
                c.places-2.result.now c.places-2.ensures.below j (ap (λ (l : List ℕ). is_listed l j)
                c.places-2.ensures.places ∙ e),
            c.touch_all.ensures.count,
            ap length c.as_slice.ensures,
          ) in
          (h, here j h);
    }

pub returns-clause-keeps : goal.returns-clause-keeps
returns-clause-keeps c =
    let m = c.args.f.now.machine in
    let tick = c.args.tick in
    let reach : ℕ = c.ticks_to_limit_check-reach.result in
    record {
      is_window = (let e : reach ≡ (tick + reach) - tick =
          omega arith in subst (IsWindow tick m.last) e c.ticks_to_limit_check-reach.ensures);
      quiet = λ j h not. absurd (cc (
        c.touch_all.ensures.places j (omega (
          arith,
          h,
          ap length c.as_slice.ensures,
        )),
        not,
      ));
    }

pub is_line_limit_needed-s-requires-clause-reads : goal.is_line_limit_needed-s-requires-clause-reads
is_line_limit_needed-s-requires-clause-reads c =
    let m = c.args.f.now.machine in
    let tick = c.args.tick in
    let q = c.move_all_at_event.new.q in
    let moves : Moves m (motion_at m q tick) = subst (Moves m) (sym
    c.move_all_at_event.ensures.same)
    (c.requires.is_store.goes c.requires.within).moves in
    let here = c.move_all_at_event.ensures.here in
    let reads : CanRead (state_count m) (tick + c.ticks_to_limit_check-reach.result) q.places.items
    q.changes.items =
    record {
      as_many_changes = c.move_all_at_event.ensures.lists.changes;
      past = λ j h. omega (arith, here j h);
      near = λ j h. omega (arith, here j h, c.ticks_to_limit_check-reach.ensures.few);
      small = λ j h before. (small_here m q tick moves j h (here j h)).level;
      small_changes = λ j h before. change_small m (motion_at m q tick) moves j h;
    } in
    subst (λ n. CanRead n (tick + c.ticks_to_limit_check-reach.result) q.places.items
    q.changes.items)
    (sym c.move_all_at_event.ensures.lists.places) reads
