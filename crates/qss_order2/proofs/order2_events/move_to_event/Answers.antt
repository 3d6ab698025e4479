-- The states that leave are those that are due.
use Rattle.qss_order2.proofs.Common
use Common.{ℕ, ℤ, ◌*ℤ◌, ◌+◌, ◌<◌, ◌∙◌, ◌≡◌, ◌≤ℤ◌, abs_of, All, ap, arith, bend_at, exceeds, false}
use Common.{int_at, int_wrap, is_listed, IsWithin, level_unit, List, motion_at, refl}
use Common.{rise_change_weight, snapshot_of, state_count, subst, sym, true, within-passes}
use Rattle.std.specs.Int.{w128}
use Rattle.qss_order2.proofs.Arrivals.{IsArrival, since_touched, level1, reads1, near1}
use Rattle.qss_order2.proofs.Bounds.{bends_flat}
use Rattle.qss_order2.proofs.ColumnSums.{wrap_small}
use Rattle.qss_order2.proofs.Gains.{follows_levels}
use Rattle.qss_order2.proofs.Motions.{bend_v, still_movable}
use Rattle.qss_order2.proofs.Settled.{listed_below}
use Rattle.qss_order2.proofs.order2_events.move_to_event.Goals as goal

pub ticks_to_next_event-ticks-requires-clause-has_dues : goal.ticks_to_next_event-ticks-requires-clause-has_dues
ticks_to_next_event-ticks-requires-clause-has_dues c = (
  snapshot_of
      (motion_at c.args.f.now.machine c.args.s.now.motion c.args.tick),
  c.requires.ready.dues,
)

pub touch-requires-clause-left : goal.touch-requires-clause-left
touch-requires-clause-left c = subst (λ (l : List ℕ).
    All (λ j. j < state_count c.args.f.now.machine) l) (sym c.deref.ensures.value)
    c.ticks_to_next_event-ticks.ensures.numbers.below

pub returns-clause-next : goal.returns-clause-next
returns-clause-next c = c.ticks_to_next_event-ticks.ensures.next
    (snapshot_of (motion_at c.args.f.now.machine c.args.s.now.motion c.args.tick))
    c.requires.ready.dues

pub returns-clause-dues : goal.returns-clause-dues
returns-clause-dues c = c.ticks_to_next_event-ticks.ensures.others

pub returns-clause-kept : goal.returns-clause-kept
returns-clause-kept c = (refl, refl, refl)

pub returns-clause-arrived : goal.returns-clause-arrived
returns-clause-arrived c =
    rw (c.deref-2.ensures.value, c.places.ensures.places) at c.move_on_at_event.ensures.arrived

pub returns-clause-can_apply : goal.returns-clause-can_apply
returns-clause-can_apply c =
    let m = c.args.f.now.machine in
    let n = state_count m in
    let s = c.args.s.now in
    let q0 = s.motion in
    let q1 = c.move_on_at_event.new.q in
    let tick = c.args.tick in
    let ticks = c.ticks_to_next_event-ticks.result in
    let t : ℕ = tick + ticks in
    let left : List ℕ = c.ticks_to_next_event-ticks.new.left.items in
    let affected : List ℕ = c.touch.new.affected.places in
    let goes = c.requires.ready.goes in
    let window = c.requires.ready.dues.is_window in
    let within = c.ticks_to_next_event-ticks.ensures.within in
    let lists = c.move_on_at_event.ensures.lists in
    let own : (j : ℕ) → is_listed left j ≡ true → is_listed affected j ≡ true =
    λ j e. c.touch.ensures.own j (ap (λ (l : List ℕ). is_listed l j) c.deref.ensures.value ∙ e) in
    let arrived = returns-clause-arrived c in
    let is : IsArrival m tick ticks left affected q0 q1 = record {
      moves = goes.moves;
      past = goes.movable.past;
      arrived = arrived;
    } in
    record {
      reads = reads1 is s.window goes.movable within lists;
      in_window = within;
      near = near1 is s.window (omega (arith, window.few, goes.in_window)) goes.movable.near;
      bounded = λ is_bounded.
          let before = goes.bounded is_bounded in (
            before.0,
            before.1,
            λ j h stays.
                subst (λ z. abs_of z ≤ℤ before.0)
                (sym (level1 is j stays)) (before.2 j t h (omega arith) within),
          );
      bounded_slopes = λ is_bounded.
          let before = goes.bounded_slopes is_bounded in (
            before.0,
            before.1,
            λ j h. subst (λ (vs : List ℤ). abs_of (int_at vs j) ≤ℤ before.0) (sym arrived.changes)
                (before.2 j h),
          );
      risen = arrived.risen;
      bends = λ j h.
          let small : IsWithin 126 (int_at q0.bends.items j) =
          omega (arith, goes.movable.small_bends j h) in
          let is : int_at q0.bends.items j ≡ bend_at m j q1.changes.items =
          bend_v m q0 tick goes.moves j h ∙ ap (bend_at m j) (sym arrived.changes) in
          ap (λ (xs : List ℤ). int_at xs j) arrived.bends
          ∙ sym (wrap_small (int_at q0.bends.items j) small) ∙ ap (int_wrap w128) is;
      flat = λ j h.
          subst (λ (vs : List ℤ). exceeds 94 (rise_change_weight m vs j) ≡ false)
          (sym arrived.changes)
          (within-passes 94 (rise_change_weight m q0.changes.items j)
          (bends_flat m (motion_at m q0 tick).levels q0.changes.items goes.moves.within j h));
      held = λ j h. subst (λ (vs : List ℤ). IsWithin 95 (level_unit m *ℤ int_at vs j))
          (sym arrived.changes) (goes.moves.has_rises.held j h);
      numbers = c.ticks_to_next_event-ticks.ensures.numbers;
      here = λ j e. (
        omega (
          arith,
          listed_below c.touch.new.affected.count c.places.result.now
              c.places.ensures.below j (ap (λ (l : List ℕ). is_listed l j) c.places.ensures.places
              ∙ e),
          c.touch.ensures.count,
        ),
        since_touched is j e,
      );
      own = own;
      quiet = rw c.deref.ensures.value at c.touch.ensures.quiet;
    }

pub move_on_at_event-requires-clause-movable : goal.move_on_at_event-requires-clause-movable
move_on_at_event-requires-clause-movable c =
    still_movable c.requires.ready.goes.movable _ _ (omega arith)
    c.ticks_to_next_event-ticks.ensures.within

pub move_on_at_event-requires-clause-left : goal.move_on_at_event-requires-clause-left
move_on_at_event-requires-clause-left c = subst (λ (l : List ℕ).
    All (λ j. j < state_count c.args.f.now.machine) l) (sym c.deref-2.ensures.value)
    c.ticks_to_next_event-ticks.ensures.numbers.below

pub move_on_at_event-requires-clause-affected : goal.move_on_at_event-requires-clause-affected
move_on_at_event-requires-clause-affected c k d h = omega (
  arith,
  c.places.ensures.below k d h,
  c.touch.ensures.count,
)

pub move_on_at_event-requires-clause-own : goal.move_on_at_event-requires-clause-own
move_on_at_event-requires-clause-own c j e =
    ap (λ (l : List ℕ). is_listed l j) c.places.ensures.places
    ∙ c.touch.ensures.own j (ap (λ (l : List ℕ). is_listed l j) (c.deref.ensures.value
    ∙ sym c.deref-2.ensures.value) ∙ e)

pub move_on_at_event-requires-clause-quiet : goal.move_on_at_event-requires-clause-quiet
move_on_at_event-requires-clause-quiet c =
    rw (c.places.ensures.places, c.deref-2.ensures.value) (rw c.deref.ensures.value at
    c.touch.ensures.quiet)

pub move_on_at_event-requires-clause-rises : goal.move_on_at_event-requires-clause-rises
move_on_at_event-requires-clause-rises c =
    let goes = c.requires.ready.goes in
    follows_levels c.args.f.now.machine c.args.s.now.motion c.args.tick goes.moves
    goes.movable.past c.ticks_to_next_event-ticks.result

pub overflow_add-tick : goal.overflow_add-tick
overflow_add-tick c = omega (arith, c.ticks_to_next_event-ticks.ensures.within)
