-- The affected states move, and those that left have new levels.
use Rattle.qss_order2.proofs.Common
use Common.{ℕ, ℤ, ◌+ℤ◌, ◌<◌, ◌∙◌, ◌≡◌, ap, arith, cases_Bool, false, floor_place, Global}
use Common.{HasNewLevels, inl, inr, int_at, int_wrap, ints, is_listed, IsWithin, length}
use Common.{level_shift, level_unit, levels_on, List, Place, place_in, place_there, pos, rise_at}
use Common.{rise_on, state_count, sym, true, Vec, with_items, with_items_is}
use Rattle.std.specs.Int.{w128}
use Rattle.qss_order2.proofs.ColumnSums.{wrap_small}
use Rattle.qss_order2.proofs.Gains.{rise_on_small, risen_by, quiet_shift}
use Rattle.qss_order2.proofs.Motions.{can_move, moved_levels}
use Rattle.qss_order2.proofs.QuietStates.{not_own}
use Rattle.qss_order2.proofs.order2_events.move_on_at_event.Goals as goal

pub advance-requires-clause-moves : goal.advance-requires-clause-moves
advance-requires-clause-moves c =
    rw c.requires.lists.places (can_move c.requires.lists c.requires.movable c.args.tick
    (omega arith) (omega arith))

pub advance-requires-clause-list : goal.advance-requires-clause-list
advance-requires-clause-list c k d h = omega (
  arith,
  c.requires.affected k d h,
  c.requires.lists.places,
)

pub take_motion_levels-requires-clause-places : goal.take_motion_levels-requires-clause-places
take_motion_levels-requires-clause-places c =
    ap length c.deref_mut.ensures.value ∙ c.advance.ensures.places.as_many ∙ c.requires.lists.places

pub take_motion_levels-requires-clause-rises : goal.take_motion_levels-requires-clause-rises
take_motion_levels-requires-clause-rises c =
    ap length c.deref_mut-2.ensures.value ∙ c.advance.ensures.rises.as_many ∙ c.requires.lists.rises

pub returns : goal.returns
returns c =
    let m = c.args.f.now.machine in
    let n = state_count m in
    let q = c.args.q.now in
    let l = c.requires.lists in
    let tick = c.args.tick in
    let left = c.args.left.now in
    let affected = c.args.affected.now in
    let way = c.requires.movable in
    let moved = c.advance.new.self in
    let is = c.advance.ensures in
    let ps : List Place = moved.places.items in
    let rs : List ℤ = moved.rises.items in
    let qs : List Place = c.take_motion_levels.new.places in
    let ss : List ℤ = c.take_motion_levels.new.rises in
    let changes : moved.changes.items ≡ q.changes.items =
    ap (λ (v : Vec ℤ Global). v.items) is.changes in
    let bends : moved.bends.items ≡ q.bends.items = ap (λ (v : Vec ℤ Global). v.items) is.bends in
    let floored : (with_items moved.places qs).items ≡ qs =
    with_items_is moved.places qs (c.take_motion_levels.auto.places ∙ c.deref_mut.ensures.len) in
    let shifted : (with_items moved.rises ss).items ≡ ss =
    with_items_is moved.rises ss (c.take_motion_levels.auto.rises ∙ c.deref_mut-2.ensures.len) in
    let taken = rw (c.deref_mut.ensures.value, c.deref_mut-2.ensures.value) at
    c.take_motion_levels.ensures in
    let there : (j : ℕ) → is_listed affected j ≡ true → place_in ps j ≡ place_there tick q j =
    is.places.each in
    let same : (j : ℕ) → is_listed left j ≡ false → place_in qs j ≡ place_in ps j =
    taken.places.others in
    let leaves : (j : ℕ) → is_listed left j ≡ true → place_in qs j ≡ floor_place (place_in ps j)
    (level_unit m) = taken.places.each in
    let since : (j : ℕ) → j < n → (place_in qs j).since ≡ (place_in ps j).since =
    λ j h. elim (cases_Bool (is_listed left j)) [
      | inl e ↦ ap (λ (p : Place). p.since) (leaves j e)
      | inr stays ↦ ap (λ (p : Place). p.since) (same j stays)
    ] in
    let arrived : HasNewLevels m tick left affected q (record moved {
      places = with_items moved.places qs;
      rises = with_items moved.rises ss;
    }) = record {
      changes = changes;
      bends = bends;
      rises = λ j h not.
          let z : ℤ = int_at q.rises.items j in
          let small : IsWithin 126 z = omega (arith, way.small_rises j h) in
          let none : level_shift m j ps qs ≡ pos 0 =
          quiet_shift m j ps qs (is_listed left) (c.requires.quiet j h not) (λ k low stays.
          ap (λ (p : Place). p.level) (same k stays)) in
          let nothing : z +ℤ level_shift m j ps qs ≡ z = omega (arith, ints, none) in
          rw (
            shifted,
            taken.rises j z h (is.rises.others j not ∙ sym (wrap_small z small)),
            nothing,
          ) (wrap_small z small);
      risen = λ j h e.
          let z : ℤ = rise_on (place_in q.places.items j) (int_at q.rises.items j)
          (int_at q.bends.items j) tick in
          let start : int_at rs j ≡ int_wrap w128 z = is.rises.each j e
          ∙ sym (wrap_small z (rise_on_small (place_in q.places.items j) (int_at q.rises.items j)
          (int_at q.bends.items j) tick (way.near j h) (way.small_rises j h) (way.small_bends j h)))
          in
          let rise : z +ℤ level_shift m j ps qs ≡ rise_at m j
          (levels_on n qs q.changes.items tick) =
          ap (λ (y : ℤ). y +ℤ level_shift m j ps qs) (c.requires.rises j h ∙ ap (rise_at m j)
          (sym (moved_levels n tick q ps affected there is.places.others)))
          ∙ sym (risen_by m j ps qs q.changes.items tick since) in
          rw (shifted, floored, changes) (taken.rises j z h start ∙ ap (int_wrap w128) rise);
      own = c.requires.own;
      leaving = λ j e. rw floored (leaves j e ∙ ap (λ (p : Place). floor_place p (level_unit m))
          (there j (c.requires.own j e)));
      moved = λ j e stays. rw floored (same j stays ∙ there j e);
      others = λ j not. rw floored (same j (not_own left (is_listed affected) c.requires.own j not)
          ∙ is.places.others j not);
    } in
    record {
      lists = record {
        places = ap length floored ∙ c.take_motion_levels.auto.places ∙ ap length
            c.deref_mut.ensures.value
            ∙ is.places.as_many ∙ l.places;
        changes = ap length changes ∙ l.changes;
        rises = ap length shifted ∙ c.take_motion_levels.auto.rises
            ∙ ap length c.deref_mut-2.ensures.value ∙ is.rises.as_many ∙ l.rises;
        bends = ap length bends ∙ l.bends;
      };
      arrived = arrived;
    }
