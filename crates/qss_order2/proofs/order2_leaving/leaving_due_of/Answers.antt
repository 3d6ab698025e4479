-- The gap between a state and its level moves along a parabola.
use Rattle.qss_order2.proofs.Common
use Common.{ℕ, ℤ, ◌*ℤ◌, ◌-ℤ◌, ◌<ℤ◌, ◌<◌, ◌^◌, ◌∙◌, ◌≡◌, ◌≤ℤ◌, ap, arith, bend_at, FitsSigned}
use Common.{FixedMachine, get_or, get_or_default, HasLists, int_at, int_at-tabulate, ints, IsWithin}
use Common.{length, length-map-range_with_len, level_unit, List, Machine, Motion, motion_at}
use Common.{MotionAt, Moves, no_place, Place, place_in, pos, reach_of, rise_at, state_count}
use Common.{to_z-of_z, unsigned_abs, w128}
use Rattle.qss_order2.proofs.order2_leaving.leaving_due_of.Goals.{After-index-4}
use Rattle.qss_order2.proofs.Motions.{state_here, level_here, rise_here}
use Rattle.qss_order2.proofs.Bounds.{at_index, level_within, state_small, rise_small, bend_small}
use Rattle.qss_order2.proofs.Bounds.{change_small, rise_is, bend_is}
use Rattle.qss_order2.proofs.FixedFacts.{wide, unit_small, unit_wide}
use Rattle.qss_order2.proofs.Sizes.{reach_small, reach_low}
use Rattle.qss_order2.proofs.order2_leaving.leaving_due_of.Goals as goal

-- a state whose place is of the tick
record IsHere (f : FixedMachine) (q : Motion) (tick j : ℕ) : Type 0 where
  pub lists : HasLists f.machine q
  pub moves : Moves f.machine (motion_at f.machine q tick)
  pub state : j < state_count f.machine
  pub here : (place_in q.places.items j).since ≡ tick

-- what is read of it
module _ {f : FixedMachine} {q : Motion} {tick j : ℕ} (is : IsHere f q tick j) where
  abbrev m : Machine
  m = f.machine

  abbrev v : MotionAt
  v = motion_at m q tick

  state_read : (p : Place) → p ≡ get_or q.places.items j p → (p.state ≡ int_at v.states j)
      × IsWithin 94 p.state
  state_read p read =
      let e : p.state ≡ int_at v.states j = ap (λ (p : Place). p.state) (read ∙ get_or_default
      q.places.items j p no_place (omega (arith, is.state, is.lists.places)))
      ∙ state_here m q tick is.moves j is.state is.here in
      (e, rw e (state_small m v is.moves j is.state))

  level_read : (p : Place) → p ≡ get_or q.places.items j p → (p.level ≡ int_at v.levels j)
      × IsWithin 49 p.level
  level_read p read =
      let e : p.level ≡ int_at v.levels j = ap (λ (p : Place). p.level) (read ∙ get_or_default
      q.places.items j p no_place (omega (arith, is.state, is.lists.places)))
      ∙ level_here m q tick is.moves j is.state is.here in
      (e, rw e (level_within m v.levels v.changes is.moves.within j))

  rise_read : (z : ℤ) → z ≡ get_or q.rises.items j z → (z ≡ rise_at m j v.levels) × IsWithin 94 z
  rise_read z read =
      let e : z ≡ int_at v.rises j = at_index q.rises.items j (state_count m) z is.lists.rises
      is.state read ∙ rise_here m q tick is.moves j is.state is.here in
      (e ∙ rise_is m v is.moves j is.state, rw e (rise_small m v is.moves j is.state))

  change_read : (z : ℤ) → z ≡ get_or q.changes.items j z → (z ≡ int_at q.changes.items j)
      × IsWithin 95 z
  change_read z read =
      let e = at_index q.changes.items j (state_count m) z is.lists.changes is.state read in
      (e, rw e (change_small m v is.moves j is.state))

  bend_read : (z : ℤ) → z ≡ get_or q.bends.items j z → (z ≡ bend_at m j q.changes.items)
      × IsWithin 94 z
  bend_read z read =
      let e = at_index q.bends.items j (state_count m) z is.lists.bends is.state read in
      (e ∙ bend_is m v is.moves j is.state, rw e (bend_small m v is.moves j is.state))

  limit_read : (z : ℤ) → z ≡ get_or f.limits.items j z → (z ≡ reach_of m j) × FitsSigned w128 z
  limit_read z read =
      let n = state_count m in
      let e : z ≡ reach_of m j = at_index f.limits.items j n z (ap length f.is_fixed.own_limits
      ∙ length-map-range_with_len (reach_of m) 0 n) is.state read
      ∙ ap (λ (xs : List ℤ). int_at xs j) f.is_fixed.own_limits
      ∙ int_at-tabulate n (reach_of m) j is.state in
      (e, omega (arith, ints, e, reach_small m j is.state, reach_low m j is.state))

pub leaving_gap_of-gap-requires : goal.leaving_gap_of-gap-requires
leaving_gap_of-gap-requires c =
    let is : IsHere c.args.f.now c.args.q.now c.args.window.from c.args.state = record {
      lists = c.requires.lists;
      moves = c.requires.moves;
      state = c.requires.state;
      here = c.requires.here;
    } in
    let x : IsWithin 94 c.index-p.result.now.state = (state_read is _ c.index-p.ensures).1 in
    let level : IsWithin 49 c.index-p.result.now.level = (level_read is _ c.index-p.ensures).1 in
    let unit = unit_small c.args.f.now in
    let of_x : FitsSigned w128 c.index-p.result.now.state = wide _ (omega (arith, x)) in
    let of_level : FitsSigned w128 c.index-p.result.now.level = wide _ (omega (arith, level)) in
    let of_unit = unit_wide c.args.f.now in
    record { state = simp to_z-of_z x; level = simp to_z-of_z level; unit = simp to_z-of_z unit }

pub leaving_drift_of-drift-requires : goal.leaving_drift_of-drift-requires
leaving_drift_of-drift-requires c =
    let is : IsHere c.args.f.now c.args.q.now c.args.window.from c.args.state = record {
      lists = c.requires.lists;
      moves = c.requires.moves;
      state = c.requires.state;
      here = c.requires.here;
    } in
    let rise : IsWithin 94 c.index.result.now = (rise_read is _ c.index.ensures).1 in
    let change = change_read is _ c.index-2.ensures in
    let held : IsWithin 95 (c.args.f.now.unit *ℤ c.index-2.result.now) =
    rw (c.args.f.now.is_fixed.own_unit, change.0) (c.requires.moves.has_rises.held c.args.state
    c.requires.state) in
    let of_rise : FitsSigned w128 c.index.result.now = wide _ (omega (arith, rise)) in
    let of_change : FitsSigned w128 c.index-2.result.now = wide _ (omega (arith, change.1)) in
    let of_unit = unit_wide c.args.f.now in
    record { rise = simp to_z-of_z rise; change = simp to_z-of_z held }

-- what is known of the curve
record IsCurve (c : After-index-4) : Type 0 where
  pub gap : c.leaving_gap_of-gap.result ≡ int_at (motion_at c.args.f.now.machine c.args.q.now
      c.args.window.from).states c.args.state -ℤ level_unit c.args.f.now.machine *ℤ int_at
      (motion_at c.args.f.now.machine c.args.q.now c.args.window.from).levels c.args.state
  pub drift : c.leaving_drift_of-drift.result ≡ rise_at c.args.f.now.machine c.args.state
      (motion_at c.args.f.now.machine c.args.q.now c.args.window.from).levels
      -ℤ level_unit c.args.f.now.machine *ℤ int_at c.args.q.now.changes.items c.args.state
  pub bend : (c.index-3.result.now ≡ bend_at c.args.f.now.machine c.args.state
      c.args.q.now.changes.items) × IsWithin 94 c.index-3.result.now
  pub limit : (c.index-4.result.now ≡ reach_of c.args.f.now.machine c.args.state)
      × FitsSigned w128 c.index-4.result.now

same_gap : {gap x y u v k l : ℤ} → gap ≡ x -ℤ u *ℤ k → x ≡ y → u ≡ v → k ≡ l → gap ≡ y -ℤ v *ℤ l
same_gap gap of_x of_u of_k = cc

is_curve : (c : After-index-4) → IsCurve c
is_curve c =
    let is : IsHere c.args.f.now c.args.q.now c.args.window.from c.args.state = record {
      lists = c.requires.lists;
      moves = c.requires.moves;
      state = c.requires.state;
      here = c.requires.here;
    } in
    let x = state_read is _ c.index-p.ensures in
    let level = level_read is _ c.index-p.ensures in
    let rise = rise_read is _ c.index.ensures in
    let change = change_read is _ c.index-2.ensures in
    let of_x : FitsSigned w128 c.index-p.result.now.state = wide _ (omega (arith, x.1)) in
    let of_level : FitsSigned w128 c.index-p.result.now.level = wide _ (omega (arith, level.1)) in
    let of_rise : FitsSigned w128 c.index.result.now = wide _ (omega (arith, rise.1)) in
    let of_change : FitsSigned w128 c.index-2.result.now = wide _ (omega (arith, change.1)) in
    let of_unit = unit_wide c.args.f.now in
    let of_gap : FitsSigned w128 c.leaving_gap_of-gap.result = record { sfits = c.leaving_gap_of-gap.type_inv } in
    let of_drift : FitsSigned w128 c.leaving_drift_of-drift.result =
    record { sfits = c.leaving_drift_of-drift.type_inv } in
    let gap : c.leaving_gap_of-gap.result ≡ c.index-p.result.now.state -ℤ c.args.f.now.unit *ℤ
    c.index-p.result.now.level = simp to_z-of_z at c.leaving_gap_of-gap.ensures.value in
    let drift : c.leaving_drift_of-drift.result ≡ c.index.result.now -ℤ c.args.f.now.unit *ℤ
    c.index-2.result.now = simp to_z-of_z at c.leaving_drift_of-drift.ensures.value in
    record {
      gap = same_gap gap x.0 c.args.f.now.is_fixed.own_unit level.0;
      drift = same_gap drift rise.0 c.args.f.now.is_fixed.own_unit change.0;
      bend = bend_read is _ c.index-3.ensures;
      limit = limit_read is _ c.index-4.ensures;
    }

pub first_step_past_limit-requires-clause-inside : goal.first_step_past_limit-requires-clause-inside
first_step_past_limit-requires-clause-inside c =
    let is = is_curve (goal.at.first_step_past_limit-requires-clause-inside c).After-index-4 in
    let of_gap : FitsSigned w128 c.leaving_gap_of-gap.result = record { sfits = c.leaving_gap_of-gap.type_inv } in
    let of_limit : FitsSigned w128 c.index-4.result.now = is.limit.1 in
    let near : pos (unsigned_abs c.leaving_gap_of-gap.result) <ℤ c.index-4.result.now =
    rw (is.gap, is.limit.0) (c.requires.moves.near c.args.state c.requires.state) in
    simp to_z-of_z near

pub first_step_past_limit-requires-clause-bound : goal.first_step_past_limit-requires-clause-bound
first_step_past_limit-requires-clause-bound c =
    let is = is_curve (goal.at.first_step_past_limit-requires-clause-bound c).After-index-4 in
    let fits : FitsSigned w128 c.index-4.result.now = is.limit.1 in
    let below : c.index-4.result.now ≤ℤ pos (2 ^ 82) =
    rw is.limit.0 (reach_small c.args.f.now.machine c.args.state c.requires.state) in
    simp to_z-of_z below

pub first_step_past_limit-requires-clause-bend : goal.first_step_past_limit-requires-clause-bend
first_step_past_limit-requires-clause-bend c =
    let is = is_curve (goal.at.first_step_past_limit-requires-clause-bend c).After-index-4 in
    let small : IsWithin 94 c.index-3.result.now = is.bend.1 in
    let fits : FitsSigned w128 c.index-3.result.now = wide _ (omega (arith, small)) in
    simp to_z-of_z small

pub returns : goal.returns
returns c =
    let is = is_curve (goal.at.returns c).After-index-4 in
    let of_gap : FitsSigned w128 c.leaving_gap_of-gap.result = record { sfits = c.leaving_gap_of-gap.type_inv } in
    let of_drift : FitsSigned w128 c.leaving_drift_of-drift.result =
    record { sfits = c.leaving_drift_of-drift.type_inv } in
    let of_bend : FitsSigned w128 c.index-3.result.now = wide _ (omega (arith, is.bend.1)) in
    let of_limit : FitsSigned w128 c.index-4.result.now = is.limit.1 in
    rw (is.gap, is.drift, is.bend.0, is.limit.0) at (simp to_z-of_z at
    c.first_step_past_limit.ensures)
