-- The rows of one more state.
use Rattle.qss_order2.proofs.Common
use Common.{[], ℕ, ℤ, ◌++◌, ◌<◌, ◌∙◌, ◌∷◌, ◌≡◌, ap, arith, FitsSigned, get_or, get_or_default}
use Common.{int_at, length, List, no_place, Place, place_in, place_rows, pos, Row2, rules, sym}
use Common.{take_all, to_z-of_z, w128}
use Rattle.std.specs.Prelude.{flat_map}
use Rattle.mu_num.proofs.RisingNumbers.{due_rows_more, few_numbers}
use Rattle.qss_order2.specs.declared.order2_rows.Kind2.TheVariants as kind
use Rattle.qss_order2.proofs.order2_rows.set_left_rows.Goals as goal

pub push_state-requires : goal.push_state-requires
push_state-requires c =
    omega (
      arith,
      few_numbers (length c.args.q.now.places.items) c.args.left.now c.requires.left,
      c.loop-state-test.true,
      c.loop-state.invariant.few,
      c.loop-state.invariant.room,
      c.requires.room,
    )

pub returns-clause-rows : goal.returns-clause-rows
returns-clause-rows c =
    c.loop-state.invariant.rows ∙ ap (flat_map (place_rows c.args.kind c.args.tick
    c.args.q.now.places.items
    c.args.q.now.changes.items)) (take_all c.loop-state.state-index c.args.left.now
    c.loop-state-test.false)

pub returns-clause-count : goal.returns-clause-count
returns-clause-count c =
    omega (
      arith,
      few_numbers (length c.args.q.now.places.items) c.args.left.now c.requires.left,
      c.loop-state.invariant.few,
      c.loop-state.auto.state-index-end,
    )

pub loop-state-preserved : goal.loop-state-preserved
loop-state-preserved c =
    let a = c.args in
    let q = a.q.now in
    let i = c.loop-state.state-index in
    let inv = c.loop-state.invariant in
    let j : ℕ = get_or a.left.now i 0 in
    let inside : j < length q.places.items = c.requires.left.below i 0 c.loop-state-test.true in
    let p : Place = c.index-p.result.now in
    let change : ℤ = c.index.result.now in
    let place : p ≡ place_in q.places.items j = c.index-p.ensures
    ∙ get_or_default q.places.items j p no_place inside in
    let slope : change ≡ int_at q.changes.items j = c.index.ensures
    ∙ get_or_default q.changes.items j change (pos 0) (omega (arith, inside, c.requires.changes)) in
    let of_level : FitsSigned w128 p.level = search rules in
    let of_x : FitsSigned w128 p.state = search rules in
    let of_change : FitsSigned w128 change = search rules in
    let pair : Place → ℤ → List Row2 = λ x v. record {
      tick = a.tick;
      kind = a.kind;
      var = j;
      level = x.level;
      state = x.state;
    } ∷ record { tick = a.tick; kind = kind.Slope; var = j; level = v; state = pos 0 } ∷ [] in
    let two : List Row2 = place_rows a.kind a.tick q.places.items q.changes.items j in
    let pushed : c.push_state.new.rows.items ≡ c.loop-state.rows.items ++ pair p change =
    simp to_z-of_z at c.push_state.ensures.rows in
    record {
      rows = pushed ∙ ap (λ (x : Place). c.loop-state.rows.items ++ pair x change) place
          ∙ ap (λ (v : ℤ). c.loop-state.rows.items ++ pair (place_in q.places.items j) v) slope
          ∙ ap (λ (rows : List Row2). rows ++ two) inv.rows
          ∙ sym (due_rows_more (place_rows a.kind a.tick q.places.items q.changes.items)
          a.left.now i c.loop-state-test.true);
      few = omega (arith, c.push_state.ensures.count, inv.few);
      room = c.push_state.ensures.room ∙ inv.room;
    }
