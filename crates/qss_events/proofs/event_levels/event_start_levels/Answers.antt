-- One more level.
use Rattle.qss_events.proofs.Common
use Common.{[], ◌++◌, ◌<◌, ◌∙◌, ◌∷◌, ◌≡◌, ap, arith, FitsSigned, get_or, ints, IsWithin, length}
use Common.{level_below, level_unit, StateInfo, subst, sym, to_z-of_z, w128, w64}
use Rattle.std.proofs.Common.{to_z, of_z}
use Rattle.qss_events.proofs.Starts.{levels_more, levels_all}
use Rattle.qss_events.proofs.event_levels.event_start_levels.Goals as goal

pub loop-j-preserved : goal.loop-j-preserved
loop-j-preserved c =
    let j = c.loop-j.j in
    let m = c.args.m.now in
    let inv = c.loop-j.invariant in
    let state : StateInfo = c.index-states-j.result in
    let h : j < length m.states = omega (arith, c.loop-j-test.true, ap length c.as_slice-states.ensures) in
    let read : StateInfo = get_or c.as_slice-states.result.now j state in
    let is : read ≡ get_or m.states j state = ap (λ xs. get_or xs j state) c.as_slice-states.ensures in
    let small : IsWithin 88 read.x0 = subst (λ (s : StateInfo). IsWithin 88 s.x0) (sym is) ((m.has_variables.each_state j state h).start) in
    let x : FitsSigned w128 read.x0 = omega (arith, ints, small) in
    let unit : FitsSigned w128 c.level_unit-unit.result = record { sfits = c.level_unit-unit.type_inv } in
    let level : FitsSigned w64 c.event_start_level.result = record { sfits = c.event_start_level.type_inv } in
    let own : c.event_start_level.result ≡ level_below (level_unit m) (get_or m.states j state).x0 =
    c.event_start_level.ensures
    ∙ ap (λ u. level_below u (to_z w128 (of_z w128 read.x0))) (to_z-of_z w128 c.level_unit-unit.result unit ∙ c.level_unit-unit.ensures)
    ∙ ap (level_below (level_unit m)) (to_z-of_z w128 read.x0 x ∙ ap (λ (s : StateInfo). s.x0) is) in
    record {
      so_far = c.push_reserved.ensures.items ∙ ap (λ l. c.loop-j.levels.items ++ l ∷ []) (to_z-of_z w64 c.event_start_level.result level)
          ∙ levels_more m j state c.loop-j.levels.items c.event_start_level.result h inv.so_far own;
      as_many = omega (arith, c.push_reserved.ensures.len, inv.as_many);
      room = omega (arith, c.push_reserved.ensures.capacity, inv.room);
    }

pub returns : goal.returns
returns c = levels_all c.args.m.now c.loop-j.j c.loop-j.levels.items (omega (arith, c.loop-j-test.false, ap length c.as_slice-states.ensures)) c.loop-j.invariant.so_far
