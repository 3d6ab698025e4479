-- One more state.
use Rattle.qss_order2.proofs.Common
use Common.{ℤ, ◌*ℤ◌, ◌<◌, ◌∙◌, ◌≡◌, ◌≤◌, ap, arith, FitsSigned, get_or, IsWithin, length, List, map}
use Common.{pos, StateInfo, subst, sym, take_all, to_z-of_z, w128}
use Rattle.qss_order2.proofs.FixedFacts.{wide}
use Rattle.qss_order2.proofs.Tables.{map_more}
use Rattle.mu_num.proofs.Tables.{map_twice}
use Rattle.qss_order2.proofs.order2_start.start_order2_states.Goals as goal

pub fine_state-requires : goal.fine_state-requires
fine_state-requires c =
    let j = c.loop-j.j in
    let m = c.args.m.now in
    let state : StateInfo = c.index-states-j.result in
    let h : j < length m.states = omega (
      arith,
      c.loop-j-test.true,
      ap length c.as_slice-states.ensures,
    ) in
    let read : StateInfo = get_or c.as_slice-states.result.now j state in
    let is : read ≡ get_or m.states j state = ap (λ (xs : List StateInfo). get_or xs j state)
    c.as_slice-states.ensures in
    let small : IsWithin 88 read.x0 = subst (λ (s : StateInfo). IsWithin 88 s.x0) (sym is)
    ((m.has_variables.each_state j state h).start) in
    let fits : FitsSigned w128 read.x0 = wide read.x0 (omega (arith, small)) in
    simp to_z-of_z small

pub loop-j-preserved : goal.loop-j-preserved
loop-j-preserved c =
    let j = c.loop-j.j in
    let m = c.args.m.now in
    let inv = c.loop-j.invariant in
    let state : StateInfo = c.index-states-j.result in
    let h : j < length m.states = omega (
      arith,
      c.loop-j-test.true,
      ap length c.as_slice-states.ensures,
    ) in
    let read : StateInfo = get_or c.as_slice-states.result.now j state in
    let is : read ≡ get_or m.states j state = ap (λ (xs : List StateInfo). get_or xs j state)
    c.as_slice-states.ensures in
    let small : IsWithin 88 read.x0 = subst (λ (s : StateInfo). IsWithin 88 s.x0) (sym is)
    ((m.has_variables.each_state j state h).start) in
    let of_x : FitsSigned w128 read.x0 = wide read.x0 (omega (arith, small)) in
    let fits : FitsSigned w128 c.fine_state.result = record { sfits = c.fine_state.type_inv } in
    let own : c.fine_state.result ≡ pos 64 *ℤ read.x0 = simp to_z-of_z at c.fine_state.ensures in
    record {
      so_far = map_more (λ (s : StateInfo). pos 64 *ℤ s.x0) m.states j state c.loop-j.list.items
          c.push_reserved.new.self.items _ h inv.so_far c.push_reserved.ensures.items
          (to_z-of_z w128 c.fine_state.result fits ∙ own
          ∙ ap (λ (s : StateInfo). pos 64 *ℤ s.x0) is);
      as_many = omega (arith, c.push_reserved.ensures.len, inv.as_many);
      room = omega (arith, c.push_reserved.ensures.capacity, inv.room);
    }

pub returns : goal.returns
returns c =
    let m = c.args.m.now in
    let all : length m.states ≤ c.loop-j.j = omega (
      arith,
      c.loop-j-test.false,
      ap length c.as_slice-states.ensures,
    ) in
    c.loop-j.invariant.so_far ∙ ap (map (λ (s : StateInfo). pos 64 *ℤ s.x0))
    (take_all c.loop-j.j m.states all) ∙ sym (map_twice (λ (x : ℤ). pos 64 *ℤ x) (λ (s : StateInfo).
    s.x0) m.states)
