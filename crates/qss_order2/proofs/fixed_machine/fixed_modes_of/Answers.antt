-- Each iteration adds the coefficient of the next state that the row names, unless it is 0.
use Rattle.qss_order2.proofs.Common
use Common.{[], ◌+◌, ◌≡◌, ap, AreModesBelow, arith, Entry, FitsSigned, length, List, state_count}
use Common.{subst, sym, to_z-of_z, w64}
use Rattle.qss_order2.proofs.FixedRows.{no_modes, skip_to, modes_more}
use Rattle.qss_order2.proofs.fixed_machine.fixed_modes_of.Goals as goal

pub loop-state-init : goal.loop-state-init
loop-state-init c =
    let m = c.args.m.now in
    let next = c.next_fixed_state-state.result in
    let none : AreModesBelow m c.args.row next [] =
    skip_to m c.args.row 0 [] (no_modes m c.args.row) next (omega arith)
    c.next_fixed_state-state.ensures.none in
    record {
      within = c.next_fixed_state-state.ensures.known;
      modes = subst (λ (xs : List Entry). AreModesBelow m c.args.row next xs)
          (sym c.new-entries.ensures.items) none;
    }

pub loop-state-preserved : goal.loop-state-preserved
loop-state-preserved c =
    let m = c.args.m.now in
    let row = c.args.row in
    let state = c.loop-state.state in
    let next = c.next_fixed_state-state-in-loop-state in
    let new = c.add_fixed_mode.new.entries.items in
    let of_coef : FitsSigned w64 c.fixed_mode_at-coef.result =
    record { sfits = c.fixed_mode_at-coef.type_inv } in
    let added = simp to_z-of_z at c.in_ok-add_fixed_mode.ensures in
    let more : AreModesBelow m row (state + 1) new =
    modes_more m row state c.loop-state.entries.items new c.fixed_mode_at-coef.result
    c.loop-state.invariant.modes c.fixed_mode_at-coef.ensures.value
    c.fixed_mode_at-coef.ensures.bound added.0
    added.1 in
    record {
      within = next.ensures.known;
      modes = skip_to m row (state + 1) new more next.result next.ensures.later next.ensures.none;
    }

pub returns : goal.returns
returns c =
    let m = c.args.m.now in
    let all : c.loop-state.state ≡ state_count m = omega (
      arith,
      c.loop-state-test.false,
      c.loop-state.invariant.within,
      ap length c.as_slice.ensures,
    ) in
    subst (λ n. AreModesBelow m c.args.row n c.loop-state.entries.items)
    all c.loop-state.invariant.modes
