-- One more moved state has its level.
use Rattle.qss_states.proofs.Common
use Common.{ℕ, ℤ, ◌<◌, ◌∙◌, ◌≡◌, ap, AreSumsBefore, arith, few_numbers, fill_by_all, FitsSigned}
use Common.{get_or, get_or-map-range_with_len, get_or_default, int_at, ints, IsSumAfterLevelChange}
use Common.{IsWithin, IsWritten, length, length-map-range_with_len, Line, line_at, List, no_line}
use Common.{not_before, of_z, pos, reading_rows, row_is_light, state_count, subst, sum_at, sym}
use Common.{take, take_all, taken_by, to_z, to_z-of_z, w64}
use Rattle.qss_states.proofs.Shifting.{levels_along, along_more, along_other, along_all}
use Rattle.qss_states.proofs.Shifting.{length-along, sums_small, sums_follow, sums_near}
use Rattle.qss_states.proofs.row_sum_changes.update_all_row_sums.Goals as goal

pub loop-state-init : goal.loop-state-init
loop-state-init c =
    let m = c.args.at.now.machine.now in
    let before = c.requires.before.1 in
    let small = sums_small c.args.kind m c.requires.before.0 c.args.d.now c.args.sums.now before.levels.of_lines.light before.own_sums in
    record {
      own = λ old is j h. ap (λ xs. int_at xs j) is.own_sums ∙ get_or-map-range_with_len (λ k. sum_at c.args.kind m k old c.args.d.now) 0 (state_count m) j j (pos 0) h (omega arith);
      as_many = ap length before.own_sums ∙ length-map-range_with_len (λ j. sum_at c.args.kind m j c.requires.before.0 c.args.d.now) 0 (state_count m);
      near = λ j h. let here : IsWithin 88 (int_at c.args.sums.now j) = small j h in omega (arith, here);
    }

pub update_row_sums-requires-clause-small_sums : goal.update_row_sums-requires-clause-small_sums
update_row_sums-requires-clause-small_sums c j h =
    omega (arith, c.loop-state.invariant.near j h, few_numbers (state_count c.args.at.now.machine.now) c.args.at.now.moved.now c.requires.new.new.moved, c.args.at.now.machine.now.has_variables.few, c.loop-state-test.true)

pub update_row_sums-requires-clause-allowed : goal.update_row_sums-requires-clause-allowed
update_row_sums-requires-clause-allowed c =
    let old_fits : FitsSigned w64 c.row_sum_level-old.result = record { sfits = c.row_sum_level-old.type_inv } in
    let new_fits : FitsSigned w64 c.row_sum_level-new.result = record { sfits = c.row_sum_level-new.type_inv } in
    record {
      mode = record {
        as_many = c.requires.new.as_many;
        small = c.requires.new.small;
        fits = λ row h. (row_is_light c.args.at.now.machine.now c.requires.before.0 c.args.d.now c.requires.before.1.levels.of_lines.light row h).modes;
      };
      known = c.requires.new.new.moved.below c.loop-state.state-index 0 c.loop-state-test.true;
      small_old = rw (to_z-of_z w64 c.row_sum_level-old.result old_fits) c.row_sum_level-old.ensures.bound;
      small_new = rw (to_z-of_z w64 c.row_sum_level-new.result new_fits) c.row_sum_level-new.ensures.bound;
    }

pub loop-state-preserved : goal.loop-state-preserved
loop-state-preserved c =
    let kind = c.args.kind in
    let m = c.args.at.now.machine.now in
    let i = c.loop-state.state-index in
    let inv = c.loop-state.invariant in
    let levels : List ℤ = c.args.at.now.levels.now in
    let state : ℕ = get_or c.args.at.now.moved.now i 0 in
    let known : state < state_count m = c.requires.new.new.moved.below i 0 c.loop-state-test.true in
    let inside : state < length c.args.lines.now = omega (arith, known, c.requires.many_lines) in
    let line : c.line.inside.level ≡ (line_at c.args.lines.now state).level =
    ap (λ (l : Line). l.level) (c.line.view_is ∙ c.index-lines-j.is ∙ get_or_default c.args.lines.now state c.index-lines-j.result no_line inside) in
    let small_old : IsWithin 43 c.line.inside.level = c.line.invariant.small_level in
    let small_new : IsWithin 43 (int_at levels state) = c.requires.new.new.small_levels state (pos 0) (omega (arith, known, c.requires.new.new.levels)) in
    let of_old : FitsSigned w64 c.line.inside.level = omega (arith, ints, small_old) in
    let of_new : FitsSigned w64 (int_at levels state) = omega (arith, ints, small_new) in
    let old_fits : FitsSigned w64 c.row_sum_level-old.result = record { sfits = c.row_sum_level-old.type_inv } in
    let new_fits : FitsSigned w64 c.row_sum_level-new.result = record { sfits = c.row_sum_level-new.type_inv } in
    let at = λ (old : List ℤ). levels_along (take i c.args.at.now.moved.now) levels old in
    let many = λ (old : List ℤ) (is : AreSumsBefore kind m c.args.at.now.moved.now levels c.args.d.now c.args.sums.now c.args.lines.now old).
    length-along (take i c.args.at.now.moved.now) levels old ∙ sym is.levels.off.as_many ∙ c.requires.new.new.levels in
    let to_new : to_z w64 (of_z w64 c.row_sum_level-new.result) ≡ taken_by kind (int_at levels state) =
    to_z-of_z w64 c.row_sum_level-new.result new_fits ∙ c.row_sum_level-new.ensures.value ∙ ap (taken_by kind) (to_z-of_z w64 (int_at levels state) of_new) in
    let written = λ (old : List ℤ) (is : AreSumsBefore kind m c.args.at.now.moved.now levels c.args.d.now c.args.sums.now c.args.lines.now old).
    let to_old : to_z w64 (of_z w64 c.row_sum_level-old.result) ≡ taken_by kind (int_at (at old) state) =
    to_z-of_z w64 c.row_sum_level-old.result old_fits ∙ c.row_sum_level-old.ensures.value
    ∙ ap (taken_by kind) (to_z-of_z w64 c.line.inside.level of_old ∙ line ∙ is.levels.of_lines.own_levels state known
    ∙ sym (along_other (take i c.args.at.now.moved.now) levels old state (not_before c.args.at.now.moved.now i c.requires.new.new.moved.rising c.loop-state-test.true))) in
    subst (λ (z : ℤ). IsWritten (pos 0) (IsSumAfterLevelChange kind m state (taken_by kind (int_at (at old) state)) z c.args.d.now c.loop-state.sums) (reading_rows m state) c.loop-state.sums c.update_row_sums.new.sums)
    to_new
    (subst (λ (z : ℤ). IsWritten (pos 0) (IsSumAfterLevelChange kind m state z (to_z w64 (of_z w64 c.row_sum_level-new.result)) c.args.d.now c.loop-state.sums) (reading_rows m state) c.loop-state.sums c.update_row_sums.new.sums)
    to_old c.update_row_sums.ensures) in
    let before = c.requires.before.1 in
    record {
      own = λ old is j h.
          sums_follow kind m state (at old) c.args.d.now c.loop-state.sums c.update_row_sums.new.sums (many old is) known (int_at levels state) (written old is) j h (inv.own old is j h)
          ∙ ap (λ (l : List ℤ). sum_at kind m j l c.args.d.now) (sym (along_more c.args.at.now.moved.now levels old i c.loop-state-test.true));
      as_many = c.update_row_sums.ensures.as_many ∙ inv.as_many;
      near = λ j h.
          let own = inv.near j h in
          let next = sums_near kind m state (at c.requires.before.0) c.args.d.now c.loop-state.sums c.update_row_sums.new.sums (many c.requires.before.0 before) known (int_at levels state)
          (written c.requires.before.0 before) j in
          omega (arith, own, next);
    }

pub returns : goal.returns
returns c =
    let m = c.args.at.now.machine.now in
    let old : List ℤ = c.requires.before.0 in
    let whole : levels_along (take c.loop-state.state-index c.args.at.now.moved.now) c.args.at.now.levels.now old ≡ c.args.at.now.levels.now =
    ap (λ (moved : List ℕ). levels_along moved c.args.at.now.levels.now old) (take_all c.loop-state.state-index c.args.at.now.moved.now c.loop-state-test.false)
    ∙ along_all c.args.at.now.moved.now c.args.at.now.levels.now old c.requires.before.1.levels.off in
    fill_by_all (λ j. sum_at c.args.kind m j c.args.at.now.levels.now c.args.d.now) c.loop-state.sums (state_count m) (pos 0) c.loop-state.invariant.as_many
    (λ j h. c.loop-state.invariant.own old c.requires.before.1 j h ∙ ap (λ (levels : List ℤ). sum_at c.args.kind m j levels c.args.d.now) whole)
