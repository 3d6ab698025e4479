-- A state that left its quantum takes the result of the rule.
use Rattle.qss_states.proofs.Common
use Common.{ℤ, arith, FitsSigned, HasLeft, int_at, ints, IsAllowedLevel, IsNextLevel, level_unit}
use Common.{subst, sym, to_z-of_z, w128, w64}
use Rattle.mu_num.specs.Sizes.{IsPositiveWithin}
use Rattle.qss_quant.specs.LevelRules.{IsAnswer}
use Rattle.qss_events.proofs.NextLevels.{next_by}
use Rattle.qss_machine.proofs.Near.{unit_fits}
use Rattle.qss_states.proofs.requantization.next_level.Goals as goal

pub answer-requires : goal.answer-requires
answer-requires g c =
    let m = c.args.at.now.machine.now in
    let x : ℤ = int_at c.args.at.now.states.now c.args.state in
    let fits : FitsSigned w128 x = omega (arith, ints, c.requires.small_state) in
    record {
      small_state = rw (to_z-of_z w128 x fits) (omega (arith, c.requires.small_state));
      small_old = rw (to_z-of_z w64 c.args.level c.ranges.level) c.requires.small_level;
      small_unit = rw (to_z-of_z w128 c.args.unit c.ranges.unit) (subst (IsPositiveWithin 44) (sym c.requires.unit) (unit_fits m));
    }

pub returns : goal.returns
returns g c =
    let m = c.args.at.now.machine.now in
    let j = c.args.state in
    let name = c.args.q.now.name in
    let x : ℤ = int_at c.args.at.now.states.now j in
    let fits : FitsSigned w128 x = omega (arith, ints, c.requires.small_state) in
    let fresh : ℤ = c.answer.result in
    let fresh_fits : FitsSigned w128 fresh = record { sfits = c.answer.type_inv } in
    let own : IsAnswer name x c.args.level (level_unit m) fresh =
    subst (λ (u : ℤ). IsAnswer name x c.args.level u fresh) c.requires.unit
    (rw (to_z-of_z w128 x fits, to_z-of_z w64 c.args.level c.ranges.level, to_z-of_z w128 c.args.unit c.ranges.unit) at c.answer.ensures.answer) in
    let left : HasLeft m j x c.args.level = c.requires.left c.if-at.false in
    let next : IsNextLevel (IsAllowedLevel name) m j x c.args.level fresh =
    next_by name m j x c.args.level fresh (λ near. absurd (omega (arith, ints, near, left))) (λ away. own) in
    rw (to_z-of_z w128 fresh fresh_fits) next
