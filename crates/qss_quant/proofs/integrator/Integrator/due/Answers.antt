-- The gap between a state and its level moves as the state does.
use Rattle.qss_quant.proofs.Common
use Common.{ℕ, ℤ, ◌*ℤ◌, ◌+ℤ◌, ◌-ℤ◌, ◌≡◌, ◌≤ℤ◌, arith, first_after-same, FirstAfter, FitsSigned}
use Common.{ints, IsAway, Option, pos, subst, sym, to_z-of_z, unsigned_abs, w128, w64}
use Rattle.std.proofs.Common.{◌+◌, ◌-◌}
use Rattle.mu_num.specs.Ticks.{later_tick}
use Rattle.mu_num.proofs.FirstTicks.{first_after-later}
use Rattle.qss_quant.specs.IntegratorLines.{Line, state_at}
use Rattle.qss_quant.proofs.integrator.Integrator.due.Goals as goal

moved_gap : (x s level : ℤ) → (x +ℤ s) -ℤ level ≡ (x -ℤ level) +ℤ s
moved_gap x s level = omega (arith, ints)

due_from : (i : Line) (unit quantum : ℤ) (ticks : Option ℕ) →
    FirstAfter (λ n. (unit *ℤ quantum) ≤ℤ pos (unsigned_abs ((i.x -ℤ unit *ℤ i.level) +ℤ pos n *ℤ i.slope))) 0 ticks →
    FirstAfter (λ tick. IsAway unit (state_at i tick) i.level quantum) i.tick (later_tick i.tick ticks)
due_from i unit quantum ticks h =
    let P : ℕ → Type 0 = λ tick. IsAway unit (state_at i tick) i.level quantum in
    first_after-later P i.tick ticks
    (first_after-same _ _ 0 ticks
    (λ n later p. subst (λ z. (unit *ℤ quantum) ≤ℤ pos (unsigned_abs z)) (sym (same n)) p)
    (λ n later q. subst (λ z. (unit *ℤ quantum) ≤ℤ pos (unsigned_abs z)) (same n) q)
    h)
  where
    same : (n : ℕ) → state_at i (i.tick + n) -ℤ unit *ℤ i.level ≡ (i.x -ℤ unit *ℤ i.level) +ℤ pos n *ℤ i.slope
    same n =
        let e : (i.tick + n) - i.tick ≡ n = omega arith in
        rw e (moved_gap i.x (pos n *ℤ i.slope) (unit *ℤ i.level))

pub first_integrator_leaving-ticks-requires-clause-near : goal.first_integrator_leaving-ticks-requires-clause-near
first_integrator_leaving-ticks-requires-clause-near c =
    let of_x : FitsSigned w128 c.self.inside.x = omega (arith, ints, c.self.invariant.small_state) in
    let of_level : FitsSigned w64 c.self.inside.level = omega (arith, ints, c.self.invariant.small_level) in
    let of_quantum = c.ranges.quantum in
    let of_unit = c.ranges.unit in
    simp to_z-of_z (rw (← c.self.view_is) at c.requires.near)

pub returns : goal.returns
returns c =
    let of_x : FitsSigned w128 c.self.inside.x = omega (arith, ints, c.self.invariant.small_state) in
    let of_slope : FitsSigned w128 c.self.inside.slope = omega (arith, ints, c.self.invariant.small_slope) in
    let of_level : FitsSigned w64 c.self.inside.level = omega (arith, ints, c.self.invariant.small_level) in
    let of_quantum = c.ranges.quantum in
    let of_unit = c.ranges.unit in
    let i : Line = record { tick = c.self.inside.tick; x = c.self.inside.x; slope = c.self.inside.slope; level = c.self.inside.level } in
    rw (← c.self.view_is, c.ticks_after.ensures) (due_from i c.args.unit c.args.quantum c.first_integrator_leaving-ticks.result (simp to_z-of_z at c.first_integrator_leaving-ticks.ensures))
