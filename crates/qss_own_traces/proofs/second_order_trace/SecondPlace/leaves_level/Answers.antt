-- The distance is not below the reach.
use Rattle.qss_own_traces.proofs.Common
use Common.{ℤ, ◌*ℤ◌, ◌+ℤ◌, ◌-ℤ◌, ◌∙◌, ◌≡◌, ap, ap₂, arith, FitsSigned, get_or_read, int_at, int_lt}
use Common.{ints, IsWithin, level_unit, not, pos, quanta, to_z-of_z, unsigned_abs, w128}
use Rattle.qss_order2.proofs.Sizes.{quantum_fits}
use Rattle.qss_own_traces.proofs.SecondSteps.{change_small}
use Rattle.qss_own_traces.proofs.SecondSums.{unit_is, quantum_is}
use Rattle.qss_own_traces.proofs.second_order_trace.SecondPlace.leaves_level.Goals as goal

pub distance_after-requires : goal.distance_after-requires
distance_after-requires c =
    let m = c.args.m.now in
    let p = c.args.self.now in
    let j = c.args.state in
    let small : IsWithin 44 c.args.a.now.unit = c.requires.fits.small.unit in
    let of_unit : FitsSigned w128 c.args.a.now.unit = omega (arith, ints, small) in
    let of_x : FitsSigned w128 c.args.x = record { sfits = c.ranges.x.sfits } in
    let level : IsWithin 64 c.index.result.now =
    rw (get_or_read p.levels.items j _ (omega (arith, c.requires.state, c.requires.sized.levels))
    c.index.ensures (pos 0)) c.requires.level in
    let held : IsWithin 95 (level_unit m *ℤ c.index-2.result.now) =
    rw (get_or_read p.changes.items j _ (omega (arith, c.requires.state, c.requires.sized.changes))
    c.index-2.ensures (pos 0)) c.requires.change in
    let of_level : FitsSigned w128 c.index.result.now = omega (arith, ints, level) in
    let of_change : FitsSigned w128 c.index-2.result.now =
    omega (arith, ints, change_small m _ held) in
    record {
      unit = simp to_z-of_z small;
      state = simp to_z-of_z c.requires.number;
      level = simp to_z-of_z level;
      change = simp to_z-of_z (rw (unit_is m c.args.a.now c.requires.fits) held);
    }

pub trace_reach-requires : goal.trace_reach-requires
trace_reach-requires c =
    let m = c.args.m.now in
    let small : IsWithin 44 c.args.a.now.unit = c.requires.fits.small.unit in
    let of_unit : FitsSigned w128 c.args.a.now.unit = omega (arith, ints, small) in
    let of_at : FitsSigned w128 c.at.result = record { sfits = c.at.type_inv } in
    let q = quantum_fits m c.args.state c.requires.state in
    let quantum : IsWithin 43 c.at.result =
    rw (c.at.ensures, quantum_is m c.args.a.now c.args.state c.requires.fits)
    (omega (arith, q.within)) in
    record {
      scale = record { some = omega arith; few = omega arith };
      unit = simp to_z-of_z small;
      quantum = simp to_z-of_z quantum;
    }

pub returns : goal.returns
returns c =
    let m = c.args.m.now in
    let a = c.args.a.now in
    let p = c.args.self.now in
    let j = c.args.state in
    let x = c.args.x in
    let level = c.index.result.now in
    let change = c.index-2.result.now in
    let unit = unit_is m a c.requires.fits in
    let quantum : c.at.result ≡ int_at (quanta m) j = c.at.ensures ∙ quantum_is m a j c.requires.fits in
    let small : IsWithin 44 a.unit = c.requires.fits.small.unit in
    let of_unit : FitsSigned w128 a.unit = omega (arith, ints, small) in
    let of_x : FitsSigned w128 x = record { sfits = c.ranges.x.sfits } in
    let at_level : level ≡ int_at p.levels.items j =
    get_or_read p.levels.items j _
    (omega (arith, c.requires.state, c.requires.sized.levels)) c.index.ensures (pos 0) in
    let at_change : change ≡ int_at p.changes.items j =
    get_or_read p.changes.items j _
    (omega (arith, c.requires.state, c.requires.sized.changes)) c.index-2.ensures (pos 0) in
    let of_level : FitsSigned w128 level = rw at_level (omega (arith, ints, c.requires.level)) in
    let of_change : FitsSigned w128 change =
    rw at_change (omega (arith, ints, change_small m _ c.requires.change)) in
    let of_at : FitsSigned w128 c.at.result = record { sfits = c.at.type_inv } in
    let of_distance : FitsSigned w128 c.distance_after.result =
    record { sfits = c.distance_after.type_inv } in
    let of_reach : FitsSigned w128 c.trace_reach.result = record { sfits = c.trace_reach.type_inv } in
    let far : c.distance_after.result ≡ pos (unsigned_abs (x -ℤ a.unit *ℤ (level +ℤ change))) =
    simp to_z-of_z at c.distance_after.ensures in
    let near : c.trace_reach.result ≡ pos 64 *ℤ a.unit *ℤ c.at.result = simp to_z-of_z at c.trace_reach.ensures in
    ap₂ (λ (d r : ℤ). not (int_lt d r))
    (to_z-of_z w128 c.distance_after.result of_distance ∙ far
    ∙ ap (λ (u : ℤ). pos (unsigned_abs (x -ℤ u *ℤ (level +ℤ change)))) unit
    ∙ ap₂ (λ (l d : ℤ). pos (unsigned_abs (x -ℤ level_unit m *ℤ (l +ℤ d)))) at_level at_change)
    (to_z-of_z w128 c.trace_reach.result of_reach ∙ near ∙ ap₂ (λ (u q : ℤ). pos 64 *ℤ u *ℤ q) unit quantum)
