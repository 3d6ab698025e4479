-- One more level.
use Rattle.qss_own_traces.proofs.Common
use Common.{ℕ, ◌+ℤ◌, ◌<ℤ◌, ◌<◌, ◌∙◌, ◌≡◌, ◌≤◌, ap, arith, false, filled_more, filled_table}
use Common.{FitsSigned, flag_at, floor_of, get_or_read, if◌then◌else◌, int_at, ints, IsWithin}
use Common.{length, level_after, pos, refl, state_count, tabulate, to_z-of_z, unit_positive, w128}
use Rattle.qss_own_traces.proofs.SecondSteps.{change_small}
use Rattle.qss_own_traces.proofs.SecondSums.{unit_is}
use Rattle.qss_own_traces.proofs.second_order_trace.SecondPlace.move_levels.Goals as goal

pub next_level-requires-clause-unit : goal.next_level-requires-clause-unit
next_level-requires-clause-unit c =
    let small : IsWithin 44 c.args.a.now.unit = c.requires.fits.small.unit in
    let of_unit : FitsSigned w128 c.args.a.now.unit = omega (arith, ints, small) in
    let low : pos 0 <ℤ c.args.a.now.unit =
    rw (unit_is c.args.m.now c.args.a.now c.requires.fits) (unit_positive c.args.m.now) in
    simp to_z-of_z low

pub next_level-requires-clause-change : goal.next_level-requires-clause-change
next_level-requires-clause-change c =
    let j = c.loop-j.j in
    let m = c.args.m.now in
    let p = c.args.self.now in
    let h : j < state_count m = omega (arith, c.loop-j-test.true, c.requires.fits.same_size) in
    let by : c.index-in-loop-j-3.result.now ≡ int_at p.changes.items j =
    rw c.loop-j.invariant.kept.1 at (get_or_read c.loop-j.self.changes.items j _
    (rw c.loop-j.invariant.kept.1 (omega (arith, h, c.requires.sized.changes)))
    c.index-in-loop-j-3.ensures (pos 0)) in
    let small : IsWithin 95 c.index-in-loop-j-3.result.now =
    rw by (change_small m _ (c.requires.held j h)) in
    let of_change : FitsSigned w128 c.index-in-loop-j-3.result.now = omega (arith, ints, small) in
    simp to_z-of_z small

pub loop-j-preserved : goal.loop-j-preserved
loop-j-preserved c =
    let j = c.loop-j.j in
    let inv = c.loop-j.invariant in
    let p = c.args.self.now in
    let now = c.loop-j.self in
    let m = c.args.m.now in
    let unit = c.args.a.now.unit in
    let sized = c.requires.sized in
    let h : j < state_count m = omega (arith, c.loop-j-test.true, c.requires.fits.same_size) in
    let inside : j < length p.levels.items = omega (arith, h, sized.levels) in
    let x = c.index-in-loop-j.result.now in
    let level = c.index-in-loop-j-2.result.now in
    let change = c.index-in-loop-j-3.result.now in
    let left : c.index.result.now ≡ flag_at p.left.items j =
    get_or_read now.left.items j _
    (rw inv.kept.2 (omega (arith, h, sized.left))) c.index.ensures false ∙ rw inv.kept.2 refl in
    let state : x ≡ int_at p.states.items j =
    get_or_read now.states.items j _
    (rw inv.kept.0 (omega (arith, h, sized.states))) c.index-in-loop-j.ensures (pos 0)
    ∙ rw inv.kept.0 refl in
    let was : level ≡ int_at p.levels.items j =
    get_or_read now.levels.items j _
    (omega (arith, inside, inv.levels.as_many)) c.index-in-loop-j-2.ensures (pos 0)
    ∙ inv.levels.others j (omega arith) in
    let by : change ≡ int_at p.changes.items j =
    get_or_read now.changes.items j _
    (rw inv.kept.1 (omega (arith, h, sized.changes))) c.index-in-loop-j-3.ensures (pos 0)
    ∙ rw inv.kept.1 refl in
    let fits : FitsSigned w128 c.next_level.result = record { sfits = c.next_level.type_inv } in
    let of_unit : FitsSigned w128 unit = omega (arith, ints, c.requires.fits.small.unit) in
    let small = c.requires.small_states j (pos 0) (omega (arith, h, sized.states)) in
    let of_x : FitsSigned w128 x = rw state (omega (arith, ints, small)) in
    let of_level : FitsSigned w128 level =
    rw was (omega (arith, ints, c.requires.small_levels j (pos 0) inside)) in
    let of_change : FitsSigned w128 change =
    rw by (omega (arith, ints, change_small m _ (c.requires.held j h))) in
    let own : c.next_level.result ≡
    (if c.index.result.now then floor_of x unit else level +ℤ change) =
    simp to_z-of_z at c.next_level.ensures in
    record {
      levels = filled_more (pos 0)
          (λ k z. z ≡ level_after m p k) p.levels.items now.levels.items j _ inside inv.levels
          (to_z-of_z w128 c.next_level.result fits ∙ own
          ∙ rw (left, state, was, by, unit_is m c.args.a.now c.requires.fits) refl);
      kept = inv.kept;
    }

pub returns-clause-levels : goal.returns-clause-levels
returns-clause-levels c =
    let p = c.args.self.now in
    let m = c.args.m.now in
    let all : length p.levels.items ≤ c.loop-j.j =
    omega (arith, c.loop-j-test.false, c.requires.fits.same_size, c.requires.sized.levels) in
    filled_table (level_after m p) p.levels.items c.loop-j.self.levels.items c.loop-j.j
    c.loop-j.invariant.levels all
    ∙ ap (λ (n : ℕ). tabulate n (level_after m p)) c.requires.sized.levels
