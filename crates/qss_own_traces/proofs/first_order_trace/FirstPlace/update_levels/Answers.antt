-- One more level.
use Rattle.qss_own_traces.proofs.Common
use Common.{ℕ, ℤ, ◌<◌, ◌∙◌, ◌≡◌, ◌≤◌, ap, ap₂, arith, filled_more, filled_table, FitsSigned}
use Common.{floor_level, get_or_read, Global, if◌then◌else◌, int_at, ints, is_within_quantum}
use Common.{length, level_unit, pos, tabulate, to_z-of_z, Vec, w128}
use Rattle.qss_own_traces.proofs.first_order_trace.FirstPlace.update_levels.Goals as goal

pub loop-j-preserved : goal.loop-j-preserved
loop-j-preserved c =
    let j = c.loop-j.j in
    let inv = c.loop-j.invariant in
    let p = c.args.self.now in
    let m = c.args.m.now in
    let g = λ (k : ℕ) (x old : ℤ). if is_within_quantum m k x old then old else floor_level (level_unit m) x old in
    let f = λ (k : ℕ) (old : ℤ). g k (int_at p.states.items k) old in
    let now = c.loop-j.self in
    let fits : FitsSigned w128 c.level_after.result = record { sfits = c.level_after.type_inv } in
    let inside : j < length p.levels.items = omega (arith, c.loop-j-test.true) in
    let each : j < length p.states.items =
    omega (arith, inside, c.requires.states.one_each, c.requires.levels.one_each) in
    let x = c.index.result.now in
    let old = c.index-in-loop-j.result.now in
    let state : x ≡ int_at p.states.items j =
    get_or_read now.states.items j _ (rw inv.kept.0 each) c.index.ensures (pos 0)
    ∙ ap (λ (v : Vec ℤ Global). int_at v.items j) inv.kept.0 in
    let was : old ≡ int_at p.levels.items j =
    get_or_read now.levels.items j _
    (omega (arith, inside, inv.levels.as_many)) c.index-in-loop-j.ensures (pos 0)
    ∙ inv.levels.others j (omega arith) in
    let of_x : FitsSigned w128 x =
    rw state (omega (arith, ints, c.requires.states.small j (pos 0) each)) in
    let of_old : FitsSigned w128 old =
    rw was (omega (arith, ints, c.requires.levels.small j (pos 0) inside)) in
    let own : c.level_after.result ≡ g j x old = c.level_after.ensures
    ∙ ap₂ (g j) (to_z-of_z w128 x of_x) (to_z-of_z w128 old of_old) in
    record {
      levels = filled_more (pos 0)
          (λ k z. z ≡ f k (int_at p.levels.items k)) p.levels.items now.levels.items j _ inside
          inv.levels
          (to_z-of_z w128 c.level_after.result fits ∙ own ∙ ap₂ (g j) state was);
      kept = inv.kept;
    }

pub returns-clause-levels : goal.returns-clause-levels
returns-clause-levels c =
    let p = c.args.self.now in
    let m = c.args.m.now in
    let f = λ (k : ℕ). if is_within_quantum m k (int_at p.states.items k)
    (int_at p.levels.items k) then int_at p.levels.items k
    else floor_level (level_unit m) (int_at p.states.items k) (int_at p.levels.items k) in
    let all : length p.levels.items ≤ c.loop-j.j = omega (arith, c.loop-j-test.false) in
    filled_table f p.levels.items c.loop-j.self.levels.items c.loop-j.j c.loop-j.invariant.levels
    all ∙ ap (λ (n : ℕ). tabulate n f) c.requires.levels.one_each
