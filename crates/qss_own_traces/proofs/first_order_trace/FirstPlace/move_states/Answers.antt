-- One more state.
use Rattle.qss_own_traces.proofs.Common
use Common.{ℕ, ℤ, ◌+ℤ◌, ◌<◌, ◌∙◌, ◌≡◌, ◌≤◌, All, ap, ap₂, arith, discretes_start, filled_more}
use Common.{filled_table, FitsSigned, get_or_read, int_at, ints, IsTrue, IsWithin, length, List}
use Common.{mode_fits, pos, row_at, slope_at, start_discretes, starts-fit, state_count, subst, sym}
use Common.{tabulate, to_z-of_z, w128}
use Rattle.qss_own_traces.proofs.FirstSteps.{same_items}
use Rattle.qss_own_traces.proofs.first_order_trace.FirstPlace.move_states.Goals as goal

pub slope-requires-clause-levels : goal.slope-requires-clause-levels
slope-requires-clause-levels c =
    let stands = c.requires.stands in
    ap length (c.deref.ensures.value ∙ same_items c.loop-j.invariant.kept.1 ∙ stands.short)
    ∙ stands.levels.one_each

pub slope-requires-clause-small_levels : goal.slope-requires-clause-small_levels
slope-requires-clause-small_levels c =
    let stands = c.requires.stands in
    subst (All (IsWithin 43))
    (sym (c.deref.ensures.value ∙ same_items c.loop-j.invariant.kept.1 ∙ stands.short))
    stands.levels.small

pub slope-requires-clause-small_discretes : goal.slope-requires-clause-small_discretes
slope-requires-clause-small_discretes c = subst (All (IsWithin 43)) (sym c.requires.discretes) (discretes_start c.args.m.now)

pub slope-requires-clause-modes : goal.slope-requires-clause-modes
slope-requires-clause-modes c =
    let m = c.args.m.now in
    subst (λ (d : List ℤ). IsTrue (mode_fits m.f (state_count m) (row_at m c.loop-j.j) d)) (sym c.requires.discretes)
    (starts-fit m c.loop-j.j (omega (arith, c.loop-j-test.true, c.requires.stands.states.one_each)))

pub loop-j-preserved : goal.loop-j-preserved
loop-j-preserved c =
    let j = c.loop-j.j in
    let inv = c.loop-j.invariant in
    let p = c.args.self.now in
    let now = c.loop-j.self in
    let m = c.args.m.now in
    let fits : FitsSigned w128 c.risen.result = record { sfits = c.risen.type_inv } in
    let of_slope : FitsSigned w128 c.slope.result = record { sfits = c.slope.type_inv } in
    let inside : j < length p.states.items = omega (arith, c.loop-j-test.true) in
    let was : c.index.result.now ≡ int_at p.states.items j =
    get_or_read now.states.items j _ (omega (arith, inside, inv.states.as_many)) c.index.ensures
    (pos 0) ∙ inv.states.others j (omega arith) in
    let of_x : FitsSigned w128 c.index.result.now =
    rw was (omega (arith, ints, c.requires.stands.states.small j (pos 0) inside)) in
    let own : c.risen.result ≡ c.index.result.now +ℤ c.slope.result =
    simp to_z-of_z at c.risen.ensures.value in
    let levels : c.deref.result.now ≡ p.levels.items = c.deref.ensures.value ∙ same_items inv.kept.1
    ∙ c.requires.stands.short in
    let slope : c.slope.result ≡ slope_at m j p.levels.items (start_discretes m) =
    c.slope.ensures.value ∙ ap₂ (slope_at m j) levels c.requires.discretes in
    record {
      states = filled_more (pos 0)
          (λ k z. z ≡ int_at p.states.items k +ℤ slope_at m k p.levels.items (start_discretes m))
          p.states.items now.states.items j _ inside inv.states
          (to_z-of_z w128 c.risen.result fits ∙ own ∙ ap₂ (λ (x y : ℤ). x +ℤ y) was slope);
      kept = inv.kept;
    }

pub returns-clause-moved : goal.returns-clause-moved
returns-clause-moved c =
    let p = c.args.self.now in
    let m = c.args.m.now in
    let f = λ (k : ℕ). int_at p.states.items k +ℤ slope_at m k p.levels.items (start_discretes m) in
    let all : length p.states.items ≤ c.loop-j.j = omega (arith, c.loop-j-test.false) in
    filled_table f p.states.items c.loop-j.self.states.items c.loop-j.j c.loop-j.invariant.states
    all ∙ ap (λ (n : ℕ). tabulate n f) c.requires.stands.states.one_each
