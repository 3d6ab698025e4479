use Rattle.qss_trace.proofs.Common
use Common.{ℕ, ◌+◌, ◌<◌, ◌∙◌, ◌≡◌, arith, count_of, FitsSigned, inr, IsSearched, refl, rules}
use Common.{Search, subst, sym, to_z-of_z, w128, with_tick_of}
use Rattle.qss_trace.proofs.Turns.{count-few}
use Rattle.qss_trace.proofs.Searching.{search-none, search-few, search-skip, search-more}
use Rattle.qss_trace.proofs.Searching.{search-found}
use Rattle.qss_trace.proofs.trace_comparison.compare.Goals.{in-Some-common_trace_place+in-Some-comparison_value_at}
use Rattle.qss_trace.proofs.trace_comparison.compare.Goals.{in_default-common_trace_place}
use Rattle.qss_trace.proofs.trace_comparison.compare.Goals as goal

pub loop-place1-init : goal.loop-place1-init
loop-place1-init c = search-none c.args.p.now c.args.t1.now c.args.t2.now

pub returns-in_default-comparison_value_at : goal.returns-in_default-comparison_value_at
returns-in_default-comparison_value_at c =
    let fc : FitsSigned w128 c.args.c = c.ranges.c in
    let fk : FitsSigned w128 c.args.k = c.ranges.k in
    inr (
      (simp to_z-of_z at c.in-Some.ensures.in_range).0 refl,
      record {
        common = c.in-Some-common_trace_place.ensures.some;
        out = λ r. let no = c.in_default-comparison_value_at.ensures.in_range.1 r in cc;
        before = c.loop-place1.invariant.in_range;
      },
    )

pub comparison_with_tick-search-requires : goal.comparison_with_tick-search-requires
comparison_with_tick-search-requires c =
    omega (arith, search-few c.args.p.now c.args.t1.now c.args.t2.now c.loop-place1.place1 c.loop-place1.search c.loop-place1.invariant, c.loop-place1-test.true, c.places-place1-end.ensures, count-few c.args.t1.now)

pub loop-place1-preserved : goal.loop-place1-preserved
loop-place1-preserved c =
    let h : c.loop-place1.place1 < count_of c.args.t1.now = omega (arith, c.loop-place1-test.true, c.places-place1-end.ensures) in
    let P : Search → Type 0 = λ s. IsSearched c.args.p.now c.args.t1.now c.args.t2.now (c.loop-place1.place1 + 1) s in
    elim c.match-common_trace_place.branch [
      | in-Some-common_trace_place+in-Some-comparison_value_at w ↦
          let fits : FitsSigned w128 w.in-Some-comparison_value_at.value = search rules in
          let e : w.comparison_with_tick-search.result ≡ with_tick_of c.loop-place1.search c.loop-place1.place1 w.in-Some-common_trace_place.place2 w.in-Some-comparison_value_at.value =
          simp to_z-of_z at w.comparison_with_tick-search.ensures in
          subst P (sym (w.search-is ∙ e))
          (search-more c.args.p.now c.args.t1.now c.args.t2.now c.loop-place1.place1 c.loop-place1.search c.loop-place1.invariant w.in-Some-common_trace_place.place2
          w.in-Some-common_trace_place.ensures.some (w.in-Some-comparison_value_at.ensures.in_range.0 refl) w.in-Some-comparison_value_at.value w.in-Some-comparison_value_at.ensures.value)
      | in_default-common_trace_place w ↦
          subst P (sym w.search-is)
          (search-skip c.args.p.now c.args.t1.now c.args.t2.now c.loop-place1.place1 c.loop-place1.search c.loop-place1.invariant h (c.common_trace_place.ensures.none w.in_default-common_trace_place.is))
    ]

pub returns : goal.returns
returns c =
    let fc : FitsSigned w128 c.args.c = c.ranges.c in
    let fk : FitsSigned w128 c.args.k = c.ranges.k in
    let bound : FitsSigned w128 c.in-Some.bound = search rules in
    let value : FitsSigned w128 c.loop-place1.search.value = search rules in
    let all : c.loop-place1.place1 ≡ count_of c.args.t1.now = omega (arith, c.loop-place1-test.false, c.loop-place1.auto.place1-end, c.places-place1-end.ensures) in
    let P : ℕ → Type 0 = λ k. IsSearched c.args.p.now c.args.t1.now c.args.t2.now k c.loop-place1.search in
    simp to_z-of_z
    (search-found c.args.p.now c.args.c c.args.k c.args.t1.now c.args.t2.now c.loop-place1.search c.in-Some.bound ((simp to_z-of_z at c.in-Some.ensures.in_range).0 refl)
    (simp to_z-of_z at c.in-Some.ensures.value) (subst P all c.loop-place1.invariant))
