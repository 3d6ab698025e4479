use Rattle.mu_causal.proofs.Common
use Common.{◌<◌, ◌∙◌, ◌≡◌, ◌≤◌, ap, arith, false, length, slice_get, Some, sym, true}
use Rattle.std.proofs.Common.{below_more}
use Rattle.mu_causal.proofs.Passing.{row_there, names_known, passed_more, unblocked_at_end}
use Rattle.mu_causal.proofs.Passing.{blocked_at}
use Rattle.mu_causal.proofs.dependency_graph.next_ready_dependency.Goals.{then-not-marks-v+else-place-len}
use Rattle.mu_causal.proofs.dependency_graph.next_ready_dependency.Goals.{else-not-marks-v}
use Rattle.mu_causal.proofs.dependency_graph.next_ready_dependency.Goals as goal

pub first_unmarked_dependency-place-requires-clause-known : goal.first_unmarked_dependency-place-requires-clause-known
first_unmarked_dependency-place-requires-clause-known c =
    let there : slice_get c.args.graph.now c.loop-v.v ≡ Some c.index-graph-v.result = row_there c.args.graph.now c.loop-v.v c.index-graph-v.result c.loop-v-test.true c.index-graph-v.is in
    rw (c.deref.ensures.value, c.requires.marks) (names_known c.args.graph.now c.loop-v.v c.index-graph-v.result c.requires.closed there)

pub returns-then-place-len-clause-passed : goal.returns-then-place-len-clause-passed
returns-then-place-len-clause-passed c =
    let there : slice_get c.args.graph.now c.loop-v.v ≡ Some c.index-graph-v.result = row_there c.args.graph.now c.loop-v.v c.index-graph-v.result c.loop-v-test.true c.index-graph-v.is in
    let e = c.first_unmarked_dependency-place.ensures in
    let d = c.deref.ensures.value in
    passed_more _ _ _ _ _ c.index-graph-v.result c.loop-v.invariant.passed c.loop-v-test.true there (rw d at e.end) (rw d at e.marked)

pub returns-then-place-len-clause-found : goal.returns-then-place-len-clause-found
returns-then-place-len-clause-found c =
    let there : slice_get c.args.graph.now c.loop-v.v ≡ Some c.index-graph-v.result = row_there c.args.graph.now c.loop-v.v c.index-graph-v.result c.loop-v-test.true c.index-graph-v.is in
    let e = c.first_unmarked_dependency-place.ensures in
    let d = c.deref.ensures.value in
    unblocked_at_end _ _ _ _ _ c.index-graph-v.result c.loop-v.invariant.passed c.loop-v-test.true there c.if-not-marks-v.true (c.if-place-len.true ∙ c.len.ensures ∙ sym c.deref.ensures.len ∙ ap length d) (rw d at e.marked)

pub loop-v-preserved : goal.loop-v-preserved
loop-v-preserved c =
    elim c.if-not-marks-v.branch [
      | then-not-marks-v+else-place-len w ↦
          let there : slice_get c.args.graph.now c.loop-v.v ≡ Some w.index-graph-v.result = row_there c.args.graph.now c.loop-v.v w.index-graph-v.result c.loop-v-test.true w.index-graph-v.is in
          let e = w.first_unmarked_dependency-place.ensures in
          let d = w.deref.ensures.value in
          let end : w.first_unmarked_dependency-place.result ≤ length w.index-graph-v.result.items = rw d at e.end in
          let items : length w.index-graph-v.result.items ≡ w.len.result = sym (ap length d) ∙ w.deref.ensures.len ∙ sym w.len.ensures in
          let short : w.first_unmarked_dependency-place.result < length w.index-graph-v.result.items = omega (arith, w.if-place-len.false) in
          record {
            passed = rw w.passed-is (passed_more _ _ _ _ _ w.index-graph-v.result c.loop-v.invariant.passed c.loop-v-test.true there end (rw d at e.marked));
            blocked = below_more _ _ c.loop-v.invariant.blocked (λ u. blocked_at _ _ _ w.first_unmarked_dependency-place.result w.index-graph-v.result there short ((rw d at e.unmarked) short));
          }
      | else-not-marks-v w ↦
          record {
            passed = rw w.passed-is c.loop-v.invariant.passed;
            blocked = below_more _ _ c.loop-v.invariant.blocked (λ u. let f : false ≡ true = sym u ∙ w.if-not-marks-v.false in cc);
          }
    ]
