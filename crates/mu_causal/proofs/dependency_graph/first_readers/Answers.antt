-- One more row lowers the first readers of the numbers that it reads.
use Rattle.mu_causal.proofs.Common
use Common.{◌<◌, ◌∙◌, ◌≡◌, All, arith, cases_lt, inl, inr, length, slice_get, Some}
use Rattle.mu_causal.proofs.Passing.{row_there, names_known, edge_within, lowered}
use Rattle.mu_causal.proofs.dependency_graph.first_readers.Goals as goal

pub lower_first_readers-requires : goal.lower_first_readers-requires
lower_first_readers-requires c =
    let v = c.loop-v.v in
    let there : slice_get c.args.graph.now v ≡ Some c.index-graph-v.result =
    row_there c.args.graph.now v c.index-graph-v.result c.loop-v-test.true c.index-graph-v.is in
    let all : All (λ w. w < length c.args.graph.now) c.index-graph-v.result.items =
    names_known c.args.graph.now v c.index-graph-v.result c.requires there in
    record {
      known = rw (c.deref.ensures.value, c.loop-v.invariant.same_length) all;
    }

pub loop-v-preserved : goal.loop-v-preserved
loop-v-preserved c =
    let v = c.loop-v.v in
    let g = c.args.graph.now in
    let e = c.lower_first_readers.ensures in
    let there : slice_get g v ≡ Some c.index-graph-v.result =
    row_there g v c.index-graph-v.result c.loop-v-test.true c.index-graph-v.is in
    record {
      same_length = e.same_length ∙ c.loop-v.invariant.same_length;
      first = λ u w h edge. elim (cases_lt u v) [
        | inl sooner ↦ omega (arith, e.lower w, c.loop-v.invariant.first u w sooner edge)
        | inr now ↦
            let same : u ≡ v = omega arith in
            lowered g u v w c.index-graph-v.result c.lower_first_readers.new.readers.items same there
            edge (rw (c.deref.ensures.value) at e.named)
      ];
    }

pub returns : goal.returns
returns c = record {
  same_length = c.loop-v.invariant.same_length;
  first = λ u w edge.
      let below : u < c.loop-v.v =
      omega (arith, edge_within c.args.graph.now u w edge, c.loop-v-test.false) in
      c.loop-v.invariant.first u w below edge;
}
