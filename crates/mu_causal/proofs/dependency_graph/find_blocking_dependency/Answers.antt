use Rattle.mu_causal.proofs.Common
use Common.{◌<◌, ◌∙◌, ◌≡◌, ap, arith, get_or, get_or_default, length, slice_get, Some}
use Rattle.mu_causal.proofs.Passing.{row_there, names_known, blocked_within, names_at}
use Rattle.mu_causal.proofs.dependency_graph.find_blocking_dependency.Goals as goal

pub first_unmarked_dependency-place-requires-clause-known : goal.first_unmarked_dependency-place-requires-clause-known
first_unmarked_dependency-place-requires-clause-known c =
    let there : slice_get c.args.graph.now c.args.v ≡ Some c.index-graph-v.result = row_there c.args.graph.now c.args.v c.index-graph-v.result c.requires.there c.index-graph-v.is in
    rw (c.deref.ensures.value, c.requires.marks) (names_known c.args.graph.now c.args.v c.index-graph-v.result c.requires.closed there)

pub index-requires : goal.index-requires
index-requires c =
    let there : slice_get c.args.graph.now c.args.v ≡ Some c.index-graph-v.result = row_there c.args.graph.now c.args.v c.index-graph-v.result c.requires.there c.index-graph-v.is in
    let d = c.deref.ensures.value in
    let e = c.first_unmarked_dependency-place.ensures in
    let inside : c.first_unmarked_dependency-place.result < length c.index-graph-v.result.items = blocked_within c.args.graph.now c.args.marks.now c.args.v c.first_unmarked_dependency-place.result c.index-graph-v.result there c.requires.blocked (rw d at e.end) (rw d at e.marked) in
    omega (arith, inside, c.deref.ensures.len, ap length d)

pub returns-clause-names : goal.returns-clause-names
returns-clause-names c =
    let there : slice_get c.args.graph.now c.args.v ≡ Some c.index-graph-v.result = row_there c.args.graph.now c.args.v c.index-graph-v.result c.requires.there c.index-graph-v.is in
    let d = c.deref.ensures.value in
    let e = c.first_unmarked_dependency-place.ensures in
    let inside : c.first_unmarked_dependency-place.result < length c.index-graph-v.result.items = blocked_within c.args.graph.now c.args.marks.now c.args.v c.first_unmarked_dependency-place.result c.index-graph-v.result there c.requires.blocked (rw d at e.end) (rw d at e.marked) in
    let found : c.index.result.now ≡ get_or c.index-graph-v.result.items c.first_unmarked_dependency-place.result 0 = c.index.ensures ∙ get_or_default c.index-graph-v.result.items c.first_unmarked_dependency-place.result c.index.result.now 0 inside in
    rw found (names_at c.args.graph.now c.args.v c.first_unmarked_dependency-place.result c.index-graph-v.result there inside)

pub returns-clause-unmarked : goal.returns-clause-unmarked
returns-clause-unmarked c =
    let there : slice_get c.args.graph.now c.args.v ≡ Some c.index-graph-v.result = row_there c.args.graph.now c.args.v c.index-graph-v.result c.requires.there c.index-graph-v.is in
    let d = c.deref.ensures.value in
    let e = c.first_unmarked_dependency-place.ensures in
    let inside : c.first_unmarked_dependency-place.result < length c.index-graph-v.result.items = blocked_within c.args.graph.now c.args.marks.now c.args.v c.first_unmarked_dependency-place.result c.index-graph-v.result there c.requires.blocked (rw d at e.end) (rw d at e.marked) in
    let found : c.index.result.now ≡ get_or c.index-graph-v.result.items c.first_unmarked_dependency-place.result 0 = c.index.ensures ∙ get_or_default c.index-graph-v.result.items c.first_unmarked_dependency-place.result c.index.result.now 0 inside in
    rw found ((rw d at e.unmarked) inside)

pub returns-clause-there : goal.returns-clause-there
returns-clause-there c =
    let there : slice_get c.args.graph.now c.args.v ≡ Some c.index-graph-v.result = row_there c.args.graph.now c.args.v c.index-graph-v.result c.requires.there c.index-graph-v.is in
    let d = c.deref.ensures.value in
    let e = c.first_unmarked_dependency-place.ensures in
    let inside : c.first_unmarked_dependency-place.result < length c.index-graph-v.result.items = blocked_within c.args.graph.now c.args.marks.now c.args.v c.first_unmarked_dependency-place.result c.index-graph-v.result there c.requires.blocked (rw d at e.end) (rw d at e.marked) in
    let found : c.index.result.now ≡ get_or c.index-graph-v.result.items c.first_unmarked_dependency-place.result 0 = c.index.ensures ∙ get_or_default c.index-graph-v.result.items c.first_unmarked_dependency-place.result c.index.result.now 0 inside in
    rw found (c.requires.closed c.args.v _ (names_at c.args.graph.now c.args.v c.first_unmarked_dependency-place.result c.index-graph-v.result there inside))
