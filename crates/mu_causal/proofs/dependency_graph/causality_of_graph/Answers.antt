use Rattle.mu_causal.proofs.Common
use Common.{◌++◌, ◌<◌, ◌∙◌, ◌≡◌, arith, drop, IsListing, IsMarked, length, subst, take}
use Rattle.mu_causal.proofs.Orders.{IsCycle-weaker}
use Rattle.mu_causal.proofs.Listing.{order_from, unknown_of, written_back}
use Rattle.mu_causal.specs.VisitMarks as marks
use Rattle.mu_causal.proofs.dependency_graph.causality_of_graph.Goals as goal

pub returns-then-not-index : goal.returns-then-not-index
returns-then-not-index c =
    let same : take c.in_ok-marks.marks.len (c.list_ready_dependencies.new.marks ++ drop (length c.list_ready_dependencies.new.marks) c.in_ok-marks.marks.items) ≡ c.list_ready_dependencies.new.marks =
    written_back c.list_ready_dependencies.new.marks c.in_ok-marks.marks.items c.in_ok-marks.marks.len (c.list_ready_dependencies.auto.marks ∙ c.deref_mut.ensures.len) in
    let now : c.deref.result.now ≡ c.list_ready_dependencies.new.marks = c.deref.ensures.value ∙ same in
    let start : c.deref_mut.result.now ≡ c.args.known.now = c.deref_mut.ensures.value ∙ c.in_ok-marks.ensures.items in
    let listing : IsListing c.args.graph.now c.args.known.now c.list_ready_dependencies.new.marks c.in_ok-vars.vars.items = rw start at c.in_ok-vars.ensures in
    IsCycle-weaker (marks.Needs c.args.graph.now c.deref.result.now) (marks.Needs c.args.graph.now c.args.known.now) c.in_ok-vars-2.vars.items
    (λ v w n. record {
      names = n.names;
      from_unknown = unknown_of c.args.graph.now c.args.known.now c.list_ready_dependencies.new.marks c.in_ok-vars.vars.items v listing.are_marks (subst (λ m. marks.IsUnmarked m v) now n.from_unknown);
      to_unknown = unknown_of c.args.graph.now c.args.known.now c.list_ready_dependencies.new.marks c.in_ok-vars.vars.items w listing.are_marks (subst (λ m. marks.IsUnmarked m w) now n.to_unknown);
    })
    c.in_ok-vars-2.ensures

pub returns : goal.returns
returns c =
    let same : take c.in_ok-marks.marks.len (c.list_ready_dependencies.new.marks ++ drop (length c.list_ready_dependencies.new.marks) c.in_ok-marks.marks.items) ≡ c.list_ready_dependencies.new.marks =
    written_back c.list_ready_dependencies.new.marks c.in_ok-marks.marks.items c.in_ok-marks.marks.len (c.list_ready_dependencies.auto.marks ∙ c.deref_mut.ensures.len) in
    let start : c.deref_mut.result.now ≡ c.args.known.now = c.deref_mut.ensures.value ∙ c.in_ok-marks.ensures.items in
    let listing : IsListing c.args.graph.now c.args.known.now c.list_ready_dependencies.new.marks c.in_ok-vars.vars.items = rw start at c.in_ok-vars.ensures in
    order_from c.args.graph.now c.args.known.now c.list_ready_dependencies.new.marks c.in_ok-vars.vars.items listing
    (λ v there. let below : v < c.loop-v.v = omega arith in subst (λ m. IsMarked m v) same (c.loop-v.invariant v below))
