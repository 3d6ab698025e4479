use Rattle.mu_causal.proofs.Common
use Common.{◌∙◌, ◌≡◌, ap, DependsOn, flat_model, flat_variable, FlatVariable, is_known, IsAlgebraic}
use Common.{IsCycle, IsGraphOf, IsOpen, IsOrder, map, Needs}
use Rattle.mu_causal.proofs.FlatGraphs.{says_same, closed_of, known_in}
use Rattle.mu_causal.proofs.Orders.{SaySame, IsOrder-same, IsCycle-weaker}
use Rattle.mu_causal.proofs.causal_order.order.Goals as goal

pub causality_of_graph-requires-clause-closed : goal.causality_of_graph-requires-clause-closed
causality_of_graph-requires-clause-closed c =
    let is : IsGraphOf (flat_model c.args.m.now) c.deref-2.result.now = rw c.deref-2.ensures.value c.in-Ok.ensures in
    closed_of (flat_model c.args.m.now) c.deref-2.result.now c.requires is

pub returns-in-Ok-Order-clause-order : goal.returns-in-Ok-Order-clause-order
returns-in-Ok-Order-clause-order c =
    let m = flat_model c.args.m.now in
    let g = c.deref-2.result.now in
    let is : IsGraphOf m g = rw c.deref-2.ensures.value c.in-Ok.ensures in
    let known : c.deref-3.result.now ≡ known_in m = c.deref-3.ensures.value ∙ c.in-Ok-known_dependencies.ensures ∙ ap (λ vs. map (λ (v : FlatVariable). is_known v.role) (map flat_variable vs)) c.deref.ensures.value in
    let same : SaySame (IsOpen g (known_in m)) (Needs g (known_in m)) (IsAlgebraic m) (DependsOn m) = says_same m g is (closed_of m g c.requires is) in
    let answer : IsOrder (IsOpen g (known_in m)) (Needs g (known_in m)) c.in-Ok-Order.vars.items = rw known at (rw c.in-Ok-Order.field-0-is at c.in-Ok-Order.ensures) in
    rw c.new.ensures (IsOrder-same _ _ _ _ c.in-Ok-Order.vars.items same answer)

pub returns-in-Ok-Loop-clause-refused : goal.returns-in-Ok-Loop-clause-refused
returns-in-Ok-Loop-clause-refused c =
    let m = flat_model c.args.m.now in
    let g = c.deref-2.result.now in
    let is : IsGraphOf m g = rw c.deref-2.ensures.value c.in-Ok.ensures in
    let known : c.deref-3.result.now ≡ known_in m = c.deref-3.ensures.value ∙ c.in-Ok-known_dependencies.ensures ∙ ap (λ vs. map (λ (v : FlatVariable). is_known v.role) (map flat_variable vs)) c.deref.ensures.value in
    let same : SaySame (IsOpen g (known_in m)) (Needs g (known_in m)) (IsAlgebraic m) (DependsOn m) = says_same m g is (closed_of m g c.requires is) in
    let answer : IsCycle (Needs g (known_in m)) c.in-Ok-Loop.vars.items = rw known at (rw c.in-Ok-Loop.field-0-is at c.in-Ok-Loop.ensures) in
    (c.in_default.ensures.ok, rw c.new-in-Ok-Loop.ensures (IsCycle-weaker _ _ c.in-Ok-Loop.vars.items same.need answer))
