-- The names are appended to one row, or nothing changes.
use Rattle.mu_causal.proofs.Common
use Common.{◌<◌, ◌∙◌, arith, false, flat_equation, get_or_default, length, true}
use Rattle.mu_causal.proofs.GraphRows.{appended, known_past, unchanged}
use Rattle.mu_causal.proofs.dependency_graph.push_equation_dependencies.Goals as goal

pub returns-then-target-known : goal.returns-then-target-known
returns-then-target-known c =
    unchanged c.args.known.now (flat_equation c.args.equation.now) c.args.graph.now.items
    (known_past c.args.known.now c.args.equation.now.target (omega (arith, c.if-target-known.true)))

pub returns-then-known-target : goal.returns-then-known-target
returns-then-known-target c =
    let known = c.args.known.now in
    let target = c.args.equation.now.target in
    let inside : target < length known = omega (arith, c.if-target-known.false) in
    unchanged known (flat_equation c.args.equation.now) c.args.graph.now.items
    (get_or_default known target true false inside ∙ c.if-known-target.true)

pub returns : goal.returns
returns c =
    let known = c.args.known.now in
    let target = c.args.equation.now.target in
    let inside : target < length known = omega (arith, c.if-target-known.false) in
    appended known (flat_equation c.args.equation.now) c.args.graph.now.items c.index_mut.result.now
    c.push_dependencies.new.names (omega (arith, inside, c.requires))
    (get_or_default known target true false inside ∙ c.if-known-target.false)
    c.index_mut.ensures.value c.in_ok-push_dependencies.ensures
