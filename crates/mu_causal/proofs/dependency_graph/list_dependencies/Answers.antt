-- The names of one more equation are in its row, and at the end all are.
use Rattle.mu_causal.proofs.Common
use Common.{[], ◌++◌, ◌+◌, ◌∙◌, ◌∷◌, ◌≡◌, AddsEquation, ap, append-nil, append_assoc, Bool, drop}
use Common.{flat_equation, flat_model, flat_variable, FlatEquationTree, FlatVariable, is_known}
use Common.{length, length-map, List, map, open_names, refl, row_at, sym}
use Rattle.std.proofs.lemmas.List.{drop_all}
use Rattle.mu_causal.proofs.GraphRows.{equations_from, graph_of, open_names-cons, open_names-nil}
use Rattle.mu_causal.proofs.dependency_graph.list_dependencies.Goals as goal

pub loop-equation-init : goal.loop-equation-init
loop-equation-init c = record {
  same_length = c.in_ok-graph.ensures.same_length ∙ c.len.ensures ∙ sym c.deref.ensures.len
      ∙ sym (length-map c.deref.result.now flat_variable)
      ∙ sym (length-map (map flat_variable c.deref.result.now) (λ v. is_known v.role))
      ∙ sym (ap length c.in_ok-known.ensures);
  rows = λ v. rw (c.in_ok-graph.ensures.empty v) refl;
}

pub loop-equation-preserved : goal.loop-equation-preserved
loop-equation-preserved c =
    let known : List Bool = c.in_ok-known.known.items in
    let i = c.loop-equation.equation-index in
    let items = c.deref-equation-items.result.now in
    let old = c.loop-equation.graph.items in
    let new = c.push_equation_dependencies.new.graph.items in
    let e : FlatEquationTree = flat_equation c.equation-item.result in
    let rest : List FlatEquationTree = map flat_equation (drop (i + 1) items) in
    let added : AddsEquation known e old new =
    rw c.deref-in-loop-equation.ensures.value at c.in_ok-push_equation_dependencies.ensures in
    let from =
    equations_from items i c.equation-item.result c.loop-equation-test.true c.equation-item.is in
    record {
      same_length = added.same_length ∙ c.loop-equation.invariant.same_length;
      rows = λ v.
          ap (λ names. names ++ open_names known rest v) (added.rows v)
          ∙ append_assoc (row_at old v) (open_names known (e ∷ []) v) (open_names known rest v)
          ∙ ap (λ names. row_at old v ++ names) (open_names-cons known e rest v)
          ∙ ap (λ (es : List FlatEquationTree). row_at old v ++ open_names known es v) (sym from)
          ∙ c.loop-equation.invariant.rows v;
    }

pub returns : goal.returns
returns c =
    let m = flat_model c.args.m.now in
    let known : List Bool = c.in_ok-known.known.items in
    let items = c.deref-equation-items.result.now in
    let g = c.loop-equation.graph.items in
    let left : map flat_equation (drop c.loop-equation.equation-index items) ≡ [] =
    ap (map flat_equation) (drop_all c.loop-equation.equation-index items c.loop-equation-test.false) in
    graph_of m g known
    (c.in_ok-known.ensures
    ∙ ap (λ vs. map (λ (v : FlatVariable). is_known v.role) (map flat_variable vs)) c.deref.ensures.value)
    c.loop-equation.invariant.same_length
    (λ v.
    sym (append-nil (row_at g v))
    ∙ ap (λ names. row_at g v ++ names) (sym (open_names-nil known v))
    ∙ ap (λ (es : List FlatEquationTree). row_at g v ++ open_names known es v) (sym left)
    ∙ c.loop-equation.invariant.rows v
    ∙ ap (λ es. open_names known (map flat_equation es) v) c.deref-equation-items.ensures.value)
