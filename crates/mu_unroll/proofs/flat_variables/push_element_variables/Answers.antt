use Rattle.mu_unroll.proofs.Common
use Common.{[], ◌++◌, ◌+◌, ◌-◌, ◌∙◌, ◌∷◌, ◌≡◌, ap, append_assoc, element_name, elements_from}
use Common.{flat_variable, FlatVar, map, map-append, scalar, sym}
use Rattle.mu_unroll.proofs.Placing.{elements_step}
use Rattle.mu_unroll.proofs.flat_variables.push_element_variables.Goals as goal

pub loop-before-preserved : goal.loop-before-preserved
loop-before-preserved c =
    let k = c.args.known.now in
    let kind = c.args.kind in
    let i = c.loop-before.before in
    let vars = c.loop-before.vars.items in
    let rest = elements_from kind k (i + 1 + 1) (c.args.count - (i + 1)) in
    let new : FlatVar = record { name = c.in_ok-name.name; role = kind; start = k.start; quantum = k.quantum } in
    let named : c.in_ok-name.name ≡ element_name k.name (i + 1) = c.in_ok-name.ensures ∙ ap (λ n. element_name n (i + 1)) c.bytes.ensures in
    ap (λ xs. map flat_variable xs ++ rest) c.in_ok-push.ensures.items
    ∙ ap (λ ys. ys ++ rest) (map-append flat_variable vars (new ∷ []))
    ∙ append_assoc (map flat_variable vars) (flat_variable new ∷ []) rest
    ∙ ap (λ n. map flat_variable vars ++ scalar kind k n ∷ rest) named
    ∙ sym (ap (λ es. map flat_variable vars ++ es) (elements_step kind k i c.args.count c.loop-before-test.true))
    ∙ c.loop-before.invariant
