-- The rows that read one more variable.
use Rattle.qss_states.proofs.Common
use Common.{[], ℕ, ◌++◌, ◌+◌, ◌<◌, ◌∙◌, ◌≡◌, All, ap, append-nil, append_assoc, flat_map, get_or}
use Common.{IsLeastPast, length, List, lists_more, overflow_of, subst, sym, take, take_all}
use Rattle.qss_states.proofs.kept_weights.least_exceeding_reader.Goals as goal

pub loop-var-init : goal.loop-var-init
loop-var-init c before is = subst (λ (rows : List ℕ). IsLeastPast c.args.weights.now rows (overflow_of c.args.found)) (sym (append-nil before)) is

pub least_exceeding_row-least-requires : goal.least_exceeding_row-least-requires
least_exceeding_row-least-requires c =
    let i = c.loop-var.var-index in
    let var : ℕ = get_or c.args.variables.now i 0 in
    record { rows = subst (All (λ row. row < length c.args.weights.now)) (sym c.rows_of.ensures) (c.requires.rows var (c.requires.variables i 0 c.loop-var-test.true)) }

pub loop-var-preserved : goal.loop-var-preserved
loop-var-preserved c before is =
    let i = c.loop-var.var-index in
    let f = λ (var : ℕ). get_or c.args.uses.now.0 var [] in
    let sooner : List ℕ = flat_map f (take i c.args.variables.now) in
    let rows : (before ++ sooner) ++ c.rows_of.result.now ≡ before ++ flat_map f (take (i + 1) c.args.variables.now) =
    append_assoc before sooner c.rows_of.result.now
    ∙ ap (λ more. before ++ (sooner ++ more)) c.rows_of.ensures
    ∙ ap (λ more. before ++ more) (sym (lists_more f c.args.variables.now i c.loop-var-test.true)) in
    subst (λ (rows : List ℕ). IsLeastPast c.args.weights.now rows (overflow_of c.least_exceeding_row-least.result)) rows (c.least_exceeding_row-least.ensures (before ++ sooner) (c.loop-var.invariant before is))

pub returns : goal.returns
returns c before is =
    subst (λ (variables : List ℕ). IsLeastPast c.args.weights.now (before ++ flat_map (λ var. get_or c.args.uses.now.0 var []) variables) (overflow_of c.loop-var.least))
    (take_all c.loop-var.var-index c.args.variables.now c.loop-var-test.false) (c.loop-var.invariant before is)
