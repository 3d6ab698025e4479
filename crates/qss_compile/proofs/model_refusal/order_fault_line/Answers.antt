use Rattle.qss_compile.proofs.Common
use Common.{ℕ, ◌∙◌, ◌≡◌, ap, CausalErr, field_text, IfOk-weaker, List, map, map_twice, sym}
use Rattle.std.proofs.Common.{codes}
use Rattle.qss_compile.specs.RefusalLines.{reason, reason_line, variable_text, order_reason}
use Rattle.qss_compile.specs.declared.model_refusal.Field.TheVariants.{Variable}
use Rattle.qss_compile.proofs.model_refusal.order_fault_line.Goals as goal

pub returns-in_ok-fields-in-Loop : goal.returns-in_ok-fields-in-Loop
returns-in_ok-fields-in-Loop c =
    let names : List (List ℕ) = c.args.names.now in
    let texts : map (field_text names) c.deref.result.now ≡ map (variable_text names) c.in-Loop.vars =
    ap (map (field_text names)) (c.deref.ensures.value ∙ c.in_ok-fields-in-Loop.ensures ∙ ap (map Variable) c.as_slice.ensures) ∙ map_twice Variable (field_text names) c.in-Loop.vars in
    let same : reason_line (reason (codes "causal") 3 (map (field_text names) c.deref.result.now)) ≡ reason_line (order_reason names c.args.fault.now) =
    ap (λ (xs : List (List ℕ)). reason_line (reason (codes "causal") 3 xs)) texts ∙ ap (λ (f : CausalErr). reason_line (order_reason names f)) (sym c.in-Loop.is) in
    IfOk-weaker c.refusal_reason-in-Loop.result (λ line. line.items ≡ reason_line (reason (codes "causal") 3 (map (field_text names) c.deref.result.now)))
    (λ line. line.items ≡ reason_line (order_reason names c.args.fault.now)) (λ line e. e ∙ same) c.refusal_reason-in-Loop.ensures
