use Rattle.qss_trace.proofs.Common
use Common.{ℤ, ◌∙◌, ◌≡◌, ap, arith, entry_at, FitsSigned, List, places, rules, states_of, to_z-of_z}
use Common.{w128}
use Rattle.qss_trace.proofs.Turns.{state-small}
use Rattle.qss_trace.proofs.trace_comparison.comparison_difference_at.Goals as goal

pub scale_trace_state-requires-clause-state : goal.scale_trace_state-requires-clause-state
scale_trace_state-requires-clause-state c =
    let fits : FitsSigned w128 c.trace_place_number-one.result = search rules in
    let e : c.trace_place_number-one.result ≡ entry_at (states_of c.args.t1.now) c.args.i1 c.args.j =
    c.trace_place_number-one.ensures ∙ ap (λ (xs : List ℤ). entry_at (places c.args.t1.now.n xs) c.args.i1 c.args.j) c.as_slice.ensures in
    rw (to_z-of_z, e) (state-small c.args.t1.now c.args.i1 c.args.j c.requires.first c.requires.state)

pub scale_trace_state-requires-2-clause-state : goal.scale_trace_state-requires-2-clause-state
scale_trace_state-requires-2-clause-state c =
    let fits : FitsSigned w128 c.trace_place_number-two.result = search rules in
    let e : c.trace_place_number-two.result ≡ entry_at (states_of c.args.t2.now) c.args.i2 c.args.j =
    c.trace_place_number-two.ensures ∙ ap (λ (xs : List ℤ). entry_at (places c.args.t2.now.n xs) c.args.i2 c.args.j) c.as_slice-2.ensures in
    rw (to_z-of_z, e) (state-small c.args.t2.now c.args.i2 c.args.j c.requires.second (omega arith))
