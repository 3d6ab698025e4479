use Rattle.qss_trace.proofs.Common
use Common.{ℤ, ◌∙◌, ◌≡◌, ap, entry_at, FitsSigned, levels_of, List, places, rules, states_of}
use Common.{to_z-of_z, w128}
use Rattle.qss_trace.proofs.Turns.{state-small, level-small}
use Rattle.qss_trace.proofs.trace_checker.trace_near_sides.Goals as goal

pub trace_distance-requires-clause-state : goal.trace_distance-requires-clause-state
trace_distance-requires-clause-state c =
    let fits : FitsSigned w128 c.trace_place_number-state.result = search rules in
    let e : c.trace_place_number-state.result ≡ entry_at (states_of c.args.t.now) c.args.place c.args.j =
    c.trace_place_number-state.ensures ∙ ap (λ (xs : List ℤ). entry_at (places c.args.t.now.n xs) c.args.place c.args.j) c.as_slice.ensures in
    rw (to_z-of_z, e) (state-small c.args.t.now c.args.place c.args.j c.requires.taken.inside c.requires.taken.state)

pub trace_distance-requires-clause-level : goal.trace_distance-requires-clause-level
trace_distance-requires-clause-level c =
    let fits : FitsSigned w128 c.trace_place_number-level.result = search rules in
    let e : c.trace_place_number-level.result ≡ entry_at (levels_of c.args.t.now) c.args.place c.args.j =
    c.trace_place_number-level.ensures ∙ ap (λ (xs : List ℤ). entry_at (places c.args.t.now.n xs) c.args.place c.args.j) c.as_slice-2.ensures in
    rw (to_z-of_z, e) (level-small c.args.t.now c.args.place c.args.j c.requires.taken.inside c.requires.taken.state)
