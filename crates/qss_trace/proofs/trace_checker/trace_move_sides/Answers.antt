use Rattle.qss_trace.proofs.Common
use Common.{[], ℤ, ◌-◌, ◌<◌, ◌∙◌, ◌≡◌, All, ap, arith, entry_at, FitsSigned, get_or, IsWithin}
use Common.{levels_of, List, place_at, place_count, places, rules, states_of, subst, sym, to_z-of_z}
use Common.{w128}
use Rattle.qss_trace.proofs.Placing.{places-at, all-place}
use Rattle.qss_trace.proofs.Runs.{levels-count, levels-whole}
use Rattle.qss_trace.proofs.Turns.{state-small, rise-is}
use Rattle.qss_trace.proofs.trace_checker.trace_move_sides.Goals as goal

pub trace_rate-requires-clause-from : goal.trace_rate-requires-clause-from
trace_rate-requires-clause-from c =
    let fits : FitsSigned w128 c.trace_place_number-from.result = search rules in
    let e : c.trace_place_number-from.result ≡ entry_at (states_of c.args.t.now) (c.args.place - 1) c.args.j =
    c.trace_place_number-from.ensures ∙ ap (λ (xs : List ℤ). entry_at (places c.args.t.now.n xs) (c.args.place - 1) c.args.j) c.as_slice-states.ensures in
    rw (to_z-of_z, e) (state-small c.args.t.now (c.args.place - 1) c.args.j (omega (arith, c.requires.taken.inside)) c.requires.taken.state)

pub trace_rate-requires-clause-to : goal.trace_rate-requires-clause-to
trace_rate-requires-clause-to c =
    let fits : FitsSigned w128 c.trace_place_number-to.result = search rules in
    let e : c.trace_place_number-to.result ≡ entry_at (states_of c.args.t.now) c.args.place c.args.j =
    c.trace_place_number-to.ensures ∙ ap (λ (xs : List ℤ). entry_at (places c.args.t.now.n xs) c.args.place c.args.j) c.as_slice-states.ensures in
    rw (to_z-of_z, e) (state-small c.args.t.now c.args.place c.args.j c.requires.taken.inside c.requires.taken.state)

pub trace_rise-requires-clause-levels : goal.trace_rise-requires-clause-levels
trace_rise-requires-clause-levels c =
    let h : c.args.place - 1 < place_count c.args.t.now.n c.args.t.now.levels = omega (arith, levels-count c.args.t.now, c.requires.taken.inside) in
    let e : c.trace_place_numbers-levels.result.now ≡ place_at c.args.t.now.n c.args.t.now.levels (c.args.place - 1) =
    c.trace_place_numbers-levels.ensures.value ∙ ap (λ (xs : List ℤ). get_or (places c.args.t.now.n xs) (c.args.place - 1) []) c.as_slice.ensures
    ∙ places-at c.args.t.now.n (c.args.place - 1) c.args.t.now.levels h in
    let P : List ℤ → Type 0 = λ xs. All (IsWithin 64) xs in
    subst P (sym e) (all-place (IsWithin 64) c.args.t.now.n (c.args.place - 1) c.args.t.now.levels (levels-whole c.args.t.now) h c.args.t.now.has_places.small_levels)

pub returns-clause-right : goal.returns-clause-right
returns-clause-right c =
    let fits : FitsSigned w128 c.trace_rise.result = search rules in
    let e : c.trace_place_numbers-levels.result.now ≡ get_or (levels_of c.args.t.now) (c.args.place - 1) [] =
    c.trace_place_numbers-levels.ensures.value ∙ ap (λ (xs : List ℤ). get_or (places c.args.t.now.n xs) (c.args.place - 1) []) c.as_slice.ensures in
    rw to_z-of_z (rise-is c.args.m.now c.args.a.now c.args.t.now c.trace_place_numbers-levels.result.now (get_or (levels_of c.args.t.now) (c.args.place - 1) []) c.args.j c.trace_rise.result
    c.requires.fit c.requires.taken.state c.trace_rise.ensures.value e)
