-- The sum is the rise.
use Rattle.qss_own_traces.proofs.Common.{◌∙◌, ap, FitsSigned, rise_at, sym, to_z-of_z, w128}
use Rattle.qss_own_traces.proofs.SecondSums.{rise_same}
use Rattle.qss_own_traces.proofs.second_order_trace.SecondPlace.rise.Goals as goal

pub trace_rise-requires-clause-same_length : goal.trace_rise-requires-clause-same_length
trace_rise-requires-clause-same_length c =
    rw c.deref.ensures.value (c.requires.levels ∙ sym c.requires.fits.same_size)

pub trace_rise-requires-clause-levels : goal.trace_rise-requires-clause-levels
trace_rise-requires-clause-levels c = rw c.deref.ensures.value c.requires.size_limit

pub returns-clause-value : goal.returns-clause-value
returns-clause-value c =
    let m = c.args.m.now in
    let fits : FitsSigned w128 c.trace_rise.result = record { sfits = c.trace_rise.type_inv } in
    to_z-of_z w128 c.trace_rise.result fits
    ∙ rise_same m c.args.a.now c.deref.result.now c.args.state c.trace_rise.result c.requires.fits
    c.requires.state c.trace_rise.ensures.value
    ∙ ap (rise_at m c.args.state) c.deref.ensures.value
