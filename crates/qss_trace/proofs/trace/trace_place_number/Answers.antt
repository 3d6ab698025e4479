use Rattle.qss_trace.proofs.Common.{◌*◌, ◌+◌, FitsSigned, get_or, pos, rules, sym, to_z-of_z, w128}
use Rattle.qss_trace.proofs.Placing.{cell-at}
use Rattle.qss_trace.proofs.trace.trace_place_number.Goals as goal

pub returns : goal.returns
returns c =
    let fits : FitsSigned w128 (get_or c.args.numbers.now (c.args.place * c.args.n + c.args.j) (pos 0)) = search rules in
    rw to_z-of_z (sym (cell-at c.args.n c.args.place c.args.j c.args.numbers.now c.requires.place c.requires.state))
