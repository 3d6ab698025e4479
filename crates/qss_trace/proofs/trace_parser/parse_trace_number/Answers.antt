use Rattle.qss_trace.proofs.Common.{[], fields_of, FitsSigned, get_or, rules, sym, to_z-of_z, w128}
use Rattle.qss_trace.proofs.Judging.{within-is}
use Rattle.qss_trace.proofs.trace_parser.parse_trace_number.Goals as goal

pub returns-in-Some-clause-fits : goal.returns-in-Some-clause-fits
returns-in-Some-clause-fits c =
    let fits : FitsSigned w128 c.in-Some.number = search rules in
    rw to_z-of_z ((within-is c.args.limit (get_or (fields_of c.args.found.now) 1 []) c.in-Some.number (sym c.in-Some.ensures)).1)
