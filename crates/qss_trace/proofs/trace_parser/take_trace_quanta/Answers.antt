use Rattle.qss_trace.proofs.Common
use Common.{[], ◌∷◌, AddsNumbers, AreQuanta, drop, fields_of, line, ParsesAs, take}
use Rattle.qss_trace.specs.declared.trace_parser.Limit.TheVariants.{Quantum}
use Rattle.qss_trace.proofs.Taken.{on-ok-map, spells-many, quanta-many}
use Rattle.qss_trace.proofs.trace_parser.take_trace_quanta.Goals as goal

pub returns-clause-spelt : goal.returns-clause-spelt
returns-clause-spelt c =
    on-ok-map c.parse_trace_numbers.result (AddsNumbers Quantum (take c.args.n (drop 1 (fields_of c.args.found.now))) c.args.q.now.items c.parse_trace_numbers.new.numbers.items)
    (ParsesAs (fields_of c.args.found.now) (line (81 ∷ []) c.parse_trace_numbers.new.numbers.items))
    (spells-many (81 ∷ []) (fields_of c.args.found.now) c.args.n Quantum c.args.q.now.items c.parse_trace_numbers.new.numbers.items c.in_ok-check_trace_shape.ensures.shape c.requires.none)
    c.parse_trace_numbers.ensures.read

pub returns-clause-quanta : goal.returns-clause-quanta
returns-clause-quanta c =
    on-ok-map c.parse_trace_numbers.result (AddsNumbers Quantum (take c.args.n (drop 1 (fields_of c.args.found.now))) c.args.q.now.items c.parse_trace_numbers.new.numbers.items)
    (AreQuanta c.args.n c.parse_trace_numbers.new.numbers.items)
    (quanta-many (81 ∷ []) (fields_of c.args.found.now) c.args.n c.args.q.now.items c.parse_trace_numbers.new.numbers.items c.in_ok-check_trace_shape.ensures.shape c.requires.none)
    c.parse_trace_numbers.ensures.read
