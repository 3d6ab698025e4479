use Rattle.qss_trace.proofs.Common
use Common.{[], ◌+◌, ◌∷◌, AddsNumbers, AddsPlace, drop, fields_of, refl, take}
use Rattle.qss_trace.specs.declared.trace_parser.Limit.TheVariants.{Level}
use Rattle.qss_trace.proofs.Taken.{on-ok-map, place-adds}
use Rattle.qss_trace.proofs.trace_parser.take_trace_place.Goals as goal

pub returns-clause-adds : goal.returns-clause-adds
returns-clause-adds c =
    on-ok-map c.parse_trace_numbers-2.result (AddsNumbers Level (take c.args.n (drop (c.args.n + 1) (fields_of c.args.found.now))) c.args.levels.now.items c.parse_trace_numbers-2.new.numbers.items)
    (AddsPlace c.args.n (fields_of c.args.found.now) c.args.states.now.items c.args.levels.now.items c.parse_trace_numbers.new.numbers.items c.parse_trace_numbers-2.new.numbers.items)
    (place-adds (97 ∷ 116 ∷ []) c.args.n (fields_of c.args.found.now) c.args.states.now.items c.args.levels.now.items c.parse_trace_numbers.new.numbers.items c.parse_trace_numbers-2.new.numbers.items refl
    c.in_ok-check_trace_shape.ensures.shape c.in_ok-parse_trace_numbers.ensures.read)
    c.parse_trace_numbers-2.ensures.read
