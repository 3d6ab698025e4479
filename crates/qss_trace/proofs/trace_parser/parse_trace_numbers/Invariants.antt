use Rattle.qss_trace.proofs.Common
use Common.{◌+◌, ◌-◌, ◌≡◌, ◌≤◌, AddsNumbers, drop, fields_of, is_unfit, position_from, take}
use Rattle.qss_trace.proofs.trace_parser.parse_trace_numbers.Given as goal

abbrev pub invariant-loop-place : goal.invariant-loop-place
invariant-loop-place l = record {
  low : l.first ≤ l.place;
  high : l.place ≤ l.first + l.count;
  adds : AddsNumbers l.limit (take (l.place - l.first) (drop l.first (fields_of l.found))) l.initial.numbers.items l.numbers.items;
  faults : position_from (is_unfit l.limit) (l.first + 1) (take l.count (drop l.first (fields_of l.found)))
      ≡ position_from (is_unfit l.limit) (l.place + 1) (take (l.first + l.count - l.place) (drop l.place (fields_of l.found)));
}
