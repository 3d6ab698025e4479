use Rattle.qss_trace.proofs.Common
use Common.{[], ℕ, ℤ, ◌++◌, ◌+◌, ◌-◌, ◌<◌, ◌∙◌, ◌∷◌, ◌≡◌, AddsNumbers, ap, arith, drop, false}
use Common.{fields_of, FitsSigned, get_or, get_or-drop, inr, is_unfit, length, length-drop, List}
use Common.{Number, number_within, of_z, option_map, position_from, rules, Some, subst, sym, take}
use Common.{to_z, to_z-of_z, true, w128}
use Rattle.std.specs.Prelude.{is_none}
use Rattle.qss_trace.proofs.Numbering.{adds-more, faults-more, fault-here}
use Rattle.qss_trace.proofs.trace_parser.parse_trace_numbers.Goals as goal

pub returns-in-None-clause-refused : goal.returns-in-None-clause-refused
returns-in-None-clause-refused c =
    let inside : c.loop-place.place < length (fields_of c.args.found.now) = omega (arith, c.loop-place-test.true, c.requires.inside) in
    let some : 0 < c.args.first + c.args.count - c.loop-place.place = omega (arith, c.loop-place-test.true) in
    let bad : is_unfit c.args.limit (get_or (fields_of c.args.found.now) c.loop-place.place []) ≡ true = ap is_none (sym c.in-None.ensures) in
    inr (ap (option_map (λ field. Number c.args.line field))
    (c.loop-place.invariant.faults ∙ fault-here (is_unfit c.args.limit) (fields_of c.args.found.now) c.loop-place.place (c.args.first + c.args.count - c.loop-place.place) inside some bad))

pub loop-place-preserved : goal.loop-place-preserved
loop-place-preserved c =
    let inside : c.loop-place.place < length (fields_of c.args.found.now) = omega (arith, c.loop-place-test.true, c.requires.inside) in
    let some : 0 < c.args.first + c.args.count - c.loop-place.place = omega (arith, c.loop-place-test.true) in
    let fits : FitsSigned w128 c.in-Some.number = search rules in
    let raw : c.push.new.self.items ≡ c.loop-place.numbers.items ++ to_z w128 (of_z w128 c.in-Some.number) ∷ [] = c.in_ok-push-in-Some.ensures.items in
    let items : c.push.new.self.items ≡ c.loop-place.numbers.items ++ c.in-Some.number ∷ [] = raw ∙ ap (λ (z : ℤ). c.loop-place.numbers.items ++ z ∷ []) (to_z-of_z fits) in
    let number : number_within c.args.limit (get_or (fields_of c.args.found.now) c.loop-place.place []) ≡ Some c.in-Some.number = sym c.in-Some.ensures in
    let good : is_unfit c.args.limit (get_or (fields_of c.args.found.now) c.loop-place.place []) ≡ false = ap is_none number in
    let k : c.loop-place.place - c.args.first + 1 ≡ c.loop-place.place + 1 - c.args.first = omega (arith, c.loop-place.invariant.low) in
    let at : get_or (drop c.args.first (fields_of c.args.found.now)) (c.loop-place.place - c.args.first) [] ≡ get_or (fields_of c.args.found.now) c.loop-place.place [] =
    get_or-drop c.args.first (fields_of c.args.found.now) (c.loop-place.place - c.args.first) [] ∙ ap (λ j. get_or (fields_of c.args.found.now) j []) (omega (arith, c.loop-place.invariant.low)) in
    let short : c.loop-place.place - c.args.first < length (drop c.args.first (fields_of c.args.found.now)) =
    omega (arith, length-drop c.args.first (fields_of c.args.found.now), inside, c.loop-place.invariant.low) in
    let adds = adds-more c.args.limit c.args.numbers.now.items c.loop-place.numbers.items (drop c.args.first (fields_of c.args.found.now)) (c.loop-place.place - c.args.first) c.in-Some.number
    short c.loop-place.invariant.adds (ap (number_within c.args.limit) at ∙ number) in
    let P : ℕ → Type 0 = λ j. AddsNumbers c.args.limit (take j (drop c.args.first (fields_of c.args.found.now))) c.args.numbers.now.items (c.loop-place.numbers.items ++ c.in-Some.number ∷ []) in
    let Q : List ℤ → Type 0 = λ xs. AddsNumbers c.args.limit (take (c.loop-place.place + 1 - c.args.first) (drop c.args.first (fields_of c.args.found.now))) c.args.numbers.now.items xs in
    let left : c.args.first + c.args.count - c.loop-place.place - 1 ≡ c.args.first + c.args.count - (c.loop-place.place + 1) = omega arith in
    record {
      low = omega (arith, c.loop-place.invariant.low);
      high = omega (arith, c.loop-place-test.true);
      adds = subst Q (sym items) (subst P k adds);
      faults = c.loop-place.invariant.faults
          ∙ faults-more (is_unfit c.args.limit) (fields_of c.args.found.now) c.loop-place.place (c.args.first + c.args.count - c.loop-place.place) inside some good
          ∙ ap (λ j. position_from (is_unfit c.args.limit) (c.loop-place.place + 1 + 1) (take j (drop (c.loop-place.place + 1) (fields_of c.args.found.now)))) left;
    }
