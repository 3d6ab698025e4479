use Rattle.cert_check.proofs.Common
use Common.{[], ℤ, ◌++◌, ◌+◌, ◌-◌, ◌<◌, ◌∙◌, ◌∷◌, ◌≡◌, ◌⊎◌, ap, arith, drop, false, fields_of}
use Common.{FitsSigned, get_or, inl, is_no_number, length, Memory, Number, of_z, option_map}
use Common.{position_from, refl, rules, Some, sym, to_z, to_z-of_z, w128}
use Rattle.cert_check.proofs.Fields.{spelt-more, faults-more, vector-more, first-number}
use Rattle.cert_check.proofs.Turns.{err-as}
use Rattle.cert_check.proofs.certificate_parser.parse_certificate_numbers.Goals as goal

pub loop-place-preserved : goal.loop-place-preserved
loop-place-preserved c =
    let fields = fields_of c.args.found.now in
    let inside : c.loop-place.place < length (fields_of c.args.found.now) = omega (arith, c.loop-place-test.true, c.len-place-end.ensures) in
    let fits : FitsSigned w128 c.in-Some.number = search rules in
    let raw : c.push.new.self.items ≡ c.loop-place.row.items ++ to_z w128 (of_z w128 c.in-Some.number) ∷ [] = c.in_ok-push-in-Some.ensures.items in
    let items : c.push.new.self.items ≡ c.loop-place.row.items ++ c.in-Some.number ∷ [] = raw ∙ ap (λ (z : ℤ). c.loop-place.row.items ++ z ∷ []) (to_z-of_z fits) in
    let number = sym c.in-Some.ensures.value in
    let k : c.loop-place.place - 1 + 1 ≡ c.loop-place.place + 1 - 1 = omega (arith, c.loop-place.invariant.some) in
    let more = vector-more (c.loop-place.place - 1) c.loop-place.row.items c.in-Some.number c.loop-place.invariant.numbers c.in-Some.ensures.bound in
    record {
      some = omega arith;
      spelt = rw items
          (spelt-more fields c.loop-place.place c.loop-place.invariant.some inside c.loop-place.row.items c.in-Some.number c.loop-place.invariant.spelt number);
      numbers = rw (items, ← k) more;
      first = λ h. first-number fields c.loop-place.place c.in-Some.number c.loop-place.invariant.some c.loop-place.invariant.first number;
      faults = c.loop-place.invariant.faults ∙ faults-more fields c.loop-place.place c.loop-place.invariant.some inside c.in-Some.number number;
    }

pub returns-in_err-push-in-Some-clause-refused : goal.returns-in_err-push-in-Some-clause-refused
returns-in_err-push-in-Some-clause-refused c =
    let fields = fields_of c.args.found.now in
    let first = first-number fields c.loop-place.place c.in-Some.number c.loop-place.invariant.some c.loop-place.invariant.first (sym c.in-Some.ensures.value) in
    err-as c.from_residual.result Memory
    (λ why. ((why ≡ Memory) × (is_no_number (get_or fields 1 []) ≡ false)) ⊎ (option_map (λ field. Number c.args.line field) (position_from is_no_number 2 (drop 1 fields)) ≡ Some why))
    c.from_residual.ensures.1 (inl (refl, first))
