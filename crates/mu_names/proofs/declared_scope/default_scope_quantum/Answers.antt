use Rattle.mu_names.proofs.Common.{◌∙◌, ◌≡◌, ap, Fraction, pos, refl, sym, whole}
use Rattle.std.specs.Prelude.{Result, Ok, Err}
use Rattle.mu_num.specs.declared.NumErr.{NumErr}
use Rattle.mu_num.specs.Fraction.{checked_quotient, checked, lowest, least_denominator}
use Rattle.mu_num.specs.Fraction.{least_multiplier}
use Rattle.mu_names.proofs.declared_scope.default_scope_quantum.Goals as goal

-- one over 1,024 in lowest terms
one_part : checked_quotient (whole (pos 1)) (whole (pos 1024)) ≡ Ok (record { num = pos 1; den = 1024 })
unfolding checked lowest least_denominator least_multiplier
one_part = refl

-- a result with a value
abbrev ok_of : Fraction → Result Fraction NumErr
ok_of a = Ok a

-- a value is no fault
not_both : (a : Fraction) (f : NumErr) → ok_of a ≡ Err f → ⊥
not_both a f e = cc

pub unreachable-requires : goal.unreachable-requires
unreachable-requires c =
    let answer : checked_quotient (whole (pos 1)) (whole (pos 1024)) ≡ Err c.in-Err.field-0 = ap (λ a. checked_quotient a (whole (pos 1024))) (sym c.whole.ensures) ∙ ap (checked_quotient c.whole.result) (sym c.whole-2.ensures) ∙ sym c.div.ensures ∙ c.in-Err.is in
    not_both (record { num = pos 1; den = 1024 }) c.in-Err.field-0 (sym one_part ∙ answer)

-- equal results have equal values
same_value : (a b : Fraction) → ok_of a ≡ ok_of b → a ≡ b
same_value a b e = cc

pub returns : goal.returns
returns c =
    let answer : checked_quotient (whole (pos 1)) (whole (pos 1024)) ≡ Ok c.in-Ok.quantum = ap (λ a. checked_quotient a (whole (pos 1024))) (sym c.whole.ensures) ∙ ap (checked_quotient c.whole.result) (sym c.whole-2.ensures) ∙ sym c.div.ensures ∙ c.in-Ok.is in
    same_value c.in-Ok.quantum (record { num = pos 1; den = 1024 }) (sym answer ∙ one_part)
