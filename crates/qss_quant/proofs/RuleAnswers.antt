-- The results of the named rules.
use Rattle.qss_quant.proofs.Common.{ℤ, ◌*ℤ◌, ◌<ℤ◌, ◌∙◌, ◌≡◌, ◌≤ℤ◌, pos, subst, sym}
use Rattle.std.specs.Prelude.{Some}
use Rattle.mu_num.proofs.NearLevels.{near-free, inward-free}
use Rattle.mu_num.proofs.Tests.{if-true, if-false, int_lt-yes, int_lt-no}
use Rattle.mu_num.specs.Levels.{IsWithinOneLevel}
use Rattle.mu_num.specs.Rounding.{floor_of, ceiling_of, nearest_of}
use Rattle.qss_quant.specs.declared.quantizer.Rule.{Rule}
use Rattle.qss_quant.specs.declared.quantizer.Rule.TheVariants.{Near, Inward}
use Rattle.qss_quant.specs.LevelRules.{level_by, IsAnswer}

-- the result of a rule is close if the rule is
rule_answer : (named : Rule) (state old unit answer : ℤ) → IsWithinOneLevel unit state old (level_by named unit state old) → answer ≡ level_by named unit state old → IsAnswer (Some named) state old unit answer
rule_answer named state old unit answer free is = record {
  close = subst (IsWithinOneLevel unit state old) (sym is) free;
  named = λ rule e. is ∙ subst (λ (r : Rule). level_by named unit state old ≡ level_by r unit state old) (same rule e) (refl_of (level_by named unit state old));
}
  where
    same : (rule : Rule) → Some named ≡ Some rule → named ≡ rule
    same rule e = cc

    refl_of : (z : ℤ) → z ≡ z
    refl_of z = cc

pub near_answer : (state old unit answer : ℤ) → pos 0 <ℤ unit → answer ≡ nearest_of state unit → IsAnswer (Some Near) state old unit answer
near_answer state old unit answer low is = rule_answer Near state old unit answer (near-free unit state old low) is

pub above_answer : (state old unit answer : ℤ) → pos 0 <ℤ unit → (unit *ℤ old) <ℤ state → answer ≡ floor_of state unit → IsAnswer (Some Inward) state old unit answer
above_answer state old unit answer low above is =
    rule_answer Inward state old unit answer (inward-free unit state old low) (is ∙ sym (if-true _ _ _ (int_lt-yes (unit *ℤ old) state above)))

pub below_answer : (state old unit answer : ℤ) → pos 0 <ℤ unit → state ≤ℤ (unit *ℤ old) → answer ≡ ceiling_of state unit → IsAnswer (Some Inward) state old unit answer
below_answer state old unit answer low below is =
    rule_answer Inward state old unit answer (inward-free unit state old low) (is ∙ sym (if-false _ _ _ (int_lt-no (unit *ℤ old) state below)))
