use Rattle.mu_affine.proofs.Common.{◌∙◌, Entry, entry_of, FitsSigned, sym, to_z-of_z, w128}
use Rattle.mu_affine.proofs.KeptNumbers.{kept_large, small_turn, kept_end, cast_small, entry_turn}
use Rattle.mu_affine.proofs.rounded_form.round_form_entries.Goals as goal

pub returns-then-exceeds_power_of_two-clause-none : goal.returns-then-exceeds_power_of_two-clause-none
returns-then-exceeds_power_of_two-clause-none c =
    let fits : FitsSigned w128 c.round_form_number-coef.result = record { sfits = c.round_form_number-coef.type_inv } in
    let large = rw (to_z-of_z w128 c.round_form_number-coef.result fits, c.round_form_number-coef.ensures) at c.exceeds_power_of_two.ensures in
    kept_large (entry_of c.args.p) (λ (e : Entry). e.coef) c.args.exact.now c.loop-e.e-index c.e-item.result c.loop-e-test.true c.e-item.is (sym large ∙ c.if-exceeds_power_of_two.true)

pub loop-e-preserved : goal.loop-e-preserved
loop-e-preserved c =
    let fits : FitsSigned w128 c.round_form_number-coef.result = record { sfits = c.round_form_number-coef.type_inv } in
    let own = rw (to_z-of_z w128 c.round_form_number-coef.result fits) at c.exceeds_power_of_two.ensures in
    let large = rw c.round_form_number-coef.ensures at own in
    record {
      so_far = entry_turn c.args.p c.args.exact.now c.loop-e.e-index c.e-item.result c.loop-e.entries.items c.push_rounded_entry.new.entries.items _ c.loop-e-test.true c.e-item.is c.loop-e.invariant.so_far
          (cast_small c.round_form_number-coef.result (sym own ∙ c.if-exceeds_power_of_two.false) ∙ c.round_form_number-coef.ensures) c.in_ok-push_rounded_entry.ensures;
      small = small_turn (entry_of c.args.p) (λ (e : Entry). e.coef) c.args.exact.now c.loop-e.e-index c.e-item.result c.loop-e-test.true c.e-item.is c.loop-e.invariant.small (sym large ∙ c.if-exceeds_power_of_two.false);
    }

pub returns-clause-some : goal.returns-clause-some
returns-clause-some c =
    kept_end (entry_of c.args.p) (λ (e : Entry). e.coef) c.args.exact.now c.loop-e.e-index c.loop-e.entries.items c.loop-e-test.false c.loop-e.invariant.so_far c.loop-e.invariant.small
