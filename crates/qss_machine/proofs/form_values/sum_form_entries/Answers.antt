use Rattle.qss_machine.proofs.Common
use Common.{ℤ, ◌*ℤ◌, ◌++◌, ◌^◌, ◌∙◌, arith, Entry, int_at, map, pos, sym, to_z, unsigned_abs, w128}
use Rattle.qss_machine.proofs.Loops.{sum_done, weighed_fits, weighed_sum, weighed_bound}
use Rattle.qss_machine.proofs.SumLaws.{weighted_sum-entries}
use Rattle.qss_machine.proofs.form_values.sum_form_entries.Goals as goal

pub overflow_add-sum : goal.overflow_add-sum
overflow_add-sum c =
    let inputs = c.args.states.now ++ (map (λ (d : ℤ). d *ℤ pos (2 ^ c.args.unit_bits)) c.args.discretes.now ++ map (λ (d : ℤ). d *ℤ pos (2 ^ c.args.unit_bits)) c.args.before.now) in
    weighed_fits (λ (entry : Entry). entry.coef *ℤ int_at inputs entry.var) (λ (entry : Entry). unsigned_abs entry.coef) c.args.entries.now
    c.loop-entry.entry-index (record { var = 0; coef = pos 0 }) (to_z w128 c.loop-entry.sum-bits) c.form_entry_value-sum.result (2 ^ 88)
    c.loop-entry.invariant.bound c.form_entry_value-sum.ensures.bound c.loop-entry-test.true (omega (arith, c.requires.coefficients))

pub loop-entry-preserved : goal.loop-entry-preserved
loop-entry-preserved c =
    let inputs = c.args.states.now ++ (map (λ (d : ℤ). d *ℤ pos (2 ^ c.args.unit_bits)) c.args.discretes.now ++ map (λ (d : ℤ). d *ℤ pos (2 ^ c.args.unit_bits)) c.args.before.now) in
    record {
      so_far = weighed_sum (λ (entry : Entry). entry.coef *ℤ int_at inputs entry.var) (λ (entry : Entry). unsigned_abs entry.coef) c.args.entries.now
          c.loop-entry.entry-index (record { var = 0; coef = pos 0 }) (to_z w128 c.loop-entry.sum-bits) c.form_entry_value-sum.result (2 ^ 88)
          c.loop-entry.invariant.bound c.form_entry_value-sum.ensures.bound c.loop-entry-test.true (omega (arith, c.requires.coefficients))
          c.loop-entry.invariant.so_far c.form_entry_value-sum.ensures.value;
      bound = weighed_bound (λ (entry : Entry). entry.coef *ℤ int_at inputs entry.var) (λ (entry : Entry). unsigned_abs entry.coef) c.args.entries.now
          c.loop-entry.entry-index (record { var = 0; coef = pos 0 }) (to_z w128 c.loop-entry.sum-bits) c.form_entry_value-sum.result (2 ^ 88)
          c.loop-entry.invariant.bound c.form_entry_value-sum.ensures.bound c.loop-entry-test.true (omega (arith, c.requires.coefficients));
    }

pub returns-clause-value : goal.returns-clause-value
returns-clause-value c =
    let inputs = c.args.states.now ++ (map (λ (d : ℤ). d *ℤ pos (2 ^ c.args.unit_bits)) c.args.discretes.now ++ map (λ (d : ℤ). d *ℤ pos (2 ^ c.args.unit_bits)) c.args.before.now) in
    sum_done (λ (entry : Entry). entry.coef *ℤ int_at inputs entry.var) c.args.entries.now c.loop-entry.entry-index (to_z w128 c.loop-entry.sum-bits)
    c.loop-entry.invariant.so_far c.loop-entry-test.false
    ∙ sym (weighted_sum-entries c.args.entries.now inputs)
