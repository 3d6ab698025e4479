use Rattle.mu_affine.proofs.Common.{RunningForm, sym}
use Rattle.mu_affine.proofs.Sums.{form_joined, form_failed_names, form_failed_pairs}
use Rattle.mu_affine.proofs.Sums.{form_failed_time, form_failed_constant}
use Rattle.mu_affine.proofs.form_sum.RunningForm.join.Goals as goal

pub returns-in-Err : goal.returns-in-Err
returns-in-Err c =
    let failed = rw (c.in-Err.is, c.as_slice.ensures) at c.in_ok-add_coefficients.ensures in
    form_failed_names c.args.minus c.args.self.now c.args.self.now c.args.form.now c.in-Err.fault c.requires.canonical failed

pub returns-in-Err-2 : goal.returns-in-Err-2
returns-in-Err-2 c =
    let failed = rw (c.in-Err-2.is, c.as_slice-2.ensures) at c.in_ok-add_pair_coefficients.ensures in
    form_failed_pairs c.args.minus c.args.self.now c.args.self.now c.args.form.now c.in-Err-2.fault c.requires.canonical failed

pub returns-in-Err-combine_ratios : goal.returns-in-Err-combine_ratios
returns-in-Err-combine_ratios c = form_failed_time c.args.minus c.args.self.now c.args.self.now c.args.form.now c.in-Err-combine_ratios.fault (sym c.in-Err-combine_ratios.ensures)

pub returns-in-Err-combine_ratios-2 : goal.returns-in-Err-combine_ratios-2
returns-in-Err-combine_ratios-2 c = form_failed_constant c.args.minus c.args.self.now c.args.self.now c.args.form.now c.in-Err-combine_ratios-2.fault (sym c.in-Err-combine_ratios-2.ensures)

pub returns : goal.returns
returns c =
    let names = rw (c.in-Ok.is, c.as_slice.ensures) at c.in_ok-add_coefficients.ensures in
    let pairs = rw (c.in-Ok-2.is, c.as_slice-2.ensures) at c.in_ok-add_pair_coefficients.ensures in
    let new : RunningForm = record { names = c.add_coefficients.new.row; pairs = c.add_pair_coefficients.new.row; time = c.in-Ok-combine_ratios.time; constant = c.in-Ok-combine_ratios-2.constant } in
    form_joined c.args.minus c.args.self.now new c.args.form.now c.requires.canonical c.requires.reduced names pairs (sym c.in-Ok-combine_ratios.ensures) (sym c.in-Ok-combine_ratios-2.ensures)
