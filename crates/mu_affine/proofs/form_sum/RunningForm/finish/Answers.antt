use Rattle.mu_affine.proofs.Common.{◌∙◌, ap, ExactForm, map, named, paired, refl}
use Rattle.mu_affine.proofs.Finishing.{sum_finished}
use Rattle.mu_affine.proofs.form_sum.RunningForm.finish.Goals as goal

pub returns : goal.returns
returns c =
    let names = c.in_ok-entries.ensures in
    let pairs = c.in_ok-products.ensures in
    let f : ExactForm = record { entries = c.new.result; products = c.new-2.result; time = c.args.self.now.time; constant = c.args.self.now.constant } in
    sum_finished c.args.self.now f c.requires names.rising pairs.rising (ap (map named) c.new.ensures ∙ names.kept) (ap (map paired) c.new-2.ensures ∙ pairs.kept) refl refl
