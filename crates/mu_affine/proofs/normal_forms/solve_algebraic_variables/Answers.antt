use Rattle.mu_affine.proofs.Common.{ap, CountedForms, flat_model, length, refl, solve_all, sym}
use Rattle.mu_affine.proofs.FormsInOrder.{nothing_solved, zeros_solved}
use Rattle.mu_affine.proofs.normal_forms.solve_algebraic_variables.Goals as goal

pub loop-var-init : goal.loop-var-init
loop-var-init c =
    let s : CountedForms = record { forms = c.in_ok-forms.forms; count = 0 } in
    record {
      rest = ap (solve_all (flat_model c.args.m.now) c.args.order.now) (sym (nothing_solved s c.in_ok-forms.ensures.zeros refl));
      solved = zeros_solved c.args.sizes s (length c.args.firsts.now) c.in_ok-forms.ensures.zeros c.in_ok-forms.ensures.one_each refl;
    }
