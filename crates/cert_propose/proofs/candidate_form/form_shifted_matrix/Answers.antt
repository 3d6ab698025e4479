use Rattle.cert_propose.proofs.Common.{◌+ℤ◌, ◌^◌, on_diagonal, pos, rules, system}
use Rattle.cert_propose.proofs.candidate_form.form_shifted_matrix.Goals as goal

pub returns : goal.returns
returns c = c.candidate_matrix_of.ensures (λ i j. on_diagonal (pos (2 ^ c.args.q)) i j +ℤ (system c.args.m.now).coef i j) (λ i j x hi hj e. search rules)
