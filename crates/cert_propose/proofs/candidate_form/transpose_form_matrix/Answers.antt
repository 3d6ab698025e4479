use Rattle.cert_propose.proofs.Common.{rules, table}
use Rattle.cert_propose.proofs.candidate_form.transpose_form_matrix.Goals as goal

pub returns : goal.returns
returns c = (rw c.size.ensures.size at (c.candidate_matrix_of.ensures (λ i j. table c.args.m.now j i) (λ i j x hi hj e. search rules)))
