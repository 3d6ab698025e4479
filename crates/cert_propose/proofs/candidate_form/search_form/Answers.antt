use Rattle.cert_propose.proofs.Common.{◌∙◌, ◌≡◌, ap, length, length-map-range_with_len}
use Rattle.cert_propose.proofs.candidate_form.search_form.Goals as goal

pub returns : goal.returns
returns c =
    let size : length c.form_shifted_matrix-phi.result ≡ c.args.m.now.n = ap length c.form_shifted_matrix-phi.ensures ∙ length-map-range_with_len _ 0 c.args.m.now.n in
    rw (size, c.form_shifted_matrix-phi.ensures) at c.repeat_form_rounds.ensures
