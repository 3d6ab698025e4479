use Rattle.cert_propose.proofs.Common.{◌∙◌, ◌≡◌, ap, length, length-map-range_with_len, refl, sym}
use Rattle.cert_propose.proofs.Collected.{collected-length}
use Rattle.cert_propose.proofs.candidate_form.form_round.Goals as goal

pub form_round_from-requires-clause-size : goal.form_round_from-requires-clause-size
form_round_from-requires-clause-size c =
    ap length c.requires.columns ∙ length-map-range_with_len _ 0 (length c.args.p.now) ∙ sym (collected-length (length c.args.p.now) _ c.in_ok-right.right (sym c.in_ok-right.ensures))

pub returns : goal.returns
returns c =
    let size : length c.in_ok-right.right ≡ length c.args.p.now = collected-length (length c.args.p.now) _ c.in_ok-right.right (sym c.in_ok-right.ensures) in
    let last = rw (size, c.requires.columns) at c.form_round_from.ensures in
    last ∙ sym (rw (sym c.in_ok-right.ensures) refl)
