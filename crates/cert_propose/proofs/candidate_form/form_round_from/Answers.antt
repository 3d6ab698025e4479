use Rattle.cert_propose.proofs.Common.{◌∙◌, ◌≡◌, length, refl, sym}
use Rattle.cert_propose.proofs.Collected.{collected-length}
use Rattle.cert_propose.proofs.candidate_form.form_round_from.Goals as goal

pub returns-in_err-both : goal.returns-in_err-both
returns-in_err-both c =
    let both = rw c.requires.size at (sym c.in_err-both.ensures) in
    c.from_residual.ensures ∙ sym (rw both refl)

pub returns : goal.returns
returns c =
    let both = rw c.requires.size at (sym c.in_ok-both.ensures) in
    let both_size : length c.in_ok-both.both ≡ length c.args.right.now = collected-length (length c.args.right.now) _ c.in_ok-both.both both in
    let last = rw both_size at c.next_form.ensures in
    last ∙ sym (rw both refl)
