use Rattle.cert_propose.proofs.Common.{◌∙◌, ◌≡◌, length, refl, sym}
use Rattle.cert_propose.proofs.Collected.{collected-length}
use Rattle.cert_propose.proofs.candidate_bounds.bounds_decrease_surpluses.Goals as goal

pub returns : goal.returns
returns c =
    let falls = sym c.in_ok-falls.ensures in
    let size : length c.in_ok-falls.falls ≡ length c.args.pa.now = collected-length (length c.args.pa.now) _ c.in_ok-falls.falls falls in
    let last = rw size at c.candidate_diagonal_surpluses.ensures in
    last ∙ sym (rw falls refl)
