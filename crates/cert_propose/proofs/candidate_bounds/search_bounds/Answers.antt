use Rattle.cert_propose.proofs.Common.{◌∙◌, ◌≡◌, length, refl, sym}
use Rattle.cert_propose.proofs.Collected.{collected-length}
use Rattle.cert_propose.proofs.candidate_bounds.search_bounds.Goals as goal

pub returns-in_err-pa : goal.returns-in_err-pa
returns-in_err-pa c =
    let p = rw c.requires.size at (sym c.in_ok-p.ensures) in
    let pa = rw c.requires.size at (sym c.in_err-pa.ensures) in
    c.from_residual-in_err-pa.ensures ∙ sym (rw (p, pa) refl)

pub returns-in_err-t : goal.returns-in_err-t
returns-in_err-t c =
    let p = rw c.requires.size at (sym c.in_ok-p.ensures) in
    let pa = rw c.requires.size at (sym c.in_ok-pa.ensures) in
    let size : length c.in_ok-pa.pa ≡ c.args.m.now.n = collected-length c.args.m.now.n _ c.in_ok-pa.pa pa in
    let t = rw size at (sym c.in_err-t.ensures) in
    c.from_residual-in_err-t.ensures ∙ sym (rw (p, pa, t) refl)

pub returns : goal.returns
returns c =
    let p = rw c.requires.size at (sym c.in_ok-p.ensures) in
    let pa = rw c.requires.size at (sym c.in_ok-pa.ensures) in
    let size : length c.in_ok-pa.pa ≡ c.args.m.now.n = collected-length c.args.m.now.n _ c.in_ok-pa.pa pa in
    let t = rw size at (sym c.in_ok-t.ensures) in
    let sizes = rw c.requires.size at (sym c.in_ok-sizes.ensures) in
    let last = rw (c.raise_bounds.ensures, size) at c.find_decrease_bounds.ensures in
    last ∙ sym (rw (p, pa, t, sizes) refl)
