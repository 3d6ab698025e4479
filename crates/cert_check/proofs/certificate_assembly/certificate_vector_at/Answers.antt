use Rattle.cert_check.proofs.Common
use Common.{[], ℤ, ◌∙◌, ◌≡◌, arith, get_or, get_or_default, IsVector, List, subst, sym}
use Rattle.cert_check.proofs.Wanted.{row-fits}
use Rattle.cert_check.proofs.certificate_assembly.certificate_vector_at.Goals as goal

pub returns : goal.returns
returns c =
    let is : c.in_ok-row.row ≡ get_or c.args.rows.now c.args.k [] =
    c.in_ok-row.ensures ∙ c.index-rows-k.is ∙ get_or_default c.args.rows.now c.args.k c.index-rows-k.result [] (omega (arith, c.requires.rows.as_many, c.requires.place)) in
    let P : List ℤ → Type 0 = λ xs. IsVector c.args.n xs in
    record { is = is; within = subst P (sym is) (row-fits c.args.n c.args.k c.args.n c.args.rows.now c.requires.rows c.requires.place c.requires.due) }
