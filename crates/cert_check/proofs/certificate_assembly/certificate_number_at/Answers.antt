use Rattle.cert_check.proofs.Common
use Common.{[], ℤ, ◌∙◌, ◌≡◌, ap, arith, FitsSigned, get_or, get_or_default, IsSingle, length, rules}
use Common.{subst, sym, to_z-of_z, w128}
use Rattle.cert_check.proofs.Wanted.{row-fits, single-fits}
use Rattle.cert_check.proofs.certificate_assembly.certificate_number_at.Goals as goal

pub certificate_row_number-requires : goal.certificate_row_number-requires
certificate_row_number-requires c =
    let is : c.index-rows-k.result ≡ get_or c.args.rows.now c.args.k [] =
    c.index-rows-k.is ∙ get_or_default c.args.rows.now c.args.k c.index-rows-k.result [] (omega (arith, c.requires.rows.as_many, c.requires.place)) in
    ap length is ∙ (row-fits c.args.n c.args.k 1 c.args.rows.now c.requires.rows c.requires.place c.requires.due).one_each

pub returns : goal.returns
returns c =
    let is : c.index-rows-k.result ≡ get_or c.args.rows.now c.args.k [] =
    c.index-rows-k.is ∙ get_or_default c.args.rows.now c.args.k c.index-rows-k.result [] (omega (arith, c.requires.rows.as_many, c.requires.place)) in
    let fits : FitsSigned w128 c.certificate_row_number.result = search rules in
    let P : ℤ → Type 0 = λ z. IsSingle c.args.rows.now c.args.k z in
    subst P (sym (to_z-of_z fits)) (single-fits c.args.rows.now c.args.k c.index-rows-k.result c.certificate_row_number.result is c.certificate_row_number.ensures
    (row-fits c.args.n c.args.k 1 c.args.rows.now c.requires.rows c.requires.place c.requires.due))
