use Rattle.cert_propose.proofs.Common
use Common.{[], ◌∙◌, ◌∷◌, arith, FitsSigned, length-append, rules, sym, to_z-of_z, w128}
use Rattle.cert_propose.proofs.Collected.{collected-more, collected-stop}
use Rattle.cert_propose.proofs.candidate_matrices.candidate_column_by.Goals as goal

pub loop-k-preserved : goal.loop-k-preserved
loop-k-preserved p c =
    let x : FitsSigned w128 c.in_ok-number.field-0 = search rules in
    let pushed = simp to_z-of_z at c.push.ensures in
    record {
      size = rw pushed (length-append c.loop-k.column (c.in_ok-number.field-0 ∷ []) ∙ omega (arith, c.loop-k.invariant.size));
      numbers = λ f each. rw pushed (collected-more c.loop-k.k f c.loop-k.column c.in_ok-number.field-0 (c.loop-k.invariant.numbers f each)
          (sym (each c.loop-k.k _ c.loop-k-test.true c.in_ok-number.ensures)));
    }

pub returns-in_err-number : goal.returns-in_err-number
returns-in_err-number p c = λ f each.
    c.from_residual.ensures ∙ sym (collected-stop c.args.n c.loop-k.k f c.loop-k-test.true (sym (each c.loop-k.k _ c.loop-k-test.true c.in_err-number.ensures)))
