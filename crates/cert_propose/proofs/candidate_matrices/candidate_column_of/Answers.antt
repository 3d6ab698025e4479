use Rattle.cert_propose.proofs.Common
use Common.{[], ℤ, ◌++◌, ◌∙◌, ◌∷◌, ap₂, arith, FitsSigned, length-append, List}
use Common.{map-range_with_len_more, rules, sym, to_z-of_z, w128}
use Rattle.cert_propose.proofs.candidate_matrices.candidate_column_of.Goals as goal

pub loop-k-preserved : goal.loop-k-preserved
loop-k-preserved p c =
    let x : FitsSigned w128 c.number.result = search rules in
    let pushed = simp to_z-of_z at c.push.ensures in
    record {
      size = rw pushed (length-append c.loop-k.column (c.number.result ∷ []) ∙ omega (arith, c.loop-k.invariant.size));
      numbers = λ f each. rw pushed (ap₂ (λ (a : List ℤ) (b : ℤ). a ++ b ∷ []) (c.loop-k.invariant.numbers f each) (each c.loop-k.k _ c.loop-k-test.true c.number.ensures)
          ∙ sym (map-range_with_len_more f 0 c.loop-k.k c.loop-k.k (omega arith)));
    }
