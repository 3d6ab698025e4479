use Rattle.cert_propose.proofs.Common
use Common.{[], ℤ, ◌++◌, ◌∙◌, ◌∷◌, ◌≡◌, ap₂, arith, FitsSigned, IsVector, List}
use Common.{map-range_with_len_more, rules, subst, sym, to_z-of_z, vector, w128}
use Rattle.cert_propose.proofs.Small.{whole}
use Rattle.cert_propose.proofs.candidate_matrices.candidate_column_list.Goals as goal

pub loop-k-preserved : goal.loop-k-preserved
loop-k-preserved c =
    let x : FitsSigned w128 c.at.result = search rules in
    let pushed = simp to_z-of_z at c.in_ok-push.ensures.items in
    pushed ∙ ap₂ (λ (a : List ℤ) (b : ℤ). a ++ b ∷ []) c.loop-k.invariant c.at.ensures ∙ sym (map-range_with_len_more (vector c.args.column.now) 0 c.loop-k.k c.loop-k.k (omega arith))

pub returns-clause-same : goal.returns-clause-same
returns-clause-same c =
    let all : c.loop-k.k ≡ c.args.n = omega (arith, c.loop-k-test.false, c.loop-k.auto.k-end) in
    c.new.ensures ∙ (rw all at c.loop-k.invariant) ∙ whole c.args.n c.args.column.now c.requires

pub returns-clause-fits : goal.returns-clause-fits
returns-clause-fits c =
    let all : c.loop-k.k ≡ c.args.n = omega (arith, c.loop-k-test.false, c.loop-k.auto.k-end) in
    let same = c.new.ensures ∙ (rw all at c.loop-k.invariant) ∙ whole c.args.n c.args.column.now c.requires in
    subst (IsVector c.args.n) (sym same) c.requires
