-- One more number, and what leaves the range.
use Rattle.qss_own_traces.proofs.Common
use Common.{ℕ, ℤ, ◌*ℤ◌, ◌*◌, ◌+ℤ◌, ◌+◌, ◌∙◌, ◌≡◌, abs_of, ap, arith, FitsSigned, int_at, ints, pos}
use Common.{refl, table, to_z-of_z, unsigned_abs, vector, w128, weight}
use Rattle.cert_matrix.proofs.Weights.{beyond-base, weight-more}
use Rattle.qss_own_traces.proofs.SecondSums.{same_more}
use Rattle.qss_own_traces.proofs.second_order_trace.row_sum.Goals as goal

pub loop-k-init : goal.loop-k-init
loop-k-init c =
    let of_at : FitsSigned w128 c.at.result = record { sfits = c.at.type_inv } in
    let of_share : FitsSigned w128 c.from.result = record { sfits = c.from.type_inv } in
    let from : c.from.result ≡ pos c.args.share = c.from.ensures in
    let total = simp to_z-of_z at c.in_ok-sum.ensures.total in
    let weighs = simp to_z-of_z at c.in_ok-sum.ensures.weight in
    let base : c.in_ok-sum.sum.weight ≡ unsigned_abs (vector c.args.a.now.constant c.args.row) * c.args.share =
    weighs ∙ rw (c.new.ensures.weight, c.at.ensures, from) (omega arith) in
    record {
      same = same_more (pos 0) c.in_ok-sum.sum.total c.at.result c.from.result (pos c.args.share) 0 c.in_ok-sum.sum.weight refl from (total ∙ ap (λ (z : ℤ). z +ℤ abs_of c.at.result *ℤ c.from.result) c.new.ensures.total)
          (weighs ∙ ap (λ (k : ℕ). k + unsigned_abs c.at.result * unsigned_abs c.from.result) c.new.ensures.weight);
      so_far = base ∙ omega arith;
    }

pub loop-k-preserved : goal.loop-k-preserved
loop-k-preserved c =
    let k = c.loop-k.k in
    let x = int_at c.args.numbers.now k in
    let of_x : FitsSigned w128 x = omega (arith, ints) in
    let of_y : FitsSigned w128 c.coefficient_size.result =
    record { sfits = c.coefficient_size.type_inv } in
    let inv = c.loop-k.invariant in
    let total = simp to_z-of_z at c.in_ok-sum-2.ensures.total in
    let weighs = simp to_z-of_z at c.in_ok-sum-2.ensures.weight in
    record {
      same = same_more c.loop-k.sum.total _ x c.coefficient_size.result
          (table c.args.a.now.coef c.args.row k) c.loop-k.sum.weight _ inv.same
          c.coefficient_size.ensures total weighs;
      so_far = weighs ∙ rw (
        inv.so_far,
        c.coefficient_size.ensures,
        weight-more k (vector c.args.numbers.now) (λ i. abs_of (table c.args.a.now.coef c.args.row i)),
      ) (omega arith);
    }

pub returns-in_err-sum-2 : goal.returns-in_err-sum-2
returns-in_err-sum-2 c =
    let k = c.loop-k.k in
    let x = int_at c.args.numbers.now k in
    let of_x : FitsSigned w128 x = omega (arith, ints) in
    let of_y : FitsSigned w128 c.coefficient_size.result =
    record { sfits = c.coefficient_size.type_inv } in
    let far = (simp to_z-of_z at c.in_err-sum-2.ensures.out_of_range).0 refl in
    rw c.from_residual-in_err-sum-2.ensures
    (beyond-base (vector c.args.numbers.now)
    (λ i. abs_of (table c.args.a.now.coef c.args.row i)) k c.args.a.now.n x
    c.coefficient_size.result
    (unsigned_abs (vector c.args.a.now.constant c.args.row) * c.args.share) c.loop-k.sum.weight
    c.loop-k-test.true c.loop-k.invariant.so_far refl c.coefficient_size.ensures far)

pub returns : goal.returns
returns c =
    let all : c.loop-k.k ≡ c.args.a.now.n = omega (arith, c.loop-k-test.false, c.loop-k.auto.k-end) in
    let fits : FitsSigned w128 c.total.result = record { sfits = c.total.type_inv } in
    to_z-of_z w128 c.total.result fits ∙ c.total.ensures.value ∙ c.loop-k.invariant.same
    ∙ ap pos (c.loop-k.invariant.so_far ∙ ap (λ (k : ℕ). unsigned_abs (vector c.args.a.now.constant c.args.row) * c.args.share + weight k (vector c.args.numbers.now) (λ i. abs_of (table c.args.a.now.coef c.args.row i))) all)
