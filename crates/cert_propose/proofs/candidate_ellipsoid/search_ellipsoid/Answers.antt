use Rattle.cert_propose.proofs.Common.{FitsSigned, IsBound, rules, subst, sym, to_z-of_z, w128}
use Rattle.cert_propose.proofs.Candidates.{sum-bound, gains-≥, ceiling-bound}
use Rattle.cert_propose.proofs.candidate_ellipsoid.search_ellipsoid.Goals as goal

pub basin_roots-e-requires-clause-bound : goal.basin_roots-e-requires-clause-bound
basin_roots-e-requires-clause-bound c =
    let number : FitsSigned w128 c.in_ok-sum.sum = search rules in
    let divisor : FitsSigned w128 c.args.b.now.lambda = search rules in
    let value = simp to_z-of_z at c.ceil_div-cc.ensures.value in
    let low = sum-bound c.args.n c.in_ok-sigma.sigma c.in_ok-sum.sum
    (gains-≥ c.args.n c.args.b.now.mu c.in_ok-gains.gains c.in_ok-sigma.sigma c.requires.mu (sym c.in_ok-sigma.ensures)) (sym c.in_ok-sum.ensures) in
    let quotient : FitsSigned w128 c.ceil_div-cc.result = search rules in
    rw to_z-of_z (subst IsBound (sym value) (ceiling-bound c.in_ok-sum.sum c.args.b.now.lambda low c.requires.lambda))
