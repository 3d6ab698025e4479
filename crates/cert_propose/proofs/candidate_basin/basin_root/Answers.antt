use Rattle.cert_propose.proofs.Common.{◌≡◌, ceiling_of, FitsSigned, rules, to_z-of_z, vector, w128}
use Rattle.cert_propose.proofs.Candidates.{ceiling-bound}
use Rattle.cert_propose.proofs.Roots.{root-is}
use Rattle.cert_propose.proofs.candidate_basin.basin_root.Goals as goal

pub returns : goal.returns
returns c =
    let number : FitsSigned w128 c.args.z.now = search rules in
    let divisor : FitsSigned w128 c.at.result = search rules in
    let quotient : FitsSigned w128 c.ceil_div.result = search rules in
    let fits : FitsSigned w128 c.root_up.result = search rules in
    let value : c.ceil_div.result ≡ ceiling_of c.args.z.now (vector c.args.p.now c.args.k) = rw c.at.ensures at (simp to_z-of_z at c.ceil_div.ensures.value) in
    let bound = ceiling-bound c.args.z.now (vector c.args.p.now c.args.k) c.requires.bound c.requires.positive in
    let root = rw value at (simp to_z-of_z at c.root_up.ensures.root) in
    rw to_z-of_z (root-is (ceiling_of c.args.z.now (vector c.args.p.now c.args.k)) c.root_up.result bound.at_most bound.from_zero c.root_up.ensures.from_zero root)
