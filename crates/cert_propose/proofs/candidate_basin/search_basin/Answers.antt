use Rattle.cert_propose.proofs.Common
use Common.{◌∙◌, ◌≤ℤ◌, arith, FitsSigned, ints, pos, refl, rules, sym, system, to_z-of_z, vector}
use Common.{w128}
use Rattle.cert_propose.proofs.Candidates.{start-bound, grown_radius-bound}
use Rattle.cert_propose.proofs.candidate_basin.search_basin.Goals as goal

pub grow_basin_radius-requires-clause-basin : goal.grow_basin_radius-requires-clause-basin
grow_basin_radius-requires-clause-basin c =
    let least : FitsSigned w128 c.in_ok-least.least = search rules in
    let unit : pos 1 ≤ℤ c.args.m.now.unit = omega (arith, ints, c.args.m.now.positive) in
    rw to_z-of_z (start-bound (system c.args.m.now) (vector c.args.start.now) c.args.c.now c.args.pm.now c.in_ok-least.least unit (sym c.in_ok-least.ensures))

pub basin_reach-requires-clause-basin : goal.basin_reach-requires-clause-basin
basin_reach-requires-clause-basin c =
    let least : FitsSigned w128 c.in_ok-least.least = search rules in
    let r : FitsSigned w128 c.in_ok-r.r = search rules in
    let unit : pos 1 ≤ℤ c.args.m.now.unit = omega (arith, ints, c.args.m.now.positive) in
    let low = start-bound (system c.args.m.now) (vector c.args.start.now) c.args.c.now c.args.pm.now c.in_ok-least.least unit (sym c.in_ok-least.ensures) in
    rw to_z-of_z (grown_radius-bound (system c.args.m.now) c.args.c.now c.args.pm.now c.args.b.now c.in_ok-least.least c.in_ok-r.r c.requires.bounds low (simp to_z-of_z at (sym c.in_ok-r.ensures)))

pub returns-in_err-reach : goal.returns-in_err-reach
returns-in_err-reach c =
    let least : FitsSigned w128 c.in_ok-least.least = search rules in
    let r : FitsSigned w128 c.in_ok-r.r = search rules in
    let grows = simp to_z-of_z at (sym c.in_ok-r.ensures) in
    let none = simp to_z-of_z at (sym c.in_err-reach.ensures) in
    c.from_residual-in_err-reach.ensures ∙ sym (rw (sym c.in_ok-least.ensures, grows, none) refl)

pub returns : goal.returns
returns c =
    let least : FitsSigned w128 c.in_ok-least.least = search rules in
    let r : FitsSigned w128 c.in_ok-r.r = search rules in
    let grows = simp to_z-of_z at (sym c.in_ok-r.ensures) in
    let some = simp to_z-of_z at (sym c.in_ok-reach.ensures) in
    rw to_z-of_z (sym (rw (sym c.in_ok-least.ensures, grows, some) refl))
