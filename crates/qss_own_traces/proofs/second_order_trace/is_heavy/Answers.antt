-- The absolute row sum by the system is the row's.
use Rattle.qss_own_traces.proofs.Common
use Common.{ℕ, ◌<◌, ◌^◌, ◌∙◌, ◌≡◌, ap, arith, exceeds, FitsSigned, pos, sym, system_weight}
use Common.{to_z-of_z, true, w128}
use Rattle.std.proofs.lemmas.Bool.Decides.{nat_tests}
use Rattle.qss_own_traces.proofs.SecondSums.{weight_is}
use Rattle.qss_own_traces.proofs.second_order_trace.is_heavy.Goals as goal

past : (w : ℕ) → 2 ^ 126 < w → exceeds 94 (pos w) ≡ true
past w h = grind (arith, nat_tests)

pub returns-in-Some : goal.returns-in-Some
returns-in-Some c =
    let a = c.args in
    let fits : FitsSigned w128 c.in-Some.sum = omega (arith, c.in-Some.ensures) in
    c.exceeds_power_of_two.ensures ∙ ap (exceeds 94) (to_z-of_z w128 c.in-Some.sum fits ∙ c.in-Some.ensures ∙ sym (weight_is a.m.now a.a.now a.share a.numbers.now a.row c.requires.fits c.requires.row))

pub returns-in-None : goal.returns-in-None
returns-in-None c =
    let a = c.args in
    sym (ap (exceeds 94) (weight_is a.m.now a.a.now a.share a.numbers.now a.row c.requires.fits c.requires.row) ∙ past (system_weight a.a.now a.share a.numbers.now a.row) c.in-None.ensures)
