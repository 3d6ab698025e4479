-- The lists are those at the start.
use Rattle.qss_devs.proofs.Common.{◌∙◌}
use Rattle.qss_devs.proofs.coupled_start.start_values.Goals as goal

pub start_coupled_slopes-requires-clause-levels : goal.start_coupled_slopes-requires-clause-levels
start_coupled_slopes-requires-clause-levels c = c.deref.ensures.value ∙ c.in_ok-levels.ensures

pub returns : goal.returns
returns c =
    let x = c.in_ok-states.ensures.items ∙ c.requires.states in
    let d = c.in_ok-discretes.ensures.items ∙ c.requires.discretes in
    let l = c.in_ok-levels.ensures in
    let s = rw (c.deref.ensures.value, l, c.requires.discretes) at c.in_ok-slopes.ensures in
    rw (x, s, l, d)
