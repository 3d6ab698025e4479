-- The value at one more place is at most the bound, or greater.
use Rattle.qss_states.proofs.Common.{arith, refl}
use Rattle.qss_states.proofs.safe_bounds.are_places_within.Goals as goal

pub returns : goal.returns
returns c = (
  λ e k none h. c.loop-place.invariant k none (omega (arith, h, c.loop-place-test.false)),
  λ all. refl,
)
