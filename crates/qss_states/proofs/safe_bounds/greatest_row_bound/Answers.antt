-- The first half that all rows allow is found.
use Rattle.qss_states.proofs.Common
use Common.{ℕ, ◌^◌, All, AllowsBound, arith, below_more, half_limit, refl, shr_le}
use Rattle.qss_states.proofs.safe_bounds.greatest_row_bound.Goals as goal

pub is_safe_machine_bound-requires : goal.is_safe_machine_bound-requires
is_safe_machine_bound-requires c = omega (arith, shr_le (2 ^ 43) c.loop-halvings.halvings)

pub loop-halvings-preserved : goal.loop-halvings-preserved
loop-halvings-preserved c =
    let m = c.args.m.now in
    below_more (λ (fewer : ℕ). All (AllowsBound m.f (half_limit fewer)) m.rows → ⊥) c.loop-halvings.halvings c.loop-halvings.invariant
    (λ allow. absurd (let yes = c.is_safe_machine_bound.ensures.1 allow in let no = c.if-is_safe_machine_bound.false in cc))

pub returns-then-is_safe_machine_bound : goal.returns-then-is_safe_machine_bound
returns-then-is_safe_machine_bound c = (
  c.loop-halvings.halvings,
  record { from_one = omega (arith, c.loop-halvings-test.true); allowed = c.is_safe_machine_bound.ensures.0 c.if-is_safe_machine_bound.true; before = c.loop-halvings.invariant },
  refl,
)

pub returns : goal.returns
returns c halvings h = c.loop-halvings.invariant halvings (omega (arith, h, c.loop-halvings-test.false))
