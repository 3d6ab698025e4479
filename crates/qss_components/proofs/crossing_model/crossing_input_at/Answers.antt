use Rattle.qss_components.proofs.Common
use Common.{ℤ, ◌*ℤ◌, ◌*◌, ◌+ℤ◌, ◌^◌, ◌∙◌, ◌≡◌, ◌≤◌, ap, arith, fits_below, FitsSigned, of_z}
use Common.{product_bound, to_z, to_z-of_z, two_fit, two_sum, unsigned_abs, w128}
use Rattle.qss_components.proofs.crossing_model.crossing_input_at.Goals as goal

-- a line after some ticks
module _ (at ticks speed : ℤ) (small : unsigned_abs at ≤ 2 ^ 88) (few : unsigned_abs ticks ≤ 2 ^ 32) (slow : unsigned_abs speed ≤ 2 ^ 88) where
  ticks_fit : FitsSigned w128 ticks
  ticks_fit = fits_below ticks (omega arith)

  speed_fits : FitsSigned w128 speed
  speed_fits = fits_below speed (omega arith)

  rise_small : unsigned_abs (ticks *ℤ speed) ≤ 2 ^ 32 * 2 ^ 88
  rise_small = product_bound ticks speed (2 ^ 32) (2 ^ 88) few slow

  rise_fits : FitsSigned w128 (to_z w128 (of_z w128 ticks) *ℤ to_z w128 (of_z w128 speed))
  rise_fits = rw (to_z-of_z w128 ticks ticks_fit, to_z-of_z w128 speed speed_fits) (fits_below (ticks *ℤ speed) (omega (arith, rise_small)))

  sum_fits : FitsSigned w128 (to_z w128 (of_z w128 at) +ℤ to_z w128 (of_z w128 (to_z w128 (of_z w128 ticks) *ℤ to_z w128 (of_z w128 speed))))
  sum_fits =
      rw (to_z-of_z w128 ticks ticks_fit, to_z-of_z w128 speed speed_fits)
      (two_fit at (ticks *ℤ speed) (2 ^ 88) (2 ^ 32 * 2 ^ 88) small rise_small (omega arith))

  sum_is : to_z w128 (of_z w128 (to_z w128 (of_z w128 at) +ℤ to_z w128 (of_z w128 (to_z w128 (of_z w128 ticks) *ℤ to_z w128 (of_z w128 speed))))) ≡ at +ℤ ticks *ℤ speed
  sum_is =
      rw (to_z-of_z w128 ticks ticks_fit, to_z-of_z w128 speed speed_fits)
      (two_sum at (ticks *ℤ speed) (2 ^ 88) (2 ^ 32 * 2 ^ 88) small rise_small (omega arith))

pub overflow_mul-result : goal.overflow_mul-result
overflow_mul-result c =
    let few : unsigned_abs c.from.result ≤ 2 ^ 32 = rw c.from.ensures (omega (arith, c.requires.tick_limit)) in
    rise_fits c.args.input.at c.from.result c.args.input.speed c.requires.line.small few c.requires.line.slow

pub overflow_add-result : goal.overflow_add-result
overflow_add-result c =
    let few : unsigned_abs c.from.result ≤ 2 ^ 32 = rw c.from.ensures (omega (arith, c.requires.tick_limit)) in
    sum_fits c.args.input.at c.from.result c.args.input.speed c.requires.line.small few c.requires.line.slow

pub returns : goal.returns
returns c =
    let few : unsigned_abs c.from.result ≤ 2 ^ 32 = rw c.from.ensures (omega (arith, c.requires.tick_limit)) in
    sum_is c.args.input.at c.from.result c.args.input.speed c.requires.line.small few c.requires.line.slow
    ∙ ap (λ z. c.args.input.at +ℤ z *ℤ c.args.input.speed) c.from.ensures
