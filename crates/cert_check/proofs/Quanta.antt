-- A run with smaller quanta is legitimate with greater ones.
use Rattle.cert_check.proofs.Common
use Common.{◌*ℤ◌, ◌≤ℤ◌, arith, int_at, ints, level_unit, mul-mono, mul-≥, pos, unit_positive}
use Rattle.cert_check.specs.Bounds.{SmallerQuantaAreLegitimate}

pub smaller-quanta : SmallerQuantaAreLegitimate
smaller-quanta m start smaller greater s r xs ms less run = record {
  some_scale = run.some_scale;
  some_refinement = run.some_refinement;
  places = run.places;
  as_many = run.as_many;
  state_lengths = run.state_lengths;
  level_lengths = run.level_lengths;
  first = run.first;
  moves = run.moves;
  near = λ i j h l.
      let s≥ : pos 0 ≤ℤ pos s = omega (arith, ints) in
      let unit> = unit_positive m in
      let u≥ : pos 0 ≤ℤ level_unit m = omega (arith, ints) in
      let k≥ = mul-≥ (pos s) (level_unit m) s≥ u≥ in
      let a = mul-mono (pos s *ℤ level_unit m) (int_at smaller j) (int_at greater j) k≥ (less j l) in
      let b = run.near i j h l in
      omega (arith, ints);
}
