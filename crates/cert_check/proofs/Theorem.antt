-- A certificate whose inequalities hold guarantees its bounds.
use Rattle.cert_check.proofs.Common.{◌*ℤ◌, ◌*◌, ◌<ℤ◌, ◌≤ℤ◌, arith, ints, mul-≥, pos, System}
use Rattle.cert_check.proofs.Run.{Run, KeepsPromises, difference, common_unit}
use Rattle.cert_check.proofs.Basin.{basin, slope-≤, certified-≤, place-≤}
use Rattle.cert_check.proofs.Pair.{inside-≤}

common_unit-≥ : (m : System) (v w : Run) → pos 0 <ℤ m.unit → pos 0 ≤ℤ common_unit m v w
common_unit-≥ m v w unit> =
    let a : pos 0 ≤ℤ pos (v.scale * w.scale) = omega (arith, ints) in
    let b : pos 0 ≤ℤ m.unit = omega (arith, ints) in
    mul-≥ (pos v.scale *ℤ pos w.scale) m.unit a b

pub promises : KeepsPromises
promises m x unit> holds = record {
  basin = λ start w certified run. basin m x holds unit> start w run (certified-≤ m x holds start certified);
  slopes = λ start w certified run i j i≤ h.
      let s≥ : pos 0 ≤ℤ pos w.scale = omega (arith, ints) in
      slope-≤ m x holds unit> (pos w.scale) s≥ (w.states i) (w.levels i)
      (basin m x holds unit> start w run (certified-≤ m x holds start certified) i i≤) (λ j l. run.near i j i≤ l) j h;
  inside = λ y z v w certified_y certified_z run_v run_w. inside-≤ m x holds unit> y z v w certified_y certified_z run_v run_w;
  distances = λ y z v w certified_y certified_z run_v run_w i k i≤ k≤ common j h.
      place-≤ m x holds (common_unit m v w) x.cc (x.e j) (difference v w i k) (common_unit-≥ m v w unit>) (holds.signs.e j h)
      (inside-≤ m x holds unit> y z v w certified_y certified_z run_v run_w i k i≤ k≤ common) j h (holds.distances j h);
}
