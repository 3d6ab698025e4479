use Rattle.cert_check.proofs.Common
use Common.{ℤ, ◌<◌, ◌∙◌, ◌≢◌, arith, changed-square, FitsSigned, get_or, length, length-changed}
use Common.{pos, refl, rules, to_z-of_z, vector, w128}
use Rattle.cert_check.proofs.Rowwise.{filled}
use Rattle.cert_check.proofs.Tables.{changed-elsewhere}
use Rattle.cert_check.proofs.certificate_assembly.write_row.Goals as goal

pub loop-j-preserved : goal.loop-j-preserved
loop-j-preserved c =
    let v : ℤ = get_or c.as_slice-numbers.result.now c.loop-j.j (pos 0) in
    let fits : FitsSigned w128 (get_or c.as_slice-numbers.result.now c.loop-j.j (pos 0)) = search rules in
    let changed = simp to_z-of_z at c.set.ensures in
    let i< : c.args.i < length c.loop-j.matrix = omega (arith, c.loop-j.invariant.size, c.requires.row) in
    let j< : c.loop-j.j < length c.loop-j.matrix = omega (arith, c.loop-j.invariant.size, c.loop-j-test.true, c.size-j-end.ensures.size) in
    record {
      size = rw changed (length-changed c.loop-j.matrix c.args.i c.loop-j.j v ∙ c.loop-j.invariant.size);
      square = rw changed (changed-square c.loop-j.matrix c.args.i c.loop-j.j v i< c.loop-j.invariant.square);
      row = rw changed (filled c.loop-j.matrix c.args.i c.loop-j.j v (vector c.as_slice-numbers.result.now) c.loop-j.invariant.square i< j< c.loop-j.invariant.row refl);
      others = λ h k l m.
          let other : h ≢ c.args.i = omega arith in
          rw changed (changed-elsewhere c.loop-j.matrix c.args.i c.loop-j.j h k v other ∙ c.loop-j.invariant.others h k l m);
    }
