use Rattle.cert_check.proofs.Common
use Common.{◌<◌, ◌∙◌, arith, below_more, certificate_data, changed-square, FitsSigned, length}
use Common.{length-changed, length-zeros, matrix_of, refl, rules, system, to_z-of_z, w128}
use Common.{zeros-square}
use Rattle.cert_check.proofs.Rowwise.{filled}
use Rattle.cert_check.proofs.inequality_sides.stage_row.Goals as goal

pub loop-j-init : goal.loop-j-init
loop-j-init c = record {
  size = rw c.new-rows.ensures (length-zeros c.args.m.now.n);
  square = rw c.new-rows.ensures (zeros-square c.args.m.now.n);
  in_range = λ k l. absurd (omega arith);
  value = λ k l. absurd (omega arith);
}

pub loop-j-preserved : goal.loop-j-preserved
loop-j-preserved c =
    let fits : FitsSigned w128 c.in_ok-part.part = search rules in
    let i< : c.args.i < length c.loop-j.rows = omega (arith, c.loop-j.invariant.size, c.requires.row) in
    let j< : c.loop-j.j < length c.loop-j.rows = omega (arith, c.loop-j.invariant.size, c.loop-j-test.true) in
    let changed = simp to_z-of_z at c.set.ensures in
    record {
      size = rw changed (length-changed c.loop-j.rows c.args.i c.loop-j.j c.in_ok-part.part ∙ c.loop-j.invariant.size);
      square = rw changed (changed-square c.loop-j.rows c.args.i c.loop-j.j c.in_ok-part.part i< c.loop-j.invariant.square);
      in_range = below_more _ _ c.loop-j.invariant.in_range (c.in_ok-part.ensures.in_range.0 refl);
      value = rw changed (filled c.loop-j.rows c.args.i c.loop-j.j c.in_ok-part.part (matrix_of (system c.args.m.now) (certificate_data c.args.x.now) c.args.stage c.args.i)
          c.loop-j.invariant.square i< j< c.loop-j.invariant.value c.in_ok-part.ensures.value);
    }
