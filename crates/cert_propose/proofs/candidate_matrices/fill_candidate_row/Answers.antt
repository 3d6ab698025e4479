use Rattle.cert_propose.proofs.Common
use Common.{◌<◌, ◌∙◌, ◌≢◌, arith, changed-elsewhere, changed-square, FitsSigned, length}
use Common.{length-changed, rules, to_z-of_z, w128}
use Rattle.cert_propose.proofs.Entries.{entry-filled}
use Rattle.cert_propose.proofs.candidate_matrices.fill_candidate_row.Goals as goal

pub loop-j-preserved : goal.loop-j-preserved
loop-j-preserved p c =
    let v = c.entry-value.result in
    let x : FitsSigned w128 c.entry-value.result = search rules in
    let changed = simp to_z-of_z at c.set.ensures in
    let i< : c.args.i < length c.loop-j.m = omega (arith, c.loop-j.invariant.size, c.requires.row) in
    let j< : c.loop-j.j < length c.loop-j.m = omega (arith, c.loop-j.invariant.size, c.loop-j-test.true, c.size-j-end.ensures.size) in
    record {
      size = rw changed (length-changed c.loop-j.m c.args.i c.loop-j.j v ∙ c.loop-j.invariant.size);
      square = rw changed (changed-square c.loop-j.m c.args.i c.loop-j.j v i< c.loop-j.invariant.square);
      others = λ h k l m.
          let other : h ≢ c.args.i = omega arith in
          rw changed (changed-elsewhere c.loop-j.m c.args.i c.loop-j.j h k v other ∙ c.loop-j.invariant.others h k l m);
      entries = λ f each.
          rw changed (entry-filled c.loop-j.m c.args.i c.loop-j.j v f c.loop-j.invariant.square i< j< (c.loop-j.invariant.entries f each)
          (each c.loop-j.j _ (omega (arith, j<, c.loop-j.invariant.size)) c.entry-value.ensures));
    }

pub returns-clause-written : goal.returns-clause-written
returns-clause-written p c = λ f each j l.
    c.loop-j.invariant.entries f each j (omega (arith, l, c.loop-j-test.false, c.loop-j.invariant.size, c.size-j-end.ensures.size))
