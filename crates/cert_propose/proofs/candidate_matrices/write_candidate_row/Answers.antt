use Rattle.cert_propose.proofs.Common
use Common.{◌<◌, ◌∙◌, ◌≢◌, arith, changed-elsewhere, changed-square, FitsSigned, length}
use Common.{length-changed, rules, sym, to_z-of_z, w128}
use Rattle.cert_propose.proofs.Collected.{collected-stop}
use Rattle.cert_propose.proofs.Entries.{entry-more}
use Rattle.cert_propose.proofs.candidate_matrices.write_candidate_row.Goals as goal

pub loop-j-preserved : goal.loop-j-preserved
loop-j-preserved p c =
    let v = c.in-Some.value in
    let x : FitsSigned w128 c.in-Some.value = search rules in
    let changed = simp to_z-of_z at c.set.ensures in
    let i< : c.args.i < length c.loop-j.m = omega (arith, c.loop-j.invariant.size, c.requires.row) in
    let j< : c.loop-j.j < length c.loop-j.m = omega (arith, c.loop-j.invariant.size, c.loop-j-test.true, c.size-j-end.ensures.size) in
    record {
      size = rw changed (length-changed c.loop-j.m c.args.i c.loop-j.j v ∙ c.loop-j.invariant.size);
      square = rw changed (changed-square c.loop-j.m c.args.i c.loop-j.j v i< c.loop-j.invariant.square);
      others = λ h k l m.
          let other : h ≢ c.args.i = omega arith in
          rw changed (changed-elsewhere c.loop-j.m c.args.i c.loop-j.j h k v other ∙ c.loop-j.invariant.others h k l m);
      entries = λ f each.
          rw changed (entry-more c.loop-j.m c.args.i c.loop-j.j v f c.loop-j.invariant.square i< j< (c.loop-j.invariant.entries f each)
          (sym (each c.loop-j.j _ (omega (arith, j<, c.loop-j.invariant.size)) c.in-Some.ensures)));
    }

pub returns-in-None-clause-missing : goal.returns-in-None-clause-missing
returns-in-None-clause-missing p c = λ e f each.
    let j< : c.loop-j.j < length c.args.m.now = omega (arith, c.loop-j.invariant.size, c.loop-j-test.true, c.size-j-end.ensures.size) in
    collected-stop (length c.args.m.now) c.loop-j.j f j< (sym (each c.loop-j.j _ j< c.in-None.ensures))

pub returns-clause-written : goal.returns-clause-written
returns-clause-written p c = λ e f each j l.
    c.loop-j.invariant.entries f each j (omega (arith, l, c.loop-j-test.false, c.loop-j.invariant.size, c.size-j-end.ensures.size))
