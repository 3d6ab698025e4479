use Rattle.cert_check.proofs.Common
use Common.{[], ℕ, ℤ, ◌+◌, ◌<◌, ◌∙◌, ◌≡◌, ◌≤◌, ◌⊎◌, ap, arith, cases_lt, get_or, get_or_default}
use Common.{inl, inr, length-zeros, List, table, vector, zeros-square}
use Rattle.cert_check.proofs.Assembled.{same-tables}
use Rattle.cert_check.proofs.certificate_assembly.assemble_matrix.Goals as goal

pub loop-i-init : goal.loop-i-init
loop-i-init c = record {
  size = rw c.new-matrix.ensures (length-zeros c.args.n);
  square = rw c.new-matrix.ensures (zeros-square c.args.n);
  rows = λ h k l. absurd (omega arith);
}

pub loop-i-preserved : goal.loop-i-preserved
loop-i-preserved c = record {
  size = c.write_row.ensures.size ∙ c.loop-i.invariant.size;
  square = c.write_row.ensures.square;
  rows = λ h k l m. by h k l m (cases_lt h c.loop-i.i);
}
  where
    by : (h k : ℕ) → h < c.loop-i.i + 1 → k < c.args.n → (h < c.loop-i.i) ⊎ (c.loop-i.i ≤ h) → table c.write_row.new.matrix h k ≡ table c.args.rows.now h k
    by h k l m (inl before) =
        c.write_row.ensures.others h k before (omega (arith, c.loop-i.invariant.size)) ∙ c.loop-i.invariant.rows h k before m
    by h k l m (inr here) =
        let same : h ≡ c.loop-i.i = omega arith in
        let row = c.write_row.ensures.row k (omega (arith, c.loop-i.invariant.size)) in
        let is : c.index-rows-i.result ≡ get_or c.args.rows.now c.loop-i.i [] =
        c.index-rows-i.is ∙ get_or_default c.args.rows.now c.loop-i.i c.index-rows-i.result [] (omega (arith, c.requires.rows, c.loop-i-test.true)) in
        rw same (row ∙ ap (λ (xs : List ℤ). vector xs k) is)

pub returns : goal.returns
returns c =
    same-tables c.args.n c.loop-i.matrix c.args.rows.now c.loop-i.invariant.size c.loop-i.invariant.square c.requires.rows c.requires.columns
    (λ h k l m. c.loop-i.invariant.rows h k (omega (arith, c.loop-i-test.false)) m)
