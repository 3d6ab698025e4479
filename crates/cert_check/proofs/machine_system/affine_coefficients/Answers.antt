use Rattle.cert_check.proofs.Common
use Common.{ℕ, ◌+◌, ◌<◌, ◌∙◌, ◌≡◌, ◌≤◌, ◌⊎◌, arith, cases_lt, inl, inr, length-zeros}
use Common.{start_coefficient, state_count, table, zeros-square}
use Rattle.cert_check.proofs.Tables.{table-filled}
use Rattle.cert_check.proofs.machine_system.affine_coefficients.Goals as goal

pub loop-j-init : goal.loop-j-init
loop-j-init c = record {
  size = rw c.new-coef.ensures (length-zeros c.args.n ∙ c.requires.size);
  square = rw c.new-coef.ensures (zeros-square c.args.n);
  rows = λ i k l. absurd (omega arith);
}

pub loop-j-preserved : goal.loop-j-preserved
loop-j-preserved c = record {
  size = c.write_row.ensures.size;
  square = c.write_row.ensures.square;
  rows = λ i k l m. by i k m (omega arith) (cases_lt i c.loop-j.j);
}
  where
    by : (i k : ℕ) → k < state_count c.args.m.now → i < c.loop-j.j + 1 → (i < c.loop-j.j) ⊎ (c.loop-j.j ≤ i)
        → table c.write_row.new.coef i k ≡ start_coefficient c.args.m.now i k
    by i k m h (inl l) = c.write_row.ensures.others i k l m ∙ c.loop-j.invariant.rows i k l m
    by i k m h (inr l) = let same : i ≡ c.loop-j.j = omega arith in rw same (c.write_row.ensures.row k m)

pub returns : goal.returns
returns c =
    table-filled (state_count c.args.m.now) c.loop-j.coef (start_coefficient c.args.m.now) c.loop-j.invariant.size c.loop-j.invariant.square
    (λ i k h l. c.loop-j.invariant.rows i k (omega (arith, c.loop-j-test.false, c.requires.size, h)) l)
