use Rattle.cert_propose.proofs.Common
use Common.{ℕ, ◌+◌, ◌<◌, ◌∙◌, ◌≡◌, ◌≤◌, ◌⊎◌, arith, cases_lt, inl, inr, length, Table, table}
use Rattle.cert_check.proofs.Tables.{table-filled}
use Rattle.cert_propose.proofs.candidate_matrices.candidate_matrix_of.Goals as goal

pub loop-i-preserved : goal.loop-i-preserved
loop-i-preserved p c = record {
  size = c.fill_candidate_row.ensures.size ∙ c.loop-i.invariant.size;
  square = c.fill_candidate_row.ensures.square;
  entries = λ f each i j l m.
      let size = c.loop-i.invariant.size in
      by f i j m (c.fill_candidate_row.ensures.written (f c.loop-i.i) (λ k x h. each c.loop-i.i k x c.loop-i-test.true (omega arith)))
      (λ h. c.loop-i.invariant.entries f each i j h m) l (cases_lt i c.loop-i.i);
}
  where
    by : (f : Table) (i j : ℕ) → j < c.args.n → ((k : ℕ) → k < length c.loop-i.m → table c.fill_candidate_row.new.m c.loop-i.i k ≡ f c.loop-i.i k)
        → (i < c.loop-i.i → table c.loop-i.m i j ≡ f i j) → i < c.loop-i.i + 1 → (i < c.loop-i.i) ⊎ (c.loop-i.i ≤ i) → table c.fill_candidate_row.new.m i j ≡ f i j
    by f i j m here before l (inl h) =
        let size = c.loop-i.invariant.size in
        c.fill_candidate_row.ensures.others i j h (omega arith) ∙ before h
    by f i j m here before l (inr h) =
        let size = c.loop-i.invariant.size in
        let same : i ≡ c.loop-i.i = omega arith in rw same (here j (omega arith))

pub returns : goal.returns
returns p c = λ f each.
    table-filled c.args.n c.loop-i.m f c.loop-i.invariant.size c.loop-i.invariant.square (λ i j l m.
    c.loop-i.invariant.entries f each i j (omega (arith, l, c.loop-i-test.false)) m)
