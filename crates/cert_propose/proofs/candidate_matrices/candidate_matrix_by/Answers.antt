use Rattle.cert_propose.proofs.Common
use Common.{ℕ, ℤ, ◌+◌, ◌<◌, ◌∙◌, ◌≡◌, ◌≤◌, ◌⊎◌, ap, arith, cases_lt, inl, inr, length, None, Option}
use Common.{Some, sym, table, vector_by}
use Rattle.cert_propose.proofs.Collected.{table-is, table-stop}
use Rattle.cert_propose.proofs.candidate_matrices.candidate_matrix_by.Goals as goal

pub returns-then-not-write_candidate_row : goal.returns-then-not-write_candidate_row
returns-then-not-write_candidate_row p c = λ f each.
    let size = c.loop-i.invariant.size in
    let row : vector_by (length c.loop-i.m) (f c.loop-i.i) ≡ None =
    c.write_candidate_row.ensures.missing c.if-not-write_candidate_row.true (f c.loop-i.i) (λ j x l. each c.loop-i.i j x c.loop-i-test.true (omega arith)) in
    sym (table-stop c.args.n c.loop-i.i f c.loop-i-test.true (ap (λ (k : ℕ). vector_by k (f c.loop-i.i)) (sym size) ∙ row))

pub loop-i-preserved : goal.loop-i-preserved
loop-i-preserved p c = record {
  size = c.write_candidate_row.ensures.size ∙ c.loop-i.invariant.size;
  square = c.write_candidate_row.ensures.square;
  entries = λ f each i j l m.
      let size = c.loop-i.invariant.size in
      by f i j m (c.write_candidate_row.ensures.written c.if-not-write_candidate_row.false (f c.loop-i.i) (λ k x h. each c.loop-i.i k x c.loop-i-test.true (omega arith)))
      (λ h. c.loop-i.invariant.entries f each i j h m) l (cases_lt i c.loop-i.i);
}
  where
    by : (f : ℕ → ℕ → Option ℤ) (i j : ℕ) → j < c.args.n → ((k : ℕ) → k < length c.loop-i.m → f c.loop-i.i k ≡ Some (table c.write_candidate_row.new.m c.loop-i.i k))
        → (i < c.loop-i.i → f i j ≡ Some (table c.loop-i.m i j)) → i < c.loop-i.i + 1 → (i < c.loop-i.i) ⊎ (c.loop-i.i ≤ i) → f i j ≡ Some (table c.write_candidate_row.new.m i j)
    by f i j m here before l (inl h) =
        let size = c.loop-i.invariant.size in
        before h ∙ ap Some (sym (c.write_candidate_row.ensures.others i j h (omega arith)))
    by f i j m here before l (inr h) =
        let size = c.loop-i.invariant.size in
        let same : i ≡ c.loop-i.i = omega arith in rw same (here j (omega arith))

pub returns : goal.returns
returns p c = λ f each.
    sym (table-is c.args.n f c.loop-i.m c.loop-i.invariant.size c.loop-i.invariant.square (λ i j l m.
    c.loop-i.invariant.entries f each i j (omega (arith, l, c.loop-i-test.false)) m))
