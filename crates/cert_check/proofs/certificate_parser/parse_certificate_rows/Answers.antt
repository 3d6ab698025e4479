use Rattle.cert_check.proofs.Common
use Common.{[], ◌++◌, ◌+◌, ◌∙◌, ◌∷◌, ◌≡◌, ◌⊎◌, ap, arith, due_at, expected, fields_of, first_fault}
use Common.{FirstTakesMemory, inl, inr, Keyword, layout, length, length-append, length-map, map}
use Common.{Memory, Missing, record_fault, refl, Some, sym, take, TakesMemory}
use Rattle.cert_check.proofs.Faults.{missing-here, extra-here}
use Rattle.cert_check.proofs.Kept.{first-kept, first-takes}
use Rattle.cert_check.proofs.Turns.{due-is, length-due, read-more, read-refused, read-as}
use Rattle.cert_check.proofs.Turns.{read-takes, rows-more, err-as}
use Rattle.cert_check.proofs.certificate_parser.parse_certificate_rows.Goals as goal

pub returns-then-k-records-clause-refused : goal.returns-then-k-records-clause-refused
returns-then-k-records-clause-refused c =
    let missing = missing-here (take c.args.count (layout c.args.n)) (map fields_of c.args.records.now) c.loop-k.k
    (omega (arith, length-due c.args.n c.args.count c.requires.count, c.loop-k-test.true))
    (omega (arith, length-map c.args.records.now fields_of, c.if-k-records.true)) c.loop-k.invariant.left in
    inr (missing ∙ ap (λ k. Some (Missing (k + 1))) (sym c.from-line.ensures))

pub returns-in_err-row-clause-refused : goal.returns-in_err-row-clause-refused
returns-in_err-row-clause-refused c =
    err-as c.from_residual.result c.in_err-row.field-0.0
    (λ why. ((why ≡ Memory) × FirstTakesMemory c.args.count (map fields_of c.args.records.now)) ⊎ (first_fault 1 (take c.args.count (layout c.args.n)) (map fields_of c.args.records.now) ≡ Some why))
    c.from_residual.ensures.1 (by c.in_err-row.ensures.refused)
  where
    by : ((c.in_err-row.field-0.0 ≡ Memory) × TakesMemory (expected c.expected_record_at-due.result.keyword.now c.expected_record_at-due.result.count) (fields_of c.index-records-k.result)) ⊎ (record_fault (c.from-line.result + 1) (expected c.expected_record_at-due.result.keyword.now c.expected_record_at-due.result.count) (fields_of c.index-records-k.result) ≡ Some c.in_err-row.field-0.0)
        → ((c.in_err-row.field-0.0 ≡ Memory) × FirstTakesMemory c.args.count (map fields_of c.args.records.now)) ⊎ (first_fault 1 (take c.args.count (layout c.args.n)) (map fields_of c.args.records.now) ≡ Some c.in_err-row.field-0.0)
    by (inl (e, takes)) =
        let due = due-is (due_at c.args.n c.loop-k.k) _ _ c.expected_record_at-due.ensures.keyword c.expected_record_at-due.ensures.count in
        inl (
          e,
          (
            omega (arith, c.loop-k-test.true),
            first-takes c.args.n c.loop-k.k (map fields_of c.args.records.now) c.loop-k.rows.items c.loop-k.invariant.each
                (read-takes c.args.n c.args.count c.loop-k.k c.args.records.now c.index-records-k.result c.requires.count c.loop-k-test.true c.if-k-records.false c.index-records-k.is
                (expected c.expected_record_at-due.result.keyword.now c.expected_record_at-due.result.count) due takes),
          ),
        )
    by (inr bad) =
        let due = due-is (due_at c.args.n c.loop-k.k) _ _ c.expected_record_at-due.ensures.keyword c.expected_record_at-due.ensures.count in
        inr (read-refused c.args.n c.args.count c.loop-k.k c.args.records.now c.index-records-k.result c.requires.count c.loop-k-test.true c.if-k-records.false c.index-records-k.is
        (expected c.expected_record_at-due.result.keyword.now c.expected_record_at-due.result.count) c.in_err-row.field-0.0 due c.loop-k.invariant.left
        (ap (λ k. record_fault (k + 1) (expected c.expected_record_at-due.result.keyword.now c.expected_record_at-due.result.count) (fields_of c.index-records-k.result)) (sym c.from-line.ensures) ∙ bad))

pub returns-in_err-push-clause-refused : goal.returns-in_err-push-clause-refused
returns-in_err-push-clause-refused c =
    let due = due-is (due_at c.args.n c.loop-k.k) _ _ c.expected_record_at-due.ensures.keyword c.expected_record_at-due.ensures.count in
    let read = read-as c.args.n c.args.count c.loop-k.k c.args.records.now c.index-records-k.result c.requires.count c.loop-k-test.true c.if-k-records.false c.index-records-k.is
    (expected c.expected_record_at-due.result.keyword.now c.expected_record_at-due.result.count) c.in_ok-row.row due c.in_ok-row.ensures.read in
    let each = rows-more c.args.n c.loop-k.k (map fields_of c.args.records.now) c.loop-k.rows.items c.in_ok-row.row c.loop-k.invariant.as_many c.loop-k.invariant.each read in
    err-as c.from_residual-in_err-push.result Memory
    (λ why. ((why ≡ Memory) × FirstTakesMemory c.args.count (map fields_of c.args.records.now)) ⊎ (first_fault 1 (take c.args.count (layout c.args.n)) (map fields_of c.args.records.now) ≡ Some why))
    c.from_residual-in_err-push.ensures.1
    (inl (
      refl,
      (
        omega (arith, c.loop-k-test.true),
        first-kept c.args.n (c.loop-k.k + 1) (map fields_of c.args.records.now) (c.loop-k.rows.items ++ c.in_ok-row.row ∷ []) (omega arith) each,
      ),
    ))

pub loop-k-preserved : goal.loop-k-preserved
loop-k-preserved c =
    let due = due-is (due_at c.args.n c.loop-k.k) _ _ c.expected_record_at-due.ensures.keyword c.expected_record_at-due.ensures.count in
    let items : c.push.new.self.items ≡ c.loop-k.rows.items ++ c.in_ok-row.row ∷ [] = c.in_ok-push.ensures.items in
    let fine = ap (λ k. record_fault (k + 1) (expected c.expected_record_at-due.result.keyword.now c.expected_record_at-due.result.count) (fields_of c.index-records-k.result)) (sym c.from-line.ensures)
    ∙ c.in_ok-row.ensures.sound in
    record {
      as_many = omega (arith, ap length items, length-append c.loop-k.rows.items (c.in_ok-row.row ∷ []), c.loop-k.invariant.as_many);
      enough = omega (arith, c.if-k-records.false);
      left = read-more c.args.n c.args.count c.loop-k.k c.args.records.now c.index-records-k.result c.requires.count c.loop-k-test.true c.if-k-records.false c.index-records-k.is
          (expected c.expected_record_at-due.result.keyword.now c.expected_record_at-due.result.count) due c.loop-k.invariant.left fine;
      each = rw items (rows-more c.args.n c.loop-k.k (map fields_of c.args.records.now) c.loop-k.rows.items c.in_ok-row.row c.loop-k.invariant.as_many c.loop-k.invariant.each
          (read-as c.args.n c.args.count c.loop-k.k c.args.records.now c.index-records-k.result c.requires.count c.loop-k-test.true c.if-k-records.false c.index-records-k.is
          (expected c.expected_record_at-due.result.keyword.now c.expected_record_at-due.result.count) c.in_ok-row.row due c.in_ok-row.ensures.read));
    }

pub returns-then-records-count-clause-refused : goal.returns-then-records-count-clause-refused
returns-then-records-count-clause-refused c =
    let all : c.loop-k.k ≡ c.args.count = omega (arith, c.loop-k-test.false, c.loop-k.auto.k-end) in
    let extra = extra-here (take c.args.count (layout c.args.n)) (map fields_of c.args.records.now) c.loop-k.k
    (omega (arith, length-due c.args.n c.args.count c.requires.count, c.loop-k-test.false))
    (omega (arith, length-map c.args.records.now fields_of, c.if-records-count.true, all)) c.loop-k.invariant.left in
    inr (extra ∙ ap (λ k. Some (Keyword (k + 1))) (all ∙ sym c.from.ensures))
