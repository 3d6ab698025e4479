use Rattle.cert_check.proofs.Common
use Common.{[], ℕ, ℤ, ◌*◌, ◌++◌, ◌+◌, ◌^◌, ◌∙◌, ◌≡◌, ◌≤◌, ap, AreReadAs, fields_of, first_number}
use Common.{get_or, layout, left_out, length, line_count, lines, lines_from, List, map, pos, Row}
use Common.{subst, vector}
use Rattle.cert_check.proofs.Cut.{cut-few}
use Rattle.cert_check.proofs.Turns.{records-all}
use Rattle.cert_check.proofs.Completed.{all-rows, text-read}
use Rattle.cert_check.proofs.certificate_parser.parse_certificate_text.Goals as goal

pub parse_certificate_form-requires : goal.parse_certificate_form-requires
parse_certificate_form-requires c =
    let few = cut-few c.args.bytes.now (map fields_of c.in_ok-records.records.items) c.requires.short c.in_ok-records.ensures in
    rw c.as_slice-2.ensures.value (records-all (λ f. length f ≤ 2 ^ 20) c.in_ok-records.records.items few)

pub parse_certificate_rows-requires-clause-count_limit : goal.parse_certificate_rows-requires-clause-count_limit
parse_certificate_rows-requires-clause-count_limit c =
    let few = cut-few c.args.bytes.now (map fields_of c.in_ok-records.records.items) c.requires.short c.in_ok-records.ensures in
    rw c.as_slice-3.ensures.value (records-all (λ f. length f ≤ 2 ^ 20) c.in_ok-records.records.items few)

pub assemble_certificate-requires-clause-rows : goal.assemble_certificate-requires-clause-rows
assemble_certificate-requires-clause-rows c =
    let n = length c.as_slice.result.now in
    let form = c.in_ok-form.form in
    let P : ℕ → Type 0 = λ k. AreReadAs n k (map fields_of c.as_slice-3.result.now) c.in_ok-rows.rows.items in
    let read = subst P c.count_certificate_lines-count.ensures c.in_ok-rows.ensures.read in
    let items : c.as_slice-4.result.now ≡ c.in_ok-rows.rows.items ++ left_out c.args.m.now form = c.as_slice-4.ensures.value ∙ c.in_ok-complete_certificate_rows.ensures in
    rw items (all-rows c.args.m.now n form (map fields_of c.as_slice-3.result.now) c.in_ok-rows.rows.items (ap length c.as_slice.ensures)
    (c.in_ok-form.ensures.one_of_three.0) (c.in_ok-form.ensures.one_of_three.1) read)

pub returns-clause-read : goal.returns-clause-read
returns-clause-read c =
    let n = length c.as_slice.result.now in
    let form = c.in_ok-form.form in
    let records = c.in_ok-records.records.items in
    let rows = c.in_ok-rows.rows.items in
    let P : ℕ → Type 0 = λ k. AreReadAs n k (map fields_of c.as_slice-3.result.now) rows in
    let Q : List Row → Type 0 = λ rs. AreReadAs n (line_count n form) (map fields_of rs) rows in
    let read = subst Q c.as_slice-3.ensures.value (subst P c.count_certificate_lines-count.ensures c.in_ok-rows.ensures.read) in
    let items : c.as_slice-4.result.now ≡ rows ++ left_out c.args.m.now form = c.as_slice-4.ensures.value ∙ c.in_ok-complete_certificate_rows.ensures in
    let N : List Row → Type 0 = λ rs. first_number (get_or (map fields_of rs) 0 []) ≡ pos form in
    let named = subst N c.as_slice-2.ensures.value c.in_ok-form.ensures.named in
    let L : List (List ℤ) → Type 0 = λ rs. lines (vector (get_or rs 0 []) 0) c.in-Ok.certificate ≡ lines_from (layout n) 0 rs in
    let made = subst L items c.in-Ok.ensures.lines in (
      map fields_of records,
      c.in_ok-records.ensures,
      text-read c.args.m.now n form (map fields_of records) rows c.in-Ok.certificate (ap length c.as_slice.ensures)
          (c.in_ok-form.ensures.one_of_three.0) (c.in_ok-form.ensures.one_of_three.1) read named c.in-Ok.ensures.size made
          (c.in-Ok.ensures.start1 ∙ ap (λ rs. get_or rs (3 * n + 6 + 8) []) items)
          (c.in-Ok.ensures.start2 ∙ ap (λ rs. get_or rs (3 * n + 6 + 9) []) items)
          (c.in-Ok.ensures.quanta ∙ ap (λ rs. get_or rs (3 * n + 6 + 10) []) items),
    )
