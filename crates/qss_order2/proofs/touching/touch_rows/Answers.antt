-- One more row.
use Rattle.qss_order2.proofs.Common
use Common.{ℕ, ◌||◌, ◌∙◌, ◌≡◌, ◌≤◌, ap, arith, Entry, eqb, get_or, get_or-map, is_listed, length}
use Common.{length-map, List, rows_in, sym, take_all}
use Rattle.qss_order2.proofs.ColumnSums.{entry_0}
use Rattle.qss_order2.proofs.QuietStates.{touched_more, or_none}
use Rattle.qss_order2.proofs.touching.touch_rows.Goals as goal

pub loop-entry-init : goal.loop-entry-init
loop-entry-init c = record {
  count = omega arith;
  places =
      λ j. sym (or_none (is_listed c.args.affected.now.places j));
}

pub insert-requires : goal.insert-requires
insert-requires c = omega (
  arith,
  c.requires c.loop-entry.entry-index entry_0
      c.loop-entry-test.true,
  c.loop-entry.invariant.count,
)

pub loop-entry-preserved : goal.loop-entry-preserved
loop-entry-preserved c =
    let column : List Entry = c.args.column.now in
    let i = c.loop-entry.entry-index in
    let many : length (rows_in column) ≡ length column =
    length-map column (λ (entry : Entry). entry.var) in
    record {
      count = c.insert.ensures.count ∙ c.loop-entry.invariant.count;
      places = λ j.
          let row : get_or (rows_in column) i 0 ≡ (get_or column i entry_0).var =
          get_or-map (λ (entry : Entry). entry.var) column i entry_0 0 c.loop-entry-test.true in
          touched_more (rows_in column) i j (is_listed c.args.affected.now.places j)
          (is_listed c.loop-entry.affected.places j) (is_listed c.insert.new.self.places j)
          (omega (arith, c.loop-entry-test.true, many))
          (c.loop-entry.invariant.places j) (c.insert.ensures.places j
          ∙ ap (λ (row : ℕ). is_listed c.loop-entry.affected.places j || eqb row j) (sym row));
    }

pub returns-clause-places : goal.returns-clause-places
returns-clause-places c j =
    let column : List Entry = c.args.column.now in
    let many : length (rows_in column) ≡ length column =
    length-map column (λ (entry : Entry). entry.var) in
    let all : length (rows_in column) ≤ c.loop-entry.entry-index =
    omega (arith, many, c.loop-entry-test.false) in
    c.loop-entry.invariant.places j ∙ ap (λ l. is_listed c.args.affected.now.places j || is_listed l
    j) (take_all c.loop-entry.entry-index (rows_in column) all)
