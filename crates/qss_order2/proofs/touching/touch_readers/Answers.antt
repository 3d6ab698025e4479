-- The column of a state has the rows that read it.
use Rattle.qss_order2.proofs.Common
use Common.{◌<◌, ◌||◌, ◌∙◌, ◌≡◌, All, ap, arith, column_at, Entry, is_listed, List, rows_in}
use Common.{state_count, subst, sym}
use Rattle.qss_order2.proofs.FixedFacts.{column_is}
use Rattle.qss_order2.proofs.touching.touch_readers.Goals as goal

pub touch_rows-requires : goal.touch_rows-requires
touch_rows-requires c =
    let f = c.args.f.now in
    let h : c.args.state < state_count f.machine = c.requires.state in
    let is : c.as_slice.result.now ≡ column_at f.columns.items c.args.state = c.as_slice.ensures
    ∙ column_is f c.args.state h c.index.result.now c.index.ensures in
    subst (λ (l : List Entry). All (λ entry. entry.var < c.args.affected.now.count) l) (sym is)
    (λ k d low. omega (arith, (f.has_columns.each c.args.state h).known k d low, c.requires.count))

pub returns-clause-places : goal.returns-clause-places
returns-clause-places c j =
    let f = c.args.f.now in
    let is : c.as_slice.result.now ≡ column_at f.columns.items c.args.state = c.as_slice.ensures
    ∙ column_is f c.args.state c.requires.state c.index.result.now c.index.ensures in
    c.touch_rows.ensures.places j ∙ ap (λ (l : List Entry). is_listed c.args.affected.now.places j
    ||
    is_listed (rows_in l) j) is
