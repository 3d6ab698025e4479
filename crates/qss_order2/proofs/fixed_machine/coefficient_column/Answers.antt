-- Each iteration adds the coefficient of one row, unless it is 0.
use Rattle.qss_order2.proofs.Common
use Common.{[], ℕ, ◌<◌, ◌≤◌, All, FitsSigned, get_or, IsStrictlyIncreasing, length, List, refl}
use Common.{state_count, subst, sym, take, to_z-of_z, w64}
use Rattle.mu_num.proofs.RisingNumbers.{not_before}
use Rattle.qss_machine.proofs.KeptReaders.{rows_known, reading_numbers}
use Rattle.qss_order2.proofs.ColumnSums.{IsColumnOf, no_column, column_more, column_done}
use Rattle.qss_order2.proofs.fixed_machine.coefficient_column.Goals as goal

pub loop-row-init : goal.loop-row-init
loop-row-init c = subst (IsColumnOf c.args.m.now c.args.state []) (sym c.new-entries.ensures.items)
    (no_column c.args.m.now c.args.state)

pub fixed_mode_at-coef-requires-clause-row : goal.fixed_mode_at-coef-requires-clause-row
fixed_mode_at-coef-requires-clause-row c =
    let m = c.args.m.now in
    subst (λ (l : List ℕ). All (λ row. row < state_count m) l) (sym c.requires.readers)
    (rows_known m c.args.state) c.loop-row.row-index 0 c.loop-row-test.true

pub loop-row-preserved : goal.loop-row-preserved
loop-row-preserved c =
    let m = c.args.m.now in
    let readers : List ℕ = c.args.readers.now in
    let i = c.loop-row.row-index in
    let h : i < length readers = c.loop-row-test.true in
    let rising : IsStrictlyIncreasing readers = subst IsStrictlyIncreasing (sym c.requires.readers)
    (reading_numbers m c.args.state (state_count m) refl).rising in
    let inside : get_or readers i 0 < state_count m =
    subst (λ (l : List ℕ). All (λ row. row < state_count m) l) (sym c.requires.readers)
    (rows_known m c.args.state) i 0 h in
    let of_coef : FitsSigned w64 c.fixed_mode_at-coef.result =
    record { sfits = c.fixed_mode_at-coef.type_inv } in
    let added = simp to_z-of_z at c.in_ok-add_fixed_mode.ensures in
    column_more m c.args.state readers i h (not_before readers i rising h)
    inside c.loop-row.entries.items c.loop-row.invariant c.add_fixed_mode.new.entries.items
    c.fixed_mode_at-coef.result c.fixed_mode_at-coef.ensures.value added.0 added.1

pub returns : goal.returns
returns c =
    let m = c.args.m.now in
    let i = c.loop-row.row-index in
    column_done m c.args.state i c.loop-row.entries.items (subst (λ (l : List ℕ). length l ≤ i)
    c.requires.readers c.loop-row-test.false)
    (subst (λ (l : List ℕ). IsColumnOf m c.args.state (take i l) c.loop-row.entries.items)
    c.requires.readers c.loop-row.invariant)
