-- The sums of the rows that read one more variable are marked.
use Rattle.qss_states.proofs.Common
use Common.{[], ℕ, ℤ, ◌++◌, ◌+◌, ◌<◌, ◌∙◌, ◌≡◌, All, ap, AreMarked, get_or, length, List}
use Common.{listed_rows, lists_more, pos, subst, SUM_MARK, sym, take, take_all, written_on}
use Rattle.qss_states.proofs.sum_marks.mark_reader_sums.Goals as goal

pub mark_sums-requires : goal.mark_sums-requires
mark_sums-requires c =
    let i = c.loop-var.var-index in
    let var : ℕ = get_or c.args.variables.now i 0 in
    let rows : List ℕ = get_or c.args.uses.now.0 var [] in
    let below : All (λ row. row < length c.args.sums.now) rows =
    c.requires.rows var [] (c.requires.variables i 0 c.loop-var-test.true) in
    let same : length c.args.sums.now ≡ length c.loop-var.sums = sym c.loop-var.invariant.as_many in
    subst (All (λ row. row < length c.loop-var.sums)) (sym c.rows_of.ensures)
    (subst (λ (n : ℕ). All (λ row. row < n) rows) same below)

pub loop-var-preserved : goal.loop-var-preserved
loop-var-preserved c =
    let i = c.loop-var.var-index in
    let f = λ (var : ℕ). get_or c.args.uses.now.0 var [] in
    let vars : List ℕ = c.args.variables.now in
    let old : List ℤ = c.args.sums.now in
    let new : List ℤ = c.mark_sums.new.sums in
    let sooner : List ℕ = listed_rows c.args.uses.now.0 (take i vars) in
    let more : sooner ++ c.rows_of.result.now ≡ listed_rows c.args.uses.now.0 (take (i + 1) vars) =
    ap (λ rows. sooner ++ rows) c.rows_of.ensures
    ∙ sym (lists_more f vars i c.loop-var-test.true) in
    subst (λ (rows : List ℕ). AreMarked rows old new) more
    (written_on (pos 0) (λ row sum. sum ≡ SUM_MARK) sooner c.rows_of.result.now old
    c.loop-var.sums new c.loop-var.invariant c.mark_sums.ensures)

pub returns : goal.returns
returns c =
    subst
    (λ (vars : List ℕ).
    AreMarked (listed_rows c.args.uses.now.0 vars) c.args.sums.now c.loop-var.sums)
    (take_all c.loop-var.var-index c.args.variables.now c.loop-var-test.false) c.loop-var.invariant
