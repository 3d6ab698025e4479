-- The slopes of the rows that read one more variable.
use Rattle.qss_states.proofs.Common
use Common.{ℕ, ℤ, ◌+◌, ◌<◌, ◌∙◌, ◌≡◌, All, AreReaderSums, arith, discrete_count, flat_map, get_or}
use Common.{is_listed, IsSlopeAt, IsWritten, List, lists_more, pos, reading_rows, rows_below}
use Common.{rows_kept, rows_many, state_count, subst, sym, take, take_all, true, written_on}
use Rattle.qss_states.proofs.Marked.{among_one, some_of_them, still_known}
use Rattle.qss_states.proofs.slope_updates.sum_marked_readers.Goals as goal

pub rows_of-requires : goal.rows_of-requires
rows_of-requires c =
    omega (
      arith,
      c.requires.variables c.loop-var.var-index 0 c.loop-var-test.true,
      rows_many c.args.at.now.machine.now c.args.at.now.uses.now c.requires.uses,
    )

pub sum_marked_rows-requires-clause-rows : goal.sum_marked_rows-requires-clause-rows
sum_marked_rows-requires-clause-rows c =
    let m = c.args.at.now.machine.now in
    let var : ℕ = get_or c.args.handled.now.assigned.now c.loop-var.var-index 0 in
    let known : var < state_count m + discrete_count m =
    c.requires.variables c.loop-var.var-index 0 c.loop-var-test.true in
    subst (All (λ row. row < state_count m)) (sym c.rows_of.ensures)
    (rows_below m c.args.at.now.uses.now c.requires.uses var known (state_count m) (omega arith))

pub sum_marked_rows-requires-clause-allowed : goal.sum_marked_rows-requires-clause-allowed
sum_marked_rows-requires-clause-allowed c = record {
  of = record { values = c.requires.allowed.of.values; one_each = c.loop-var.invariant.as_many };
  light = c.requires.allowed.light;
}

pub sum_marked_rows-requires-clause-marked : goal.sum_marked_rows-requires-clause-marked
sum_marked_rows-requires-clause-marked c =
    let m = c.args.at.now.machine.now in
    let i = c.loop-var.var-index in
    let vars : List ℕ = c.args.handled.now.assigned.now in
    let now : List ℤ = c.loop-var.slopes in
    let known : get_or vars i 0 < state_count m + discrete_count m =
    c.requires.variables i 0 c.loop-var-test.true in
    let Has : ℕ → ℤ → Type 0 = IsSlopeAt m c.args.at.now.levels.now c.args.handled.now.discretes.now in
    let all : List ℕ = flat_map (reading_rows m) vars in
    let still = still_known Has all _ c.args.slopes.now now c.requires.marked
    c.loop-var.invariant.written in
    let rows =
    c.rows_of.ensures ∙ rows_kept m c.args.at.now.uses.now c.requires.uses (get_or vars i 0) known in
    some_of_them Has all c.rows_of.result.now now still
    (λ row among.
    among_one (reading_rows m) vars i row c.loop-var-test.true
    (subst (λ (these : List ℕ). is_listed these row ≡ true) rows among))

pub loop-var-preserved : goal.loop-var-preserved
loop-var-preserved c =
    let m = c.args.at.now.machine.now in
    let i = c.loop-var.var-index in
    let inv = c.loop-var.invariant in
    let vars : List ℕ = c.args.handled.now.assigned.now in
    let var : ℕ = get_or vars i 0 in
    let old : List ℤ = c.args.slopes.now in
    let now : List ℤ = c.loop-var.slopes in
    let new : List ℤ = c.sum_marked_rows.new.slopes in
    let known : var < state_count m + discrete_count m =
    c.requires.variables i 0 c.loop-var-test.true in
    let Has : ℕ → ℤ → Type 0 = IsSlopeAt m c.args.at.now.levels.now c.args.handled.now.discretes.now in
    let more : IsWritten (pos 0) Has (reading_rows m var) now new =
    subst (λ (rows : List ℕ). IsWritten (pos 0) Has rows now new)
    (c.rows_of.ensures ∙ rows_kept m c.args.at.now.uses.now c.requires.uses var known)
    c.sum_marked_rows.ensures in
    record {
      written = subst (λ (rows : List ℕ). IsWritten (pos 0) Has rows old new)
          (sym (lists_more (reading_rows m) vars i c.loop-var-test.true))
          (written_on (pos 0) Has (flat_map (reading_rows m) (take i vars)) (reading_rows m var) old
          now new inv.written more);
      as_many = more.as_many ∙ inv.as_many;
    }

pub returns : goal.returns
returns c =
    let m = c.args.at.now.machine.now in
    let Has : ℕ → ℤ → Type 0 = IsSlopeAt m c.args.at.now.levels.now c.args.handled.now.discretes.now in
    subst (λ (vars : List ℕ). AreReaderSums Has m vars c.args.slopes.now c.loop-var.slopes)
    (take_all c.loop-var.var-index c.args.handled.now.assigned.now c.loop-var-test.false)
    c.loop-var.invariant.written
