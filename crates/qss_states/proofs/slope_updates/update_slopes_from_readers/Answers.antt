-- The slopes of the rows that read one variable, or of those that were marked.
use Rattle.qss_states.proofs.Common
use Common.{[], ℕ, ℤ, ◌+◌, ◌<◌, ◌∙◌, ◌≡◌, All, AreMarked, arith, discrete_count, flat_map, get_or}
use Common.{get_or_default, IsSlopeAt, IsWritten, length, List, pos, reading_rows, rows_below}
use Common.{rows_kept, rows_kept_all, rows_many, state_count, subst, sym}
use Rattle.qss_states.proofs.Marked.{all_marked, only_one, written_over}
use Rattle.qss_states.proofs.slope_updates.update_slopes_from_readers.Goals as goal

pub rows_of-requires : goal.rows_of-requires
rows_of-requires c =
    omega (
      arith,
      c.requires.variables 0 0 (omega (arith, c.if-variables-eq1.true)),
      rows_many c.args.at.now.machine.now c.args.at.now.uses.now c.requires.uses,
    )

pub update_slopes_from_rows-requires-clause-rows : goal.update_slopes_from_rows-requires-clause-rows
update_slopes_from_rows-requires-clause-rows c =
    let m = c.args.at.now.machine.now in
    let var : ℕ = get_or c.args.handled.now.assigned.now 0 0 in
    let known : var < state_count m + discrete_count m = c.requires.variables 0 0 (omega arith) in
    subst (All (λ row. row < state_count m)) (sym c.rows_of.ensures)
    (rows_below m c.args.at.now.uses.now c.requires.uses var known (state_count m) (omega arith))

pub returns-then-variables-eq1 : goal.returns-then-variables-eq1
returns-then-variables-eq1 c =
    let m = c.args.at.now.machine.now in
    let vars : List ℕ = c.args.handled.now.assigned.now in
    let var : ℕ = get_or vars 0 0 in
    let known : var < state_count m + discrete_count m = c.requires.variables 0 0 (omega arith) in
    let Has : ℕ → ℤ → Type 0 = IsSlopeAt m c.args.at.now.levels.now c.args.handled.now.discretes.now in
    let rows : c.rows_of.result.now ≡ flat_map (reading_rows m) vars =
    c.rows_of.ensures ∙ rows_kept m c.args.at.now.uses.now c.requires.uses var known
    ∙ sym (only_one (reading_rows m) vars (omega arith)) in
    let old : List ℤ = c.args.slopes.now in
    let new : List ℤ = c.update_slopes_from_rows.new.slopes in
    subst (λ (these : List ℕ). IsWritten (pos 0) Has these old new) rows
    c.update_slopes_from_rows.ensures

pub mark_reader_sums-requires-clause-variables : goal.mark_reader_sums-requires-clause-variables
mark_reader_sums-requires-clause-variables c k z h =
    omega (arith, c.requires.variables k z h, rows_many c.args.at.now.machine.now c.args.at.now.uses.now c.requires.uses)

pub mark_reader_sums-requires-clause-rows : goal.mark_reader_sums-requires-clause-rows
mark_reader_sums-requires-clause-rows c var none h =
    let m = c.args.at.now.machine.now in
    let lists = c.args.at.now.uses.now.0 in
    let known : var < state_count m + discrete_count m =
    omega (arith, h, rows_many m c.args.at.now.uses.now c.requires.uses) in
    subst (All (λ row. row < length c.args.slopes.now)) (get_or_default lists var [] none h)
    (rows_below m c.args.at.now.uses.now c.requires.uses var known (length c.args.slopes.now)
    (omega (arith, c.requires.allowed.of.one_each)))

pub sum_marked_readers-requires-clause-allowed : goal.sum_marked_readers-requires-clause-allowed
sum_marked_readers-requires-clause-allowed c = record {
  of = record {
    values = c.requires.allowed.of.values;
    one_each = c.mark_reader_sums.ensures.as_many ∙ c.requires.allowed.of.one_each;
  };
  light = c.requires.allowed.light;
}

pub sum_marked_readers-requires-clause-marked : goal.sum_marked_readers-requires-clause-marked
sum_marked_readers-requires-clause-marked c =
    let m = c.args.at.now.machine.now in
    let vars : List ℕ = c.args.handled.now.assigned.now in
    let old : List ℤ = c.args.slopes.now in
    let new : List ℤ = c.mark_reader_sums.new.sums in
    let Has : ℕ → ℤ → Type 0 = IsSlopeAt m c.args.at.now.levels.now c.args.handled.now.discretes.now in
    all_marked Has (flat_map (reading_rows m) vars) old new
    (subst (λ (rows : List ℕ). AreMarked rows old new)
    (rows_kept_all m c.args.at.now.uses.now c.requires.uses vars c.requires.variables)
    c.mark_reader_sums.ensures)

pub returns : goal.returns
returns c =
    let m = c.args.at.now.machine.now in
    let vars : List ℕ = c.args.handled.now.assigned.now in
    let old : List ℤ = c.args.slopes.now in
    let mid : List ℤ = c.mark_reader_sums.new.sums in
    let Has : ℕ → ℤ → Type 0 = IsSlopeAt m c.args.at.now.levels.now c.args.handled.now.discretes.now in
    written_over Has (flat_map (reading_rows m) vars) old mid
    c.sum_marked_readers.new.slopes
    (subst (λ (rows : List ℕ). AreMarked rows old mid)
    (rows_kept_all m c.args.at.now.uses.now c.requires.uses vars c.requires.variables)
    c.mark_reader_sums.ensures)
    c.sum_marked_readers.ensures
