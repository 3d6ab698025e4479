-- The rows that read an assigned variable are marked and then weighed.
use Rattle.qss_states.proofs.Common
use Common.{[], ℕ, ℤ, ◌+◌, ◌<◌, ◌∙◌, All, AreMarked, arith, discrete_count, flat_map}
use Common.{get_or_default, IsWeighed, length, List, reading_rows, rows_below, rows_kept_all}
use Common.{rows_many, state_count, subst}
use Rattle.qss_states.proofs.Marked.{all_marked, written_over}
use Rattle.qss_states.proofs.kept_weights.weigh_kept_readers.Goals as goal

pub mark_reader_sums-requires-clause-variables : goal.mark_reader_sums-requires-clause-variables
mark_reader_sums-requires-clause-variables c k z h =
    omega (arith, c.requires.assigned k z h, rows_many c.args.at.now.machine.now c.args.at.now.uses.now c.requires.uses)

pub mark_reader_sums-requires-clause-rows : goal.mark_reader_sums-requires-clause-rows
mark_reader_sums-requires-clause-rows c var none h =
    let m = c.args.at.now.machine.now in
    let lists = c.args.at.now.uses.now.0 in
    let known : var < state_count m + discrete_count m =
    omega (arith, h, rows_many m c.args.at.now.uses.now c.requires.uses) in
    subst (All (λ row. row < length c.args.weights.now)) (get_or_default lists var [] none h)
    (rows_below m c.args.at.now.uses.now c.requires.uses var known (length c.args.weights.now)
    (omega (arith, c.requires.allowed.one_each)))

pub weigh_marked_readers-requires-clause-allowed : goal.weigh_marked_readers-requires-clause-allowed
weigh_marked_readers-requires-clause-allowed c = record {
  values = c.requires.allowed.values;
  one_each = c.mark_reader_sums.ensures.as_many ∙ c.requires.allowed.one_each;
}

pub weigh_marked_readers-requires-clause-marked : goal.weigh_marked_readers-requires-clause-marked
weigh_marked_readers-requires-clause-marked c =
    let m = c.args.at.now.machine.now in
    let vars : List ℕ = c.args.handled.now.assigned.now in
    let old : List ℤ = c.args.weights.now in
    let new : List ℤ = c.mark_reader_sums.new.sums in
    let known : All (λ var. var < state_count m + discrete_count m) vars =
    λ k z h. (c.requires.assigned k z h).1 in
    all_marked (IsWeighed m c.args.at.now.levels.now c.args.handled.now.discretes.now) (flat_map (reading_rows m) vars) old new
    (subst (λ (rows : List ℕ). AreMarked rows old new)
    (rows_kept_all m c.args.at.now.uses.now c.requires.uses vars known) c.mark_reader_sums.ensures)

pub returns : goal.returns
returns c =
    let m = c.args.at.now.machine.now in
    let vars : List ℕ = c.args.handled.now.assigned.now in
    let old : List ℤ = c.args.weights.now in
    let mid : List ℤ = c.mark_reader_sums.new.sums in
    let known : All (λ var. var < state_count m + discrete_count m) vars =
    λ k z h. (c.requires.assigned k z h).1 in
    written_over (IsWeighed m c.args.at.now.levels.now c.args.handled.now.discretes.now)
    (flat_map (reading_rows m) vars) old mid c.weigh_marked_readers.new.weights
    (subst (λ (rows : List ℕ). AreMarked rows old mid)
    (rows_kept_all m c.args.at.now.uses.now c.requires.uses vars known) c.mark_reader_sums.ensures)
    c.weigh_marked_readers.ensures
