-- One more row.
use Rattle.qss_states.proofs.Common
use Common.{ℕ, ℤ, ◌*ℤ◌, ◌+ℤ◌, ◌-ℤ◌, ◌<◌, ◌^◌, ◌∙◌, ◌≡◌, ◌≤◌, ap, arith, FitsSigned, get_or, int_at}
use Common.{ints, IsSumAfterLevelChange, IsWithin, IsWritten, length, length-set, List}
use Common.{mode_coefficient_at, not_before, of_z, pos, reading_coefficients, reading_rows}
use Common.{row_coefficient, rows_kept, rows_many, rules, state_count, subst, sym, taken_by, to_z}
use Common.{to_z-of_z, unsigned_abs, w128, w64, written_all, written_more}
use Rattle.qss_machine.proofs.KeptReaders.{coefficients_kept, coefficients_many}
use Rattle.qss_states.proofs.Shifting.{readers_as_many, reader_numbers, own_coefficient}
use Rattle.qss_states.proofs.Shifting.{small_coefficient}
use Rattle.qss_states.proofs.row_sum_changes.update_row_sums.Goals.{After-coefficients_of-coefficients}
use Rattle.qss_states.proofs.row_sum_changes.update_row_sums.Goals as goal

pub rows_of-rows-requires : goal.rows_of-rows-requires
rows_of-rows-requires c = omega (arith, c.requires.allowed.known, rows_many c.args.at.now.machine.now c.args.uses.now c.requires.uses)

pub coefficients_of-coefficients-requires : goal.coefficients_of-coefficients-requires
coefficients_of-coefficients-requires c = omega (arith, c.requires.allowed.known, coefficients_many c.args.at.now.machine.now c.args.uses.now c.requires.uses)

-- the rows that read the state, and its coefficients there
rows_are : (c : After-coefficients_of-coefficients) → c.rows_of-rows.result.now ≡ reading_rows c.args.at.now.machine.now c.args.change.now.state
rows_are c = c.rows_of-rows.ensures ∙ rows_kept c.args.at.now.machine.now c.args.uses.now c.requires.uses c.args.change.now.state (omega (arith, c.requires.allowed.known))

coefficients_are : (c : After-coefficients_of-coefficients) → c.coefficients_of-coefficients.result.now ≡ reading_coefficients c.args.at.now.machine.now c.args.change.now.state
coefficients_are c =
    c.coefficients_of-coefficients.ensures ∙ coefficients_kept c.args.at.now.machine.now c.args.uses.now c.requires.uses c.args.change.now.state (omega (arith, c.requires.allowed.known))

pub loop-place-init : goal.loop-place-init
loop-place-init c = record {
  written = search rules;
  as_many = c.requires.sums;
  known = reader_numbers c.args.at.now.machine.now c.args.change.now.state c.rows_of-rows.result.now (rows_are (goal.at.loop-place-init c).After-coefficients_of-coefficients);
}

pub bounds-coefficients-place : goal.bounds-coefficients-place
bounds-coefficients-place c =
    let read = (goal.at.bounds-coefficients-place c).After-coefficients_of-coefficients in
    omega (
      arith,
      c.loop-place-test.true,
      readers_as_many c.args.at.now.machine.now c.args.change.now.state c.rows_of-rows.result.now c.coefficients_of-coefficients.result.now (rows_are read) (coefficients_are read),
    )

pub sum_difference-requires-clause-allowed : goal.sum_difference-requires-clause-allowed
sum_difference-requires-clause-allowed c = c.requires.allowed

pub sum_difference-requires-clause-own : goal.sum_difference-requires-clause-own
sum_difference-requires-clause-own c =
    let m = c.args.at.now.machine.now in
    let rows : List ℕ = c.rows_of-rows.result.now in
    let coefficients : List ℤ = c.coefficients_of-coefficients.result.now in
    let place = c.loop-place.place in
    let read = (goal.at.sum_difference-requires-clause-own c).After-coefficients_of-coefficients in
    let own : int_at coefficients place ≡ row_coefficient m (get_or rows place 0) c.args.change.now.state =
    own_coefficient m c.args.change.now.state rows coefficients (rows_are read) (coefficients_are read) place c.loop-place-test.true in
    let small : IsWithin 44 (int_at coefficients place) =
    subst (IsWithin 44) (sym own) (small_coefficient m (get_or rows place 0) c.args.change.now.state (c.loop-place.invariant.known.below place 0 c.loop-place-test.true)) in
    let fits : FitsSigned w64 (int_at coefficients place) = omega (arith, ints, small) in
    to_z-of_z w64 (int_at coefficients place) fits ∙ own

pub overflow_add-sums : goal.overflow_add-sums
overflow_add-sums c =
    let rows : List ℕ = c.rows_of-rows.result.now in
    let i = c.loop-place.place in
    let row : ℕ = get_or rows i 0 in
    let known : row < state_count c.args.at.now.machine.now = c.loop-place.invariant.known.below i 0 c.loop-place-test.true in
    let same : int_at c.loop-place.sums row ≡ int_at c.args.sums.now row = c.loop-place.invariant.written.others row (not_before rows i c.loop-place.invariant.known.rising c.loop-place-test.true) in
    let small : IsWithin 100 (int_at c.args.sums.now row) = c.requires.small_sums row known in
    let fits : FitsSigned w128 (int_at c.loop-place.sums row) = omega (arith, ints, same, small) in
    let change : FitsSigned w128 c.sum_difference.result = record { sfits = c.sum_difference.type_inv } in
    let bound : unsigned_abs c.sum_difference.result ≤ 2 ^ 88 = c.sum_difference.ensures.bound in
    rw (to_z-of_z w128 (int_at c.loop-place.sums row) fits, to_z-of_z w128 c.sum_difference.result change) (omega (arith, ints, same, small, bound))

pub loop-place-preserved : goal.loop-place-preserved
loop-place-preserved c =
    let m = c.args.at.now.machine.now in
    let rows : List ℕ = c.rows_of-rows.result.now in
    let i = c.loop-place.place in
    let inv = c.loop-place.invariant in
    let row : ℕ = get_or rows i 0 in
    let known : row < state_count m = c.loop-place.invariant.known.below i 0 c.loop-place-test.true in
    let same : int_at c.loop-place.sums row ≡ int_at c.args.sums.now row = inv.written.others row (not_before rows i c.loop-place.invariant.known.rising c.loop-place-test.true) in
    let small : IsWithin 100 (int_at c.args.sums.now row) = c.requires.small_sums row known in
    let fits : FitsSigned w128 (int_at c.loop-place.sums row) = omega (arith, ints, same, small) in
    let change : FitsSigned w128 c.sum_difference.result = record { sfits = c.sum_difference.type_inv } in
    let bound : unsigned_abs c.sum_difference.result ≤ 2 ^ 88 = c.sum_difference.ensures.bound in
    let sum : FitsSigned w128 (int_at c.loop-place.sums row +ℤ c.sum_difference.result) = omega (arith, ints, same, small, bound) in
    let inside : row < length c.loop-place.sums = omega (arith, known, inv.as_many) in
    let old : ℤ = c.args.change.now.old in
    let new : ℤ = c.args.change.now.new in
    let value : ℤ = to_z w128 (of_z w128 (to_z w128 (of_z w128 (int_at c.loop-place.sums row)) +ℤ to_z w128 (of_z w128 c.sum_difference.result))) in
    let is : value ≡ int_at c.loop-place.sums row +ℤ c.sum_difference.result =
    rw (to_z-of_z w128 (int_at c.loop-place.sums row) fits, to_z-of_z w128 c.sum_difference.result change) (to_z-of_z w128 (int_at c.loop-place.sums row +ℤ c.sum_difference.result) sum) in
    let own : c.sum_difference.result ≡ taken_by c.args.kind (mode_coefficient_at m row c.args.change.now.state c.args.at.now.discretes.now) *ℤ (new -ℤ old) = c.sum_difference.ensures.value in
    let here : IsSumAfterLevelChange c.args.kind m c.args.change.now.state old new c.args.at.now.discretes.now c.args.sums.now row value =
    (is ∙ ap (λ z. z +ℤ c.sum_difference.result) same ∙ ap (λ z. int_at c.args.sums.now row +ℤ z) own, omega (arith, ints, is, same, bound)) in
    record {
      written = written_more (pos 0) (IsSumAfterLevelChange c.args.kind m c.args.change.now.state old new c.args.at.now.discretes.now c.args.sums.now) rows c.args.sums.now c.loop-place.sums i value c.loop-place-test.true inside inv.written here;
      as_many = length-set c.loop-place.sums row value ∙ inv.as_many;
      known = inv.known;
    }

pub returns : goal.returns
returns c =
    let m = c.args.at.now.machine.now in
    let rows : List ℕ = c.rows_of-rows.result.now in
    subst
    (λ (read : List ℕ).
    IsWritten (pos 0)
    (IsSumAfterLevelChange c.args.kind m c.args.change.now.state c.args.change.now.old
    c.args.change.now.new c.args.at.now.discretes.now c.args.sums.now) read c.args.sums.now
    c.loop-place.sums)
    (rows_are (goal.at.returns c).After-coefficients_of-coefficients)
    (written_all (pos 0)
    (IsSumAfterLevelChange c.args.kind m c.args.change.now.state c.args.change.now.old
    c.args.change.now.new c.args.at.now.discretes.now c.args.sums.now) rows c.args.sums.now
    c.loop-place.sums c.loop-place.place c.loop-place-test.false c.loop-place.invariant.written)
