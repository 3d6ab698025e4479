use Rattle.cert_check.proofs.Common
use Common.{*ℤ-zero, ℕ, ℤ, ◌*ℤ◌, ◌*◌, ◌+ℤ◌, ◌-◌, ◌<◌, ◌^◌, ◌∙◌, ◌≡◌, ◌≤◌, ap, arith, discrete_count}
use Common.{Entry, fits_below, get_or, int_at, ints, IsRow, length, List, Machine, of_z, pos}
use Common.{SlopeRow, start_discretes, state_count, sum_step, sym, to_z, w64}
use Rattle.std.proofs.lemmas.Int.{to_z-of_z}
use Rattle.std.specs.Int.RustNames.{unsigned_abs, FitsSigned}
use Rattle.qss_machine.proofs.Loops.{sum_done}
use Rattle.cert_check.proofs.StartRows.{term_of, state-value, discrete-value, constant-is}
use Rattle.cert_check.proofs.StartRows.{next-fits, sum-skips, few-entries}
use mir.Syntax.{w128}
use Rattle.cert_check.proofs.start_rows.slope_at_zero_levels.Goals as goal

abbrev none : Entry
none = record { var = 0; coef = pos 0 }

-- the sum of the entries and the constant fits
total-fits : (m : Machine) (row : SlopeRow) (i : ℕ) (sum : ℤ) →
    IsRow (state_count m) (discrete_count m) row → i ≤ length row.entries →
    unsigned_abs sum ≤ i * 2 ^ 87 →
    (FitsSigned w128 (sum +ℤ to_z w128 (of_z w128 row.beta)))
    × (to_z w128 (of_z w128 (sum +ℤ to_z w128 (of_z w128 row.beta))) ≡ sum +ℤ row.beta)
total-fits m row i sum is most bound =
    let few = few-entries m row is in
    let small : unsigned_abs row.beta ≤ 2 ^ 78 = is.constant in
    let own : FitsSigned w128 row.beta = fits_below row.beta (omega (arith, small)) in
    let total : FitsSigned w128 (sum +ℤ row.beta) =
    fits_below (sum +ℤ row.beta) (omega (arith, ints, bound, most, few, small)) in (
      rw (to_z-of_z w128 row.beta own) total,
      rw (to_z-of_z w128 row.beta own) (to_z-of_z w128 (sum +ℤ row.beta) total),
    )

pub loop-entry-preserved-then-entry-states : goal.loop-entry-preserved-then-entry-states
loop-entry-preserved-then-entry-states c =
    let m : Machine = c.args.m.now in
    let entries : List Entry = c.args.row.now.entries in
    let i : ℕ = c.loop-entry.entry-index in
    let same : c.as_slice-entry-items.result.now ≡ entries = c.as_slice-entry-items.ensures in
    let within : i < length entries = omega (arith, c.loop-entry-test.true, ap length same) in
    let state : (get_or entries i none).var < state_count m =
    rw (same, c.as_slice-states.ensures) at c.if-entry-states.true in
    let entry : Entry = get_or entries i none in
    let zero = ap (λ z. entry.coef *ℤ z) (state-value m entry.var state) ∙ *ℤ-zero entry.coef in
    record {
      so_far = sum-skips (term_of m) entries i none (to_z w128 c.loop-entry.sum-bits)
          c.loop-entry.invariant.so_far zero within;
      bound = omega (arith, c.loop-entry.invariant.bound);
    }

pub overflow_add-sum : goal.overflow_add-sum
overflow_add-sum c =
    let entries : List Entry = c.args.row.now.entries in
    let few = few-entries c.args.m.now c.args.row.now c.requires in
    let same : c.as_slice-entry-items.result.now ≡ entries = c.as_slice-entry-items.ensures in
    let within : c.loop-entry.entry-index < length entries =
    omega (arith, c.loop-entry-test.true, ap length same) in
    next-fits (to_z w128 c.loop-entry.sum-bits) c.start_term-sum.result c.loop-entry.entry-index
    (length entries) (2 ^ 87) c.loop-entry.invariant.bound c.start_term-sum.ensures.bound within
    (omega (arith, few))

pub loop-entry-preserved : goal.loop-entry-preserved
loop-entry-preserved c =
    let m : Machine = c.args.m.now in
    let entries : List Entry = c.args.row.now.entries in
    let i : ℕ = c.loop-entry.entry-index in
    let few = few-entries m c.args.row.now c.requires in
    let same : c.as_slice-entry-items.result.now ≡ entries = c.as_slice-entry-items.ensures in
    let within : i < length entries = omega (arith, c.loop-entry-test.true, ap length same) in
    let entry : Entry = get_or entries i none in
    let discrete : state_count m ≤ (get_or entries i none).var =
    rw (same, c.as_slice-states.ensures) at c.if-entry-states.false in
    let small : unsigned_abs (get_or entries i none).coef ≤ 2 ^ 44 =
    c.requires.coefficients i none within in
    let coef : FitsSigned w64 (get_or entries i none).coef = omega (arith, ints, small) in
    let value : c.start_term-sum.result ≡
    entry.coef *ℤ int_at (start_discretes m) (entry.var - state_count m) =
    rw (same, to_z-of_z w64 (get_or entries i none).coef coef) at c.start_term-sum.ensures.value in
    let turn = sum_step (term_of m) entries i none (to_z w128 c.loop-entry.sum-bits)
    c.start_term-sum.result (2 ^ 87) c.loop-entry.invariant.so_far c.loop-entry.invariant.bound
    (value ∙ ap (λ z. entry.coef *ℤ z) (sym (discrete-value m entry.var discrete)))
    c.start_term-sum.ensures.bound within (omega (arith, few)) in
    record { so_far = turn.0; bound = turn.1 }

pub overflow_add-result : goal.overflow_add-result
overflow_add-result c =
    let same = ap length c.as_slice-entry-items.ensures in
    let most : c.loop-entry.entry-index ≤ length c.args.row.now.entries =
    omega (arith, c.loop-entry.auto.entry-index-end, same) in
    (total-fits c.args.m.now c.args.row.now c.loop-entry.entry-index
    (to_z w128 c.loop-entry.sum-bits) c.requires most c.loop-entry.invariant.bound).0

pub returns : goal.returns
returns c =
    let m : Machine = c.args.m.now in
    let entries : List Entry = c.args.row.now.entries in
    let i : ℕ = c.loop-entry.entry-index in
    let sum : ℤ = to_z w128 c.loop-entry.sum-bits in
    let same = ap length c.as_slice-entry-items.ensures in
    let most : i ≤ length entries = omega (arith, c.loop-entry.auto.entry-index-end, same) in
    let all : length entries ≤ i = omega (arith, c.loop-entry-test.false, same) in
    let done = sum_done (term_of m) entries i sum c.loop-entry.invariant.so_far all in
    (total-fits m c.args.row.now i sum c.requires most c.loop-entry.invariant.bound).1
    ∙ ap (λ z. z +ℤ c.args.row.now.beta) done ∙ constant-is m c.args.row.now
