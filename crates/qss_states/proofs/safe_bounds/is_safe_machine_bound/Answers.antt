-- One more row allows the bound, or the first one that does not.
use Rattle.qss_states.proofs.Common
use Common.{ℕ, ◌+◌, ◌<◌, ◌≡◌, AllowsBound, ap, arith, cases_lt, discrete_count, get_or}
use Common.{get_or_default, inl, inr, IsRow, length, List, Machine, refl, SlopeRow, state_count}
use Common.{subst, sym}
use Rattle.qss_machine.proofs.Few.{entries_few}
use Rattle.qss_states.proofs.safe_bounds.is_safe_machine_bound.Goals as goal

-- a row of a machine is within the limits
row_is : (m : Machine) (rows : List SlopeRow) (i : ℕ) (row : SlopeRow) → rows ≡ m.rows → i < length rows → row ≡ get_or rows i row → IsRow (state_count m) (discrete_count m) row
row_is m rows i row same h is =
    subst (IsRow (state_count m) (discrete_count m)) (sym is)
    (subst (λ (all : List SlopeRow). IsRow (state_count m) (discrete_count m) (get_or all i row)) (sym same) (m.has_rows.each i row (omega (arith, h, ap length same))))

pub is_safe_row_bound-requires-clause-count_limit : goal.is_safe_row_bound-requires-clause-count_limit
is_safe_row_bound-requires-clause-count_limit c =
    let m = c.args.m.now in
    let row : SlopeRow = c.row-item.result in
    let is = row_is m c.as_slice-row-items.result.now c.loop-row.row-index row c.as_slice-row-items.ensures c.loop-row-test.true c.row-item.is in
    omega (arith, m.has_variables.few, entries_few (state_count m + discrete_count m) row.entries is.entries)

pub is_safe_row_bound-requires-clause-size_limit : goal.is_safe_row_bound-requires-clause-size_limit
is_safe_row_bound-requires-clause-size_limit c =
    (row_is c.args.m.now c.as_slice-row-items.result.now c.loop-row.row-index c.row-item.result c.as_slice-row-items.ensures c.loop-row-test.true c.row-item.is).coefficients

pub is_safe_row_bound-requires-clause-factors : goal.is_safe_row_bound-requires-clause-factors
is_safe_row_bound-requires-clause-factors c =
    (row_is c.args.m.now c.as_slice-row-items.result.now c.loop-row.row-index c.row-item.result c.as_slice-row-items.ensures c.loop-row-test.true c.row-item.is).factors

pub is_safe_row_bound-requires-clause-bits : goal.is_safe_row_bound-requires-clause-bits
is_safe_row_bound-requires-clause-bits c = c.args.m.now.has_units.level_bits

pub loop-row-preserved : goal.loop-row-preserved
loop-row-preserved c k none h =
    let m = c.args.m.now in
    let i : ℕ = c.loop-row.row-index in
    let row : SlopeRow = c.row-item.result in
    let has : AllowsBound m.f c.args.bound row = c.is_safe_row_bound.ensures.0 c.if-not-is_safe_row_bound.false in
    let inside : i < length m.rows = omega (arith, c.loop-row-test.true, ap length c.as_slice-row-items.ensures) in
    let is : row ≡ get_or m.rows i row = subst (λ (all : List SlopeRow). row ≡ get_or all i row) c.as_slice-row-items.ensures c.row-item.is in
    elim (cases_lt k i) [
      | inl before ↦ c.loop-row.invariant k none before
      | inr behind ↦
          let same : i ≡ k = omega (arith, behind, h) in
          subst (λ (at : ℕ). AllowsBound m.f c.args.bound (get_or m.rows at none)) same
          (subst (AllowsBound m.f c.args.bound) (get_or_default m.rows i row none inside) (subst (AllowsBound m.f c.args.bound) is has))
    ]

pub returns-then-not-is_safe_row_bound : goal.returns-then-not-is_safe_row_bound
returns-then-not-is_safe_row_bound c =
    let m = c.args.m.now in
    let i : ℕ = c.loop-row.row-index in
    let row : SlopeRow = c.row-item.result in
    let inside : i < length m.rows = omega (arith, c.loop-row-test.true, ap length c.as_slice-row-items.ensures) in
    let is : row ≡ get_or m.rows i row = subst (λ (all : List SlopeRow). row ≡ get_or all i row) c.as_slice-row-items.ensures c.row-item.is in (
      λ e. absurd (cc),
      λ all. absurd (let yes = c.is_safe_row_bound.ensures.1 (subst (AllowsBound m.f c.args.bound) (sym is) (all i row inside)) in let no = c.if-not-is_safe_row_bound.true in cc),
    )

pub returns : goal.returns
returns c = (
  λ e k none h. c.loop-row.invariant k none (omega (arith, h, c.loop-row-test.false, ap length c.as_slice-row-items.ensures)),
  λ all. refl,
)
