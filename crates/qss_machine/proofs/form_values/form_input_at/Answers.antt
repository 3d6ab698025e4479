use Rattle.qss_machine.proofs.Common
use Common.{ℕ, ℤ, ◌*ℤ◌, ◌++◌, ◌-◌, ◌<◌, ◌^◌, ◌∙◌, ◌≡◌, ◌≤◌, All-get_or, arith, FitsSigned, get_or}
use Common.{get_or-map, get_or_append_left, ints, IsWithin, length, length-map, List, map, pos, sym}
use Common.{to_z-of_z, w128, w64}
use Rattle.std.proofs.Math.Seq.{get_or-append_right}
use Rattle.qss_machine.proofs.Loops.{fits_below}
use Rattle.qss_machine.proofs.form_values.form_input_at.Goals as goal

-- a place of three lists, one after the other, the last two of them in another unit
module _ (unit : ℤ) (states discretes before : List ℤ) (k : ℕ) (past : length states ≤ k) where
  at_discrete : k - length states < length discretes →
      get_or (states ++ (map (λ d. d *ℤ unit) discretes ++ map (λ d. d *ℤ unit) before)) k (pos 0) ≡ get_or discretes (k - length states) (pos 0) *ℤ unit
  at_discrete within =
      get_or-append_right states (map (λ d. d *ℤ unit) discretes ++ map (λ d. d *ℤ unit) before) k (pos 0) past
      ∙ get_or_append_left (map (λ d. d *ℤ unit) discretes) (map (λ d. d *ℤ unit) before) (pos 0) (k - length states) (rw length-map within)
      ∙ get_or-map (λ d. d *ℤ unit) discretes (k - length states) (pos 0) (pos 0) within

  at_before : length discretes ≤ k - length states → k - length states - length discretes < length before →
      get_or (states ++ (map (λ d. d *ℤ unit) discretes ++ map (λ d. d *ℤ unit) before)) k (pos 0) ≡ get_or before (k - length states - length discretes) (pos 0) *ℤ unit
  at_before later within =
      get_or-append_right states (map (λ d. d *ℤ unit) discretes ++ map (λ d. d *ℤ unit) before) k (pos 0) past
      ∙ get_or-append_right (map (λ d. d *ℤ unit) discretes) (map (λ d. d *ℤ unit) before) (k - length states) (pos 0) (rw length-map later)
      ∙ rw length-map (get_or-map (λ d. d *ℤ unit) before (k - length states - length discretes) (pos 0) (pos 0) within)

pub returns-then-var-states-clause-value : goal.returns-then-var-states-clause-value
returns-then-var-states-clause-value c =
    let x : ℤ = get_or c.args.states.now c.args.var (pos 0) in
    let small : IsWithin 88 x = All-get_or (IsWithin 88) c.args.states.now c.args.var (pos 0) c.if-var-states.true c.requires.states in
    to_z-of_z w128 x (fits_below x (omega (arith, small))) ∙ sym (get_or_append_left c.args.states.now _ (pos 0) c.args.var c.if-var-states.true)

pub returns-then-past_states-discretes-clause-value : goal.returns-then-past_states-discretes-clause-value
returns-then-past_states-discretes-clause-value c =
    let k : ℕ = c.args.var - length c.args.states.now in
    let x : ℤ = get_or c.args.discretes.now k (pos 0) in
    let small : IsWithin 43 x = All-get_or (IsWithin 43) c.args.discretes.now k (pos 0) c.if-past_states-discretes.true c.requires.discretes in
    let narrow : FitsSigned w64 x = omega (arith, ints, small) in
    let fits : FitsSigned w128 c.scale_discrete_value.result = record { sfits = c.scale_discrete_value.type_inv } in
    to_z-of_z w128 c.scale_discrete_value.result fits ∙ (rw (to_z-of_z w64 x narrow) at c.scale_discrete_value.ensures.value)
    ∙ sym (at_discrete (pos (2 ^ c.args.unit_bits)) c.args.states.now c.args.discretes.now c.args.before.now c.args.var c.if-var-states.false c.if-past_states-discretes.true)

pub returns-then-past_discretes-before-clause-value : goal.returns-then-past_discretes-before-clause-value
returns-then-past_discretes-before-clause-value c =
    let k : ℕ = c.args.var - length c.args.states.now - length c.args.discretes.now in
    let x : ℤ = get_or c.args.before.now k (pos 0) in
    let small : IsWithin 43 x = All-get_or (IsWithin 43) c.args.before.now k (pos 0) c.if-past_discretes-before.true c.requires.before in
    let narrow : FitsSigned w64 x = omega (arith, ints, small) in
    let fits : FitsSigned w128 c.scale_discrete_value-then-past_discretes-before.result = record { sfits = c.scale_discrete_value-then-past_discretes-before.type_inv } in
    to_z-of_z w128 c.scale_discrete_value-then-past_discretes-before.result fits ∙ (rw (to_z-of_z w64 x narrow) at c.scale_discrete_value-then-past_discretes-before.ensures.value)
    ∙ sym (at_before (pos (2 ^ c.args.unit_bits)) c.args.states.now c.args.discretes.now c.args.before.now c.args.var c.if-var-states.false c.if-past_states-discretes.false c.if-past_discretes-before.true)
