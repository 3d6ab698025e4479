-- The limits are checked in their order.
use Rattle.qss_order2.proofs.Common
use Common.{ℕ, ℤ, ◌<◌, ◌∙◌, ◌≡◌, ◌≤ℤ◌, abs_of, All, ap, AreQuiet, arith, cases_Bool, Err, false}
use Common.{inl, inr, int_at, is_listed, IsRuleApplied, IsRuled2, length, levels_on, List, None}
use Common.{not, overflow_of, past_levels, rise_at, rules, state_count, Store, subst, sym, true}
use Rattle.qss_order2.proofs.order2_events.apply_rule_at_event.Goals.{After-apply_slope_rule}
use Rattle.qss_order2.proofs.Tables.{by_false}
use Rattle.qss_order2.proofs.BoundedLines.{same_bound}
use Rattle.qss_order2.proofs.Settled.{is_past_limit, is_rule_applied, window_reads, rise_bounded}
use Rattle.qss_order2.proofs.Settled.{flat_after, bounded_flat, exact}
use Rattle.qss_order2.proofs.Settlings.{of_changes}
use Rattle.qss_order2.specs.Stores.{levels_of}
use Rattle.qss_order2.proofs.order2_events.apply_rule_at_event.Goals as goal
use Rattle.qss_order2.proofs.order2_events.apply_rule_at_event.Given as given

pub returns-in_err-check_event_levels-clause-applied : goal.returns-in_err-check_event_levels-clause-applied
returns-in_err-check_event_levels-clause-applied g c =
    let m = c.args.f.now.machine in
    let s = c.args.s.now in
    let over = c.in_err-check_event_levels.field-0.0 in
    let given : c.from_residual.result ≡ Err over = search rules in
    rw (ap (λ (t : Store). t.motion) c.check_event_levels.ensures.same)
    (is_past_limit c.args.rule.now.nearest m s.left.items s.affected.places (levels_of m s.motion
    c.args.tick) s.motion (overflow_of c.from_residual.result) over.var (ap overflow_of given)
    (ap overflow_of given ∙ ap overflow_of (sym c.in_err-check_event_levels.was)
    ∙ c.check_event_levels.ensures.past))

pub returns-in_err-check_event_levels-clause-unbounded : goal.returns-in_err-check_event_levels-clause-unbounded
returns-in_err-check_event_levels-clause-unbounded g c none =
    let given : c.from_residual.result ≡ Err c.in_err-check_event_levels.field-0.0 = search rules in
    absurd (cc (ap overflow_of given, none))

pub apply_slope_rule-requires-clause-within : goal.apply_slope_rule-requires-clause-within
apply_slope_rule-requires-clause-within g c =
    rw (ap (λ (t : Store). t.motion) c.check_event_levels.ensures.same)
    (sym c.check_event_levels.ensures.past ∙ ap overflow_of c.in_ok-check_event_levels.was)

-- the levels exceed no limit
within : (g : given.Over) (c : After-apply_slope_rule g) → past_levels c.args.f.now.machine
    (levels_of c.args.f.now.machine c.check_event_levels.new.s.motion c.args.tick) ≡ None
within g c =
    rw (ap (λ (t : Store). t.motion) c.check_event_levels.ensures.same)
    (sym c.check_event_levels.ensures.past ∙ ap overflow_of c.in_ok-check_event_levels.was)

pub apply_slope_rule-requires-clause-left : goal.apply_slope_rule-requires-clause-left
apply_slope_rule-requires-clause-left g c = subst (λ (l : List ℕ).
    All (λ j. j < state_count c.args.f.now.machine) l) (sym c.deref.ensures.value)
    c.check_event_levels.ensures.can_apply.numbers.below

pub apply_slope_rule-requires-clause-risen : goal.apply_slope_rule-requires-clause-risen
apply_slope_rule-requires-clause-risen g c j e =
    let m = c.args.f.now.machine in
    let n = state_count m in
    let s1 = c.check_event_levels.new.s in
    let can_apply = c.check_event_levels.ensures.can_apply in
    let levels = levels_on n s1.motion.places.items s1.motion.changes.items c.args.tick in
    let t : is_listed s1.affected.places j ≡ true =
    can_apply.own j (ap (λ (l : List ℕ). is_listed l j) (sym c.deref.ensures.value) ∙ e) in
    let h : j < n = (can_apply.here j t).0 in
    exact (int_at s1.motion.rises.items j) (rise_at m j levels) (can_apply.risen j h t)
    (rise_bounded m levels (apply_slope_rule-requires-clause-within g c) j h)

pub apply_slope_rule-requires-clause-bends : goal.apply_slope_rule-requires-clause-bends
apply_slope_rule-requires-clause-bends g c = c.check_event_levels.ensures.can_apply.bends

pub apply_slope_rule-requires-clause-held : goal.apply_slope_rule-requires-clause-held
apply_slope_rule-requires-clause-held g c = c.check_event_levels.ensures.can_apply.held

pub is_line_limit_needed-s-requires-clause-list : goal.is_line_limit_needed-s-requires-clause-list
is_line_limit_needed-s-requires-clause-list g c =
    rw (c.deref-2.ensures.value, c.apply_slope_rule.ensures.lists.places)
    c.check_event_levels.ensures.can_apply.numbers.below

pub is_line_limit_needed-s-requires-clause-reads : goal.is_line_limit_needed-s-requires-clause-reads
is_line_limit_needed-s-requires-clause-reads g c =
    let s1 = c.check_event_levels.new.s in
    let can_apply = c.check_event_levels.ensures.can_apply in
    let applied = c.apply_slope_rule.ensures.applied in
    rw (c.apply_slope_rule.ensures.lists.places, applied.places)
    (window_reads c.args.f.now.machine c.args.tick s1.window s1.motion.places.items
    s1.motion.changes.items c.apply_slope_rule.new.q.changes.items can_apply.reads
    (within g (goal.at.is_line_limit_needed-s-requires-clause-reads g c).After-apply_slope_rule)
    can_apply.in_window can_apply.near c.apply_slope_rule.ensures.lists.changes applied.held)

-- the level slopes of the states that did not leave stay
pub check_level_slopes-requires-clause-list : goal.check_level_slopes-requires-clause-list
check_level_slopes-requires-clause-list g c k d h = omega (
  arith,
  c.places.ensures.below k d h,
  c.check_event_levels.ensures.fits.affected,
)

pub check_level_slopes-requires-clause-flat : goal.check_level_slopes-requires-clause-flat
check_level_slopes-requires-clause-flat g c j h not =
    let m = c.args.f.now.machine in
    let s1 = c.check_event_levels.new.s in
    let q2 = c.apply_slope_rule.new.q in
    let can_apply = c.check_event_levels.ensures.can_apply in
    let applied = c.apply_slope_rule.ensures.applied in
    let left : List ℕ = c.deref.result.now in
    let affected : List ℕ = c.places.result.now in
    let new : List ℤ = c.deref-3.result.now in
    let quiet : AreQuiet m (is_listed left) (is_listed affected) =
    rw (c.deref.ensures.value, c.places.ensures.places) can_apply.quiet in
    let kept : (i : ℕ) → i < state_count m → is_listed left i ≡ false →
    int_at new i ≡ int_at s1.motion.changes.items i = λ i k stays.
    ap (λ (xs : List ℤ). int_at xs i) c.deref-3.ensures.value ∙ by_false (is_listed left i)
    _ _ stays (applied.are_changes.each i k) in
    flat_after m left affected s1.motion.changes.items new quiet kept j h not (can_apply.flat j h)

pub check_level_slopes-requires-clause-bounded : goal.check_level_slopes-requires-clause-bounded
check_level_slopes-requires-clause-bounded g c is_bounded j h =
    let m = c.args.f.now.machine in
    let n = state_count m in
    let s1 = c.check_event_levels.new.s in
    let q2 = c.apply_slope_rule.new.q in
    let applied = c.apply_slope_rule.ensures.applied in
    let left : List ℕ = c.deref.result.now in
    let new : List ℤ = c.deref-3.result.now in
    let fresh = c.is_line_limit_needed-s.ensures.bounded is_bounded in
    let before = c.check_event_levels.ensures.can_apply.bounded_slopes
    (c.is_line_limit_needed-s.ensures.was is_bounded) in
    let bounds : before.0 ≡ fresh.0 = same_bound before.0 fresh.0 (sym before.1 ∙ fresh.1) in
    let small : (i : ℕ) → i < n → abs_of (int_at new i) ≤ℤ fresh.0 = λ i k.
    subst (λ (xs : List ℤ). abs_of (int_at xs i) ≤ℤ fresh.0) (sym c.deref-3.ensures.value)
    (elim (cases_Bool (is_listed left i)) [
      | inl leaves ↦ (fresh.2 i (ap (λ (l : List ℕ). is_listed l i) (c.deref-2.ensures.value
          ∙ sym c.deref.ensures.value) ∙ leaves)).slope
      | inr stays ↦
          subst (λ z. abs_of z ≤ℤ fresh.0) (sym (by_false (is_listed left i) _ _ stays
          (applied.are_changes.each i k)))
          (subst (λ b. abs_of (int_at s1.motion.changes.items i) ≤ℤ b) bounds (before.2 i k))
    ]) in
    bounded_flat m fresh.0 (c.check_event_levels.ensures.fits.safe_bound fresh.0 fresh.1).1 new
    (ap length c.deref-3.ensures.value ∙ c.apply_slope_rule.ensures.lists.changes) small j h

pub returns-clause-applied : goal.returns-clause-applied
returns-clause-applied g c =
    let m = c.args.f.now.machine in
    let nearest = c.args.rule.now.nearest in
    let s1 = c.check_event_levels.new.s in
    let over = overflow_of c.check_level_slopes.result in
    subst (λ (t : Store). IsRuleApplied (IsRuled2 nearest) m t.left.items t.affected.places
    (levels_of m t.motion c.args.tick) t.motion c.apply_slope_rule.new.q over)
    c.check_event_levels.ensures.same (is_rule_applied nearest m s1.left.items s1.affected.places
    (levels_of m s1.motion c.args.tick) s1.motion c.apply_slope_rule.new.q over
    (rw c.deref.ensures.value at c.apply_slope_rule.ensures.applied)
    (within g (goal.at.returns-clause-applied g c).After-apply_slope_rule)
    (c.check_level_slopes.ensures ∙ ap (of_changes m) c.deref-3.ensures.value)
    c.check_event_levels.ensures.can_apply.risen)
