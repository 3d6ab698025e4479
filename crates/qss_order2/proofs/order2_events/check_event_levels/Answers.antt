-- Levels within the bound exceed no limit.
use Rattle.qss_order2.proofs.Common
use Common.{ℕ, ℤ, ◌<◌, ◌∙◌, ◌≡◌, ◌≤ℤ◌, abs_of, All, ap, arith, CanRead, cases_Bool, false, inl, inr}
use Common.{int_at, is_listed, level_on, levels_on, List, past_levels, place_in, rules, state_count}
use Common.{subst, sym, with_items_is}
use Rattle.qss_order2.proofs.BoundedLines.{same_bound}
use Rattle.qss_order2.proofs.Motions.{at_levels, many_levels, here_level}
use Rattle.qss_order2.proofs.order2_events.check_event_levels.Goals as goal

pub is_limit_check_needed-s-requires : goal.is_limit_check_needed-s-requires
is_limit_check_needed-s-requires c k d h =
    let left = c.requires.can_apply.numbers.below in
    omega (
      arith,
      subst (λ (l : List ℕ). All (λ j. j < state_count c.args.f.now.machine) l)
          (sym c.deref.ensures.value) left k d h,
      c.requires.fits.lists.places,
    )

pub returns-then-not-s-clause-past : goal.returns-then-not-s-clause-past
returns-then-not-s-clause-past c =
    let m = c.args.f.now.machine in
    let n = state_count m in
    let s = c.args.s.now in
    let q = s.motion in
    let tick = c.args.tick in
    let can_apply = c.requires.can_apply in
    let levels : List ℤ = levels_on n q.places.items q.changes.items tick in
    let is_bounded : c.is_limit_check_needed-s.result ≡ false = search (rules, c.if-not-s.true) in
    let fresh = c.is_limit_check_needed-s.ensures.bounded is_bounded in
    let before = can_apply.bounded (c.is_limit_check_needed-s.ensures.was is_bounded) in
    let bounds : before.0 ≡ fresh.0 = same_bound before.0 fresh.0 (sym before.1 ∙ fresh.1) in
    let bound : ℤ = fresh.0 in
    let small : (j : ℕ) → j < n → abs_of (int_at levels j) ≤ℤ bound = λ j h.
    subst (λ z. abs_of z ≤ℤ bound) (sym (at_levels n q.places.items q.changes.items tick j h))
    (elim (cases_Bool (is_listed s.left.items j)) [
      | inl leaves ↦
          let since = (can_apply.here j (can_apply.own j leaves)).1 in
          subst (λ z. abs_of z ≤ℤ bound) (sym (here_level (place_in q.places.items j)
          (int_at q.changes.items j) tick since))
          (fresh.2 j (ap (λ (l : List ℕ). is_listed l j) c.deref.ensures.value ∙ leaves))
      | inr stays ↦ subst (λ b. abs_of (level_on (place_in q.places.items j)
          (int_at q.changes.items j) tick) ≤ℤ b) bounds (before.2 j h stays)
    ]) in
    sym ((c.requires.fits.safe_bound bound fresh.1).1 levels
    (many_levels n q.places.items q.changes.items tick) small)

pub list_levels-requires-clause-reads : goal.list_levels-requires-clause-reads
list_levels-requires-clause-reads c =
    let q = c.args.s.now.motion in
    subst (λ n. CanRead n c.args.tick q.places.items q.changes.items)
    (sym c.requires.fits.lists.places) c.requires.can_apply.reads

pub returns-clause-past : goal.returns-clause-past
returns-clause-past c =
    let m = c.args.f.now.machine in
    let s = c.args.s.now in
    let q = s.motion in
    let ls : List ℤ = c.list_levels.new.levels in
    c.check_levels.ensures
    ∙ ap (past_levels m) (c.deref-2.ensures.value
    ∙ with_items_is s.levels ls (c.list_levels.auto.levels ∙ c.deref_mut.ensures.len)
    ∙ c.list_levels.ensures
    ∙ ap (λ n. levels_on n q.places.items q.changes.items c.args.tick) c.requires.fits.lists.places)
