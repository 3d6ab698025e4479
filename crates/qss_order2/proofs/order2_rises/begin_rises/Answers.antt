-- At the start the rule may be applied before the limits are checked.
use Rattle.qss_order2.proofs.Common
use Common.{[], ℕ, ℤ, ◌<◌, ◌∙◌, ◌≡◌, ap, AreChanges, arith, bend_at, Bool, CanRead, Err}
use Common.{fill_by_all, fine_levels, int_at, is_listed, IsAnswer, IsRuled2, IsWithin, IsWritten}
use Common.{length, length-map-range_with_len, level_unit, levels_on, List, Machine, None, not}
use Common.{overflow_of, past_levels, pos, refl, rise_at, rules, Some, state_count, subst, sym}
use Common.{tabulate, true, with_items, with_items_is}
use Rattle.qss_order2.proofs.order2_rises.begin_rises.Goals.{After-list_levels}
use Rattle.qss_order2.proofs.order2_rises.begin_rises.Goals.{After-set_rise_changes}
use Rattle.qss_order2.proofs.Motions.{many_levels}
use Rattle.qss_order2.proofs.Settled.{listed_below, rise_bounded, listed_changes}
use Rattle.qss_order2.proofs.Settlings.{of_changes, past_first, past_then}
use Rattle.qss_order2.proofs.Sizes.{start_level_small, start_rise_small}
use Rattle.qss_order2.proofs.Starts.{asked_all, held_first}
use Rattle.qss_order2.proofs.Tables.{all_of}
use Rattle.qss_order2.proofs.order2_rises.begin_rises.Goals as goal
use Rattle.qss_order2.proofs.order2_rises.begin_rises.Given as given

-- the rule was applied to the slopes of all states
start_changes : (nearest : Bool) (m : Machine) (all : List ℕ) (rises old new : List ℤ) →
    ((j : ℕ) → j < state_count m → is_listed all j ≡ true) → length old ≡ state_count m →
    ((j : ℕ) → j < state_count m → is_listed all j ≡ true →
    int_at rises j ≡ rise_at m j (fine_levels m)) →
    IsWritten (pos 0) (λ j z. IsAnswer nearest (int_at rises j) (level_unit m) z) all old new →
    AreChanges (IsRuled2 nearest) m (λ j. true) (fine_levels m) [] new
start_changes nearest m all rises old new each many own written =
    asked_all (IsRuled2 nearest) m (is_listed all) (fine_levels m) old new each
    (listed_changes nearest m all (fine_levels m) rises old new many own written)

pub list_levels-requires-clause-reads : goal.list_levels-requires-clause-reads
list_levels-requires-clause-reads g c =
    let q = c.args.q.now in
    let here = c.requires.here in
    let reads : CanRead (state_count c.args.f.now.machine) 0 q.places.items q.changes.items = record {
      as_many_changes = c.requires.lists.changes;
      past = λ j h. omega (arith, here j h);
      near = λ j h. omega arith;
      small = λ j h before. absurd (omega (arith, before));
      small_changes = λ j h before. absurd (omega (arith, before));
    } in
    subst (λ n. CanRead n 0 q.places.items q.changes.items) (sym c.requires.lists.places) reads

-- the levels are those of the start
at_start : (g : given.Over) (c : After-list_levels g) → c.list_levels.new.levels ≡ fine_levels
    c.args.f.now.machine
at_start g c = c.list_levels.ensures ∙ ap (λ k. levels_on k c.args.q.now.places.items
    c.args.q.now.changes.items 0) c.requires.lists.places ∙ c.requires.start

pub set_rises-requires-clause-size_limit : goal.set_rises-requires-clause-size_limit
set_rises-requires-clause-size_limit g c =
    let m = c.args.f.now.machine in
    let n = state_count m in
    let q = c.args.q.now in
    rw (at_start g (goal.at.set_rises-requires-clause-size_limit g c).After-list_levels) (all_of
    (IsWithin 50) (fine_levels m) n
    (sym (ap length c.requires.start) ∙ many_levels n q.places.items q.changes.items 0)
    (λ k h. start_level_small m k h))

pub set_rise_changes-requires-clause-size_limit : goal.set_rise_changes-requires-clause-size_limit
set_rise_changes-requires-clause-size_limit g c j e =
    let m = c.args.f.now.machine in
    let rises : c.deref.result.now ≡ c.set_rises.new.rises = c.deref.ensures.value
    ∙ with_items_is c.args.q.now.rises c.set_rises.new.rises (c.set_rises.auto.rises
    ∙ c.deref_mut.ensures.len) in
    rw (
      rises,
      c.set_rises.ensures.each j e,
      at_start g
          (goal.at.set_rise_changes-requires-clause-size_limit g c).After-list_levels,
    )
    (start_rise_small m j (listed_below (state_count m) c.args.all.now c.requires.all j e))

pub bend-requires-clause-flat : goal.bend-requires-clause-flat
bend-requires-clause-flat g c j h not = absurd (cc (c.requires.each j h, not))

-- slopes and level slopes before the limits are checked
record IsBegun (g : given.Over) (c : After-set_rise_changes g) : Type 0 where
  pub levels : c.list_levels.new.levels ≡ fine_levels c.args.f.now.machine
  pub many_changes : length (with_items c.args.q.now.changes c.set_rise_changes.new.changes).items ≡
      state_count c.args.f.now.machine
  pub rises : (with_items c.args.q.now.rises c.set_rises.new.rises).items ≡ tabulate (state_count
      c.args.f.now.machine) (λ j. rise_at c.args.f.now.machine j (fine_levels
      c.args.f.now.machine))
  pub changes : AreChanges (IsRuled2 c.args.rule.now.nearest) c.args.f.now.machine (λ j. true)
      (fine_levels c.args.f.now.machine) [] (with_items c.args.q.now.changes
      c.set_rise_changes.new.changes).items

begun : (g : given.Over) (c : After-set_rise_changes g) → IsBegun g c
begun g c =
    let m = c.args.f.now.machine in
    let n = state_count m in
    let q = c.args.q.now in
    let rs : List ℤ = c.set_rises.new.rises in
    let cs : List ℤ = c.set_rise_changes.new.changes in
    let levels : c.list_levels.new.levels ≡ fine_levels m = c.list_levels.ensures
    ∙ ap (λ k. levels_on k q.places.items q.changes.items 0) c.requires.lists.places
    ∙ c.requires.start in
    let risen : (with_items q.rises rs).items ≡ rs =
    with_items_is q.rises rs (c.set_rises.auto.rises ∙ c.deref_mut.ensures.len) in
    let taken : (with_items q.changes cs).items ≡ cs =
    with_items_is q.changes cs (c.set_rise_changes.auto.changes ∙ c.deref_mut-2.ensures.len) in
    let written = rw (c.deref_mut-2.ensures.value, sym taken) at c.set_rise_changes.ensures in
    let rise : (j : ℕ) → is_listed c.args.all.now j ≡ true →
    int_at rs j ≡ rise_at m j (fine_levels m) = λ j e.
    c.set_rises.ensures.each j e ∙ ap (rise_at m j) levels in
    record {
      levels = levels;
      many_changes = ap length taken ∙ c.set_rise_changes.auto.changes
          ∙ ap length c.deref_mut-2.ensures.value ∙ c.requires.lists.changes;
      rises = risen ∙ fill_by_all (λ j. rise_at m j (fine_levels m)) rs n (pos 0)
          (c.set_rises.auto.rises ∙ ap length c.deref_mut.ensures.value ∙ c.requires.lists.rises)
          (λ j h. rise j (c.requires.each j h));
      changes = start_changes c.args.rule.now.nearest m c.args.all.now c.deref.result.now
          q.changes.items _ c.requires.each c.requires.lists.changes
          (λ j h e. ap (λ (xs : List ℤ). int_at xs j) (c.deref.ensures.value ∙ risen) ∙ rise j e)
          written;
    }

pub returns-in_err-check_levels : goal.returns-in_err-check_levels
returns-in_err-check_levels g c =
    let m = c.args.f.now.machine in
    let is = begun g (goal.at.returns-in_err-check_levels g c).After-set_rise_changes in
    let over = c.in_err-check_levels.field-0.0 in
    let given : c.from_residual.result ≡ Err over = search rules in
    let past : past_levels m (fine_levels m) ≡ Some over.var =
    ap (past_levels m) (sym is.levels) ∙ sym c.check_levels.ensures
    ∙ ap overflow_of c.in_err-check_levels.was in
    let some : overflow_of c.from_residual.result ≡ Some over.var = ap overflow_of given in
    record {
      lists = record {
        places = c.requires.lists.places;
        changes = is.many_changes;
        rises = ap length is.rises ∙ length-map-range_with_len _ 0 (state_count m);
        bends = c.requires.lists.bends;
      };
      places = refl;
      changes = is.changes;
      overflow = some ∙ sym (past_first m (fine_levels m) _ over.var past);
      held = λ none. absurd (cc (some, none));
      rises = λ none. absurd (cc (some, none));
      bends = λ none. absurd (cc (some, none));
    }

pub returns : goal.returns
returns g c =
    let m = c.args.f.now.machine in
    let n = state_count m in
    let is = begun g (goal.at.returns g c).After-set_rise_changes in
    let bs : List ℤ = c.bend.new.bends in
    let bent : (with_items c.args.q.now.bends bs).items ≡ bs =
    with_items_is c.args.q.now.bends bs (c.bend.auto.bends ∙ c.deref_mut-3.ensures.len) in
    let many : length bs ≡ n = c.bend.auto.bends ∙ ap length c.deref_mut-3.ensures.value
    ∙ c.requires.lists.bends in
    let new : List ℤ = (with_items c.args.q.now.changes c.set_rise_changes.new.changes).items in
    let none : past_levels m (fine_levels m) ≡ None = ap (past_levels m) (sym is.levels)
    ∙ sym c.check_levels.ensures ∙ ap overflow_of c.in_ok-check_levels.was in
    record {
      lists = record {
        places = c.requires.lists.places;
        changes = is.many_changes;
        rises = ap length is.rises ∙ length-map-range_with_len _ 0 n;
        bends = ap length bent ∙ many;
      };
      places = refl;
      changes = is.changes;
      overflow = c.bend.ensures.overflow ∙ ap (of_changes m) c.deref-2.ensures.value
          ∙ sym (past_then m (fine_levels m) new none);
      held = λ e. held_first c.args.rule.now.nearest m (fine_levels m) new is.changes
          (rise_bounded m (fine_levels m) none);
      rises = λ e. is.rises;
      bends = λ e. bent ∙ fill_by_all (λ j. bend_at m j new) bs n (pos 0) many (λ j h.
          (c.bend.ensures.bends e).each j (c.requires.each j h)
          ∙ ap (bend_at m j) c.deref-2.ensures.value);
    }
