-- The rule applies to the slopes at the new levels.
use Rattle.qss_order2.proofs.Common
use Common.{ℤ, ◌∙◌, ap, AreChanges, arith, bend_at, int_at, int_wrap, is_listed, IsRuled2, IsWithin}
use Common.{levels_on, List, start_coefficient, state_count, subst, sym, w128}
use Rattle.qss_order2.proofs.ColumnSums.{gain_is}
use Rattle.qss_order2.proofs.Settled.{listed_below, rise_bounded, listed_changes}
use Rattle.qss_order2.proofs.Settlings.{held_after}
use Rattle.qss_order2.proofs.order2_rises.apply_slope_rule.Goals as goal

pub update_rise_changes-requires-clause-size_limit : goal.update_rise_changes-requires-clause-size_limit
update_rise_changes-requires-clause-size_limit g c j e =
    let m = c.args.f.now.machine in
    let n = state_count m in
    let q = c.args.q.now in
    let levels = levels_on n q.places.items q.changes.items c.args.tick in
    let small : IsWithin 94 (int_at q.rises.items j) =
    subst (IsWithin 94) (sym (c.requires.risen j e)) (rise_bounded m levels c.requires.within j
    (listed_below n c.args.left.now c.requires.left j e)) in
    omega (arith, small)

pub returns-clause-applied : goal.returns-clause-applied
returns-clause-applied g c =
    let m = c.args.f.now.machine in
    let n = state_count m in
    let q = c.args.q.now in
    let nearest = c.args.rule.now.nearest in
    let left = c.args.left.now in
    let levels = levels_on n q.places.items q.changes.items c.args.tick in
    let is = c.update_rise_changes.ensures in
    let new : List ℤ = c.update_rise_changes.new.q.changes.items in
    let are : AreChanges (IsRuled2 nearest) m (is_listed left) levels q.changes.items new =
    listed_changes nearest m left levels q.rises.items q.changes.items new c.requires.lists.changes
    (λ j h e. c.requires.risen j e) is.changes in
    record {
      are_changes = are;
      places = is.places;
      rises = is.rises;
      held = held_after nearest m (is_listed left) levels q.changes.items new are
          (rise_bounded m levels c.requires.within) c.requires.held;
      bends = λ j h. is.bends j (bend_at m j q.changes.items) h (c.requires.bends j h)
          ∙ ap (int_wrap w128) (sym (gain_is n (start_coefficient m j) (int_at q.changes.items)
          (int_at new)));
    }
