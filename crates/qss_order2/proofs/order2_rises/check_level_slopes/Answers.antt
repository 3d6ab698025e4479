-- None of the list, and none of the others.
use Rattle.qss_order2.proofs.Common
use Common.{cases_Bool, exceeds, inl, inr, is_listed, rise_change_weight, rules, state_count, sym}
use Rattle.qss_order2.proofs.Tables.{none_of_table}
use Rattle.qss_order2.proofs.order2_rises.check_level_slopes.Goals as goal

pub returns-then-not-unbounded : goal.returns-then-not-unbounded
returns-then-not-unbounded c =
    let m = c.args.f.now.machine in
    sym (none_of_table (exceeds 94) (state_count m) (rise_change_weight m c.args.changes.now)
    (c.requires.bounded (search (rules, c.if-not-unbounded.true))))

pub returns : goal.returns
returns c =
    let m = c.args.f.now.machine in
    sym (none_of_table (exceeds 94) (state_count m) (rise_change_weight m c.args.changes.now)
    (λ j h. elim (cases_Bool (is_listed c.args.list.now j)) [
      | inl e ↦ c.has_bend_past_limit.ensures c.if-has_bend_past_limit.false j e
      | inr not ↦ c.requires.flat j h not
    ]))
