-- The sum was sent.
use Rattle.qss_components.proofs.Common
use Common.{FunctionState, input_discretes, input_levels, refl, Slope, sum_of, sym}
use Rattle.qss_components.proofs.Ticks.{same_tick, none_next}
use Rattle.qss_components.proofs.function_model.FunctionModelAtomic.internal.Goals as goal

pub returns-in-Some-clause-turned : goal.returns-in-Some-clause-turned
returns-in-Some-clause-turned c tick is =
    let s = c.args.self.now in
    let sums : FunctionState = record {
      row = s.row;
      tick = s.tick;
      levels = input_levels
          s.machine.value s.inputs.items;
      discretes = input_discretes s.machine.value s.inputs.items;
      changed = s.changed;
    } in
    rw (same_tick tick c.in-Some.tick s.changed (sym is) c.in-Some.is) (Slope s.row (sum_of s.machine.value sums), refl, (refl, refl))

pub returns-in-Some-clause-later : goal.returns-in-Some-clause-later
returns-in-Some-clause-later c tick next is after = absurd (cc)

pub returns-in_default-clause-turned : goal.returns-in_default-clause-turned
returns-in_default-clause-turned c tick is = absurd (none_next tick c.args.self.now.changed (sym is) c.in_default.is)

pub returns-in_default-clause-later : goal.returns-in_default-clause-later
returns-in_default-clause-later c tick next is after = absurd (none_next tick c.args.self.now.changed (sym is) c.in_default.is)
