-- One more state.
use Rattle.qss_order2.proofs.Common.{◌||◌, ◌∙◌, ap, arith, is_listed, sym, take_all}
use Rattle.qss_order2.proofs.QuietStates.{touched_more, or_none}
use Rattle.qss_order2.proofs.touching.touch_states.Goals as goal

pub loop-state-init : goal.loop-state-init
loop-state-init c = record {
  count = omega arith;
  places =
      λ j. sym (or_none (is_listed c.args.affected.now.places j));
}

pub insert-requires : goal.insert-requires
insert-requires c = omega (
  arith,
  c.requires c.loop-state.state-index 0 c.loop-state-test.true,
  c.loop-state.invariant.count,
)

pub loop-state-preserved : goal.loop-state-preserved
loop-state-preserved c = record {
  count = c.insert.ensures.count ∙ c.loop-state.invariant.count;
  places = λ j.
      touched_more c.args.list.now c.loop-state.state-index j (is_listed c.args.affected.now.places
      j) (is_listed c.loop-state.affected.places j) (is_listed c.insert.new.self.places j)
      c.loop-state-test.true
      (c.loop-state.invariant.places j) (c.insert.ensures.places j);
}

pub returns-clause-places : goal.returns-clause-places
returns-clause-places c j =
    c.loop-state.invariant.places j ∙ ap (λ l. is_listed c.args.affected.now.places j || is_listed l
    j) (take_all c.loop-state.state-index c.args.list.now c.loop-state-test.false)
