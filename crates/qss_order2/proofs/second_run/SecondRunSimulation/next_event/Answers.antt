use Rattle.qss_order2.proofs.Common.{◌∙◌, ◌≡◌, ap, Done, Events, Over, refl, row2_lines}
use Rattle.qss_order2.proofs.Ahead.{able_before, done_end, over_end}
use Rattle.qss_order2.proofs.WrittenRuns.{call_of, known_on, none_left, ends_on, over_in}
use Rattle.qss_order2.proofs.second_run.SecondRunSimulation.next_event.Goals as goal

pub invariant_of-self : goal.invariant_of-self
invariant_of-self g c =
    let run = c.args.self.now in
    let call = c.next_event.ensures in
    let kept : c.next_event.new.self.rule.nearest ≡ run.sim.rule.nearest = rw call.same.1 refl in
    record {
      nearest = kept ∙ run.nearest;
      known = known_on run.sim.run c.next_event.new.self.run call.same.0
          (call.rows run.nearest c.requires) run.known;
    }

pub returns-in-Events-clause-same_end : goal.returns-in-Events-clause-same_end
returns-in-Events-clause-same_end g c end e h =
    let run = c.args.self.now in
    let new = c.next_event.new.self.run in
    ends_on run.sim.run new c.in-Events.tick c.next_event.ensures.same.0
    (call_of run.sim.rule.nearest run.sim.run new c.next_event.result (Events c.in-Events.tick)
    run.nearest c.in-Events.is (c.next_event.ensures.next c.requires)) end h

pub returns-in-Done-clause-ended : goal.returns-in-Done-clause-ended
returns-in-Done-clause-ended g c =
    let run = c.args.self.now in
    let new = c.next_event.new.self.run in
    let n = call_of run.sim.rule.nearest run.sim.run new c.next_event.result Done run.nearest
    c.in-Done.is (c.next_event.ensures.next c.requires) in (
      ap (row2_lines new.machine) (none_left new Done n.2),
      (
        able_before run.sim.run new Done n,
        done_end run.sim.run new n,
      ),
      tt,
    )

pub returns-in-Over-clause-ended : goal.returns-in-Over-clause-ended
returns-in-Over-clause-ended g c =
    let run = c.args.self.now in
    let new = c.next_event.new.self.run in
    let ensures = c.next_event.ensures in
    let over = Over c.in-Over.tick c.in-Over.var in
    let n = call_of run.sim.rule.nearest run.sim.run new c.next_event.result over run.nearest
    c.in-Over.is (ensures.next c.requires) in (
      ap (row2_lines new.machine) (none_left new over n.1),
      (
        able_before run.sim.run new over n,
        over_end run.sim.run new c.in-Over.tick
            c.in-Over.var n,
      ),
      over_in run.sim.run new c.in-Over.tick c.in-Over.var ensures.same.0 n
          (known_on run.sim.run new ensures.same.0 (ensures.rows run.nearest c.requires)
          run.known),
    )
