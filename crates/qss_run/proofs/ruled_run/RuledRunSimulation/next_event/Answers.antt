use Rattle.qss_run.proofs.Common
use Common.{◌∙◌, ◌≡◌, ap, call_of, Done, done_end, done_left, Events, Over, over_end, over_left}
use Common.{refl}
use Rattle.qss_events.specs.RemainingRows.{row_lines, outcome_of}
use Rattle.qss_events.proofs.RuledRuns.{known_on, ends_on, over_in}
use Rattle.qss_run.proofs.ruled_run.RuledRunSimulation.next_event.Goals as goal

pub invariant_of-self : goal.invariant_of-self
invariant_of-self g c =
    let run = c.args.self.now in
    let call = c.next_event.ensures in
    let kept : c.next_event.new.self.quantizer.name ≡ run.sim.quantizer.name = rw call.same.1 refl in
    record {
      named = kept ∙ run.named;
      known = known_on run.rule run.sim.run c.next_event.new.self.run call.same.0 (call.rows run.rule run.named c.requires) run.known;
    }

pub returns-in-Events-clause-same_end : goal.returns-in-Events-clause-same_end
returns-in-Events-clause-same_end g c end e h =
    let run = c.args.self.now in
    let new = c.next_event.new.self.run in
    ends_on run.rule run.sim.run new c.in-Events.tick
    (call_of run.sim.quantizer.name run.rule run.sim.run new c.next_event.result (Events c.in-Events.tick) run.named c.next_event.ensures.same.0 c.in-Events.is (c.next_event.ensures.next c.requires))
    (outcome_of end) h

pub returns-in-Done-clause-ended : goal.returns-in-Done-clause-ended
returns-in-Done-clause-ended g c =
    let run = c.args.self.now in
    let new = c.next_event.new.self.run in
    let call = call_of run.sim.quantizer.name run.rule run.sim.run new c.next_event.result Done run.named c.next_event.ensures.same.0 c.in-Done.is (c.next_event.ensures.next c.requires) in
    (ap (row_lines run.filter new.machine) (done_left run.rule run.sim.run new call), done_end run.rule run.sim.run new call, tt)

pub returns-in-Over-clause-ended : goal.returns-in-Over-clause-ended
returns-in-Over-clause-ended g c =
    let run = c.args.self.now in
    let new = c.next_event.new.self.run in
    let ensures = c.next_event.ensures in
    let call = call_of run.sim.quantizer.name run.rule run.sim.run new c.next_event.result (Over c.in-Over.tick c.in-Over.var) run.named ensures.same.0 c.in-Over.is (ensures.next c.requires) in (
      ap (row_lines run.filter new.machine) (over_left run.rule run.sim.run new c.in-Over.tick c.in-Over.var call),
      over_end run.rule run.sim.run new c.in-Over.tick c.in-Over.var call,
      over_in run.rule run.sim.run new c.in-Over.tick c.in-Over.var call (known_on run.rule run.sim.run new ensures.same.0 (ensures.rows run.rule run.named c.requires) run.known),
    )
