use Rattle.qss_devs.proofs.Common.{◌∙◌, ◌≡◌, ap, Floor, Quantizer, RunView, view_of}
use Rattle.qss_events.specs.declared.event_outcome.Outcome.TheVariants.{Events, Done, Over}
use Rattle.qss_events.specs.RemainingRows.{row_lines, outcome_of}
use Rattle.qss_events.proofs.RuledRuns.{known_on, lines_on, ends_on, over_in}
use Rattle.qss_events.proofs.RunEnds.{call_of, event_unended, event_later, done_left, done_end}
use Rattle.qss_events.proofs.RunEnds.{over_left, over_end}
use Rattle.qss_devs.proofs.coupled_run.CoupledRunSimulation.next_event.Goals as goal

pub invariant_of-self : goal.invariant_of-self
invariant_of-self g c =
    let run = c.args.self.now in
    let after = c.next_event.new.self in
    let call = c.next_event.ensures in
    let now : RunView = view_of run.model.machine.value run.model.tick run.model.store run.model.end in
    let new : RunView = view_of after.machine.value after.tick after.store after.end in
    let kept : after.quantizer.value.name ≡ run.model.quantizer.value.name = ap (λ (q : Quantizer _ _). q.name) call.rule in
    record {
      named = kept ∙ run.named;
      known = known_on Floor now new call.machine (call.rows Floor run.named c.requires) run.known;
    }

pub returns-in-Events : goal.returns-in-Events
returns-in-Events g c =
    let run = c.args.self.now in
    let after = c.next_event.new.self in
    let call = c.next_event.ensures in
    let now : RunView = view_of run.model.machine.value run.model.tick run.model.store run.model.end in
    let new : RunView = view_of after.machine.value after.tick after.store after.end in
    let rows = call.rows Floor run.named c.requires in
    let is =
    call_of run.model.quantizer.value.name Floor now new c.next_event.result (Events c.in-Events.tick) run.named call.machine
    c.in-Events.is (call.next c.requires) in
    record {
      machine = call.machine;
      lines = lines_on Floor now new call.machine rows run.filter;
      unended = λ e. (event_unended Floor now new c.in-Events.tick is, event_later Floor now new c.in-Events.tick is);
      same_end = λ end e h. ends_on Floor now new c.in-Events.tick is (outcome_of end) h;
      ended = tt;
    }

pub returns-in-Done : goal.returns-in-Done
returns-in-Done g c =
    let run = c.args.self.now in
    let after = c.next_event.new.self in
    let call = c.next_event.ensures in
    let now : RunView = view_of run.model.machine.value run.model.tick run.model.store run.model.end in
    let new : RunView = view_of after.machine.value after.tick after.store after.end in
    let rows = call.rows Floor run.named c.requires in
    let is =
    call_of run.model.quantizer.value.name Floor now new c.next_event.result Done run.named call.machine
    c.in-Done.is (call.next c.requires) in
    record {
      machine = call.machine;
      lines = lines_on Floor now new call.machine rows run.filter;
      unended = λ e. absurd (cc);
      same_end = λ end e h. absurd (cc);
      ended = (ap (row_lines run.filter new.machine) (done_left Floor now new is), done_end Floor now new is, tt);
    }

pub returns-in-Over : goal.returns-in-Over
returns-in-Over g c =
    let tick = c.in-Over.tick in
    let var = c.in-Over.var in
    let run = c.args.self.now in
    let after = c.next_event.new.self in
    let call = c.next_event.ensures in
    let now : RunView = view_of run.model.machine.value run.model.tick run.model.store run.model.end in
    let new : RunView = view_of after.machine.value after.tick after.store after.end in
    let rows = call.rows Floor run.named c.requires in
    let is =
    call_of run.model.quantizer.value.name Floor now new c.next_event.result (Over tick var) run.named call.machine
    c.in-Over.is (call.next c.requires) in
    record {
      machine = call.machine;
      lines = lines_on Floor now new call.machine rows run.filter;
      unended = λ e. absurd (cc);
      same_end = λ end e h. absurd (cc);
      ended = (
        ap (row_lines run.filter new.machine) (over_left Floor now new tick var is),
        over_end Floor now new tick var is,
        over_in Floor now new tick var is (known_on Floor now new call.machine rows run.known),
      );
    }
