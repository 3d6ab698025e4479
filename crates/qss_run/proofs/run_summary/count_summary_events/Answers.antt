use Rattle.qss_run.proofs.Common
use Common.{◌^◌, ◌∙◌, ◌≡◌, ◌≤◌, call_of, Done, done_end, done_left, Events, Floor, level_count}
use Common.{Over, over_end, over_left, refl, rules}
use Rattle.qss_run.proofs.Counting.{counts_on, counts_end}
use Rattle.qss_run.proofs.run_summary.count_summary_events.Goals as goal

pub events-preserved : goal.events-preserved
events-preserved g c =
    let inv = c.events.invariant in
    let first_view = c.args.sim.now.run in
    let now = c.events.sim.run in
    let new = c.next_event-outcome.new.self.run in
    let call = call_of c.events.sim.quantizer.name Floor now new c.next_event-outcome.result (Events c.in-Events.tick) inv.named c.next_event-outcome.ensures.same.0 c.in-Events.is (c.next_event-outcome.ensures.next inv.counting.unended) in
    let more : c.from-levels.result ≡ level_count new.rows = search rules in
    let kept : c.next_event-outcome.new.self.quantizer.name ≡ c.events.sim.quantizer.name = rw c.next_event-outcome.ensures.same.1 refl in
    let few : c.from-levels.result ≤ 2 ^ 64 = search rules in
    record {
      named = kept ∙ inv.named;
      counting = counts_on first_view now new c.events.levels c.from-levels.result inv.counting (c.next_event-outcome.ensures.rows Floor inv.named inv.counting.unended) more c.in-Events.tick call few;
    }

pub returns-in-Done-clause-counted : goal.returns-in-Done-clause-counted
returns-in-Done-clause-counted g c =
    let inv = c.events.invariant in
    let first_view = c.args.sim.now.run in
    let now = c.events.sim.run in
    let new = c.next_event-outcome.new.self.run in
    let call = call_of c.events.sim.quantizer.name Floor now new c.next_event-outcome.result Done inv.named c.next_event-outcome.ensures.same.0 c.in-Done.is (c.next_event-outcome.ensures.next inv.counting.unended) in
    let more : c.from-levels.result ≡ level_count new.rows = search rules in
    counts_end first_view now new c.events.levels c.from-levels.result inv.counting (c.next_event-outcome.ensures.rows Floor inv.named inv.counting.unended) more Done (done_left Floor now new call) (done_end Floor now new call)

pub returns-in-Over-clause-counted : goal.returns-in-Over-clause-counted
returns-in-Over-clause-counted g c =
    let inv = c.events.invariant in
    let first_view = c.args.sim.now.run in
    let now = c.events.sim.run in
    let new = c.next_event-outcome.new.self.run in
    let over = Over c.in-Over.tick c.in-Over.var in
    let call = call_of c.events.sim.quantizer.name Floor now new c.next_event-outcome.result over inv.named c.next_event-outcome.ensures.same.0 c.in-Over.is (c.next_event-outcome.ensures.next inv.counting.unended) in
    let more : c.from-levels.result ≡ level_count new.rows = search rules in
    counts_end first_view now new c.events.levels c.from-levels.result inv.counting (c.next_event-outcome.ensures.rows Floor inv.named inv.counting.unended) more over (over_left Floor now new c.in-Over.tick c.in-Over.var call) (over_end Floor now new c.in-Over.tick c.in-Over.var call)
