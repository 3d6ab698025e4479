-- One more moved state goes on from where it is.
use Rattle.qss_states.proofs.Common
use Common.{ℕ, ◌<◌, among_at, AreScheduled, arith, get_or, int_at, IsWithin, List, pos, refl}
use Common.{Schedules, state_count, subst, take, take_all}
use Rattle.qss_states.proofs.Courses.{none_go_on, one_more}
use Rattle.qss_states.proofs.GoingOn.{still_on}
use Rattle.qss_states.proofs.Seats.{left_more, still_begun, still_small}
use Rattle.qss_states.proofs.slope_updates.restart_state_slopes.Goals as goal

pub loop-j-init : goal.loop-j-init
loop-j-init g c = record {
  on = none_go_on c.args.at.now.event.machine.now c.args.at.now.event.tick c.args.at.now.event.levels.now c.args.at.now.slopes.now (int_at c.args.at.now.handled.states.now) (record { lines = c.args.lines.now; dues = c.args.agenda.now });
  kept = λ j so. refl;
  line_count = c.requires.on.one_each.lines;
  counted = λ states at. refl;
}

pub restart_state_slope-requires-clause-allowed : goal.restart_state_slope-requires-clause-allowed
restart_state_slope-requires-clause-allowed g c = record {
  known = c.requires.on.new.moved.below c.loop-j.j-index 0 c.loop-j-test.true;
  all = still_on c.args.at.now c.args.lines.now c.loop-j.lines c.args.agenda.now c.loop-j.agenda c.requires.on (omega (arith, c.loop-j.invariant.line_count, c.requires.on.one_each.lines))
      c.loop-j.invariant.on.others.dues.places;
}

pub restart_state_slope-requires-clause-later : goal.restart_state_slope-requires-clause-later
restart_state_slope-requires-clause-later g c =
    let i = c.loop-j.j-index in
    let first : Schedules = record { lines = c.args.lines.now; dues = c.args.agenda.now } in
    let before : Schedules = record { lines = c.loop-j.lines; dues = c.loop-j.agenda } in
    let j : ℕ = get_or c.args.at.now.event.moved.now i 0 in
    let known : j < state_count c.args.at.now.event.machine.now = c.requires.on.new.moved.below i 0 c.loop-j-test.true in
    still_begun c.args.at.now.event.machine.now c.args.at.now.event.tick c.args.at.now.handled.states.now c.args.at.now.event.levels.now c.args.at.now.slopes.now (take i c.args.at.now.event.moved.now) first before c.loop-j.invariant.on j
    (c.requires.may_move.later j (omega (arith, known, c.requires.on.one_each.lines)))

pub restart_state_slope-requires-clause-size_limit : goal.restart_state_slope-requires-clause-size_limit
restart_state_slope-requires-clause-size_limit g c =
    let i = c.loop-j.j-index in
    let first : Schedules = record { lines = c.args.lines.now; dues = c.args.agenda.now } in
    let before : Schedules = record { lines = c.loop-j.lines; dues = c.loop-j.agenda } in
    let j : ℕ = get_or c.args.at.now.event.moved.now i 0 in
    let known : j < state_count c.args.at.now.event.machine.now = c.requires.on.new.moved.below i 0 c.loop-j-test.true in
    let small_x : IsWithin 88 (int_at c.args.at.now.handled.states.now j) = c.requires.states.small j (pos 0) (omega (arith, known, c.requires.states.as_many)) in
    still_small c.args.at.now.event.machine.now c.args.at.now.event.tick c.args.at.now.handled.states.now c.args.at.now.event.levels.now c.args.at.now.slopes.now (take i c.args.at.now.event.moved.now) first before c.loop-j.invariant.on j small_x
    (c.requires.may_move.small j (omega (arith, known, c.requires.on.one_each.lines)))

pub restart_state_slope-requires-clause-near : goal.restart_state_slope-requires-clause-near
restart_state_slope-requires-clause-near g c =
    c.requires.near (get_or c.args.at.now.event.moved.now c.loop-j.j-index 0) (among_at c.args.at.now.event.moved.now c.loop-j.j-index c.loop-j-test.true)

pub loop-j-preserved : goal.loop-j-preserved
loop-j-preserved g c =
    let m = c.args.at.now.event.machine.now in
    let i = c.loop-j.j-index in
    let inv = c.loop-j.invariant in
    let first : Schedules = record { lines = c.args.lines.now; dues = c.args.agenda.now } in
    let before : Schedules = record { lines = c.loop-j.lines; dues = c.loop-j.agenda } in
    let after : Schedules = record { lines = c.restart_state_slope.new.lines; dues = c.restart_state_slope.new.agenda } in
    record {
      on = one_more m c.args.at.now.event.tick c.args.at.now.event.levels.now c.args.at.now.slopes.now (int_at c.args.at.now.handled.states.now) c.args.at.now.event.moved.now i first before after c.loop-j-test.true inv.on
          c.restart_state_slope.ensures.goes_on;
      kept = left_more m c.args.at.now.event.tick c.args.at.now.handled.states.now c.args.at.now.event.levels.now c.args.at.now.slopes.now (get_or c.args.at.now.event.moved.now i 0) first before after inv.kept
          c.restart_state_slope.ensures.goes_on.others c.restart_state_slope.ensures.kept;
      line_count = omega (arith, inv.line_count, c.restart_state_slope.auto.lines);
      counted = λ states at.
          let own = inv.counted states at in
          let one = c.restart_state_slope.ensures.counted states (at (get_or c.args.at.now.event.moved.now i 0) (among_at c.args.at.now.event.moved.now i c.loop-j-test.true)) in
          omega (arith, own, one);
    }

pub returns-clause-go_on : goal.returns-clause-go_on
returns-clause-go_on g c =
    subst (λ (moved : List ℕ). AreScheduled c.args.at.now.event.machine.now c.args.at.now.event.tick c.args.at.now.event.levels.now c.args.at.now.slopes.now moved (int_at c.args.at.now.handled.states.now)
    (record { lines = c.args.lines.now; dues = c.args.agenda.now }) (record { lines = c.loop-j.lines; dues = c.loop-j.agenda }))
    (take_all c.loop-j.j-index c.args.at.now.event.moved.now c.loop-j-test.false) c.loop-j.invariant.on
