-- The handlers do the same as where all states have arrived.
use Rattle.qss_run.proofs.Common
use Common.{[], ℕ, ℤ, ◌∙◌, ◌≡◌, ap, AreValuesOf, Bool, cases_Bool, false, fired_reads, flags_of}
use Common.{HandlerState, handling_of, handling_of_fired, inl, inr, int_at, is_reinitialized}
use Common.{length, length-states_at, List, Machine, may_arrive, None, Row, run_clauses, states_at}
use Common.{subst, sym, Values, values_after}
use Rattle.qss_run.proofs.Agreeing.{Agree, fired_agree}
use Rattle.qss_run.proofs.Arrived.{arrived_small}
use Rattle.qss_run.proofs.Reported.{logged}
use Rattle.qss_run.proofs.condition_handlers.handle_fired_conditions.Goals as goal

-- the values where the handlers begin
abbrev at_first : List ℤ → ℕ → Values → Values
at_first x tick start = record { x = x; d = start.d; pre = start.d; tick = tick; log = []; room = start.room }

begins : (start at_arrival begun : Values) (tick : ℕ) → at_arrival ≡ record start { x = at_arrival.x } → begun ≡ record at_arrival { tick = tick; pre = at_arrival.d; log = [] } → begun ≡ at_first at_arrival.x tick start
begins start at_arrival begun tick come begin = begin ∙ ap (at_first at_arrival.x tick) come

-- what the handlers do from there
abbrev done_from : Machine → List Bool → Values → HandlerState
done_from m flags w = run_clauses m w.tick w.pre 0 (handling_of w) m.clauses flags

pub move_work_read_by_branches-requires-clause-may_arrive : goal.move_work_read_by_branches-requires-clause-may_arrive
move_work_read_by_branches-requires-clause-may_arrive c = may_arrive c.requires.values.states c.requires.lines.up_to

pub run_fired_handlers-requires-clause-fits : goal.run_fired_handlers-requires-clause-fits
run_fired_handlers-requires-clause-fits c =
    let start : Values = c.args.work.now in
    let at_arrival : Values = c.move_work_read_by_branches.new.work in
    let states = states_at c.args.at.now.states.now.lines.items c.args.at.now.tick in
    let many : length start.x ≡ length states = c.requires.values.states ∙ sym (length-states_at c.args.at.now.states.now.lines.items c.args.at.now.tick ∙ c.requires.lines.up_to.as_many) in
    let first : AreValuesOf c.args.at.now.machine.now (at_first at_arrival.x c.args.at.now.tick start) = record {
      states = c.move_work_read_by_branches.ensures.states.as_many ∙ c.requires.values.states;
      discretes = c.requires.values.discretes;
      before = c.requires.values.discretes;
      small_states = arrived_small 88 _ states start.x at_arrival.x many c.requires.lines.small c.requires.values.small_states c.move_work_read_by_branches.ensures.states;
      small_discretes = c.requires.values.small_discretes;
      small_before = c.requires.values.small_discretes;
      in_time = c.requires.lines.up_to.in_time;
    } in
    subst (AreValuesOf c.args.at.now.machine.now) (sym (begins start at_arrival c.begin.new.self c.args.at.now.tick c.move_work_read_by_branches.ensures.work c.begin.ensures)) first

pub returns : goal.returns
returns c =
    let m = c.args.at.now.machine.now in
    let start : Values = c.args.work.now in
    let at_arrival : Values = c.move_work_read_by_branches.new.work in
    let after : Values = c.run_fired_handlers.new.w in
    let tick = c.args.at.now.tick in
    let fired = c.args.fired.now in
    let flags : List Bool = flags_of (length c.args.branches.now) fired in
    let states = states_at c.args.at.now.states.now.lines.items tick in
    let many : length start.x ≡ length states = c.requires.values.states ∙ sym (length-states_at c.args.at.now.states.now.lines.items tick ∙ c.requires.lines.up_to.as_many) in
    let come = c.move_work_read_by_branches.ensures.states in
    let ideal : HandlerState = handling_of_fired m tick states start.d fired in
    let done : HandlerState = done_from m flags (at_first at_arrival.x tick start) in
    let agree : Agree (λ j. int_at at_arrival.x j ≡ int_at states j) done ideal =
    fired_agree m c.args.branches.now fired c.requires.due.of c.requires.due.numbers tick states at_arrival.x start.d start.x (come.as_many ∙ many) come in
    let begun = begins start at_arrival c.begin.new.self tick c.move_work_read_by_branches.ensures.work c.begin.ensures in
    let values : after ≡ values_after (at_first at_arrival.x tick start) done = c.run_fired_handlers.ensures.values ∙ ap (λ (w : Values). values_after w (done_from m flags w)) begun in
    let own = ap (λ (w : Values). w.x) values in
    let state = λ (j : ℕ) (same : int_at at_arrival.x j ≡ int_at states j). ap (λ xs. int_at xs j) own ∙ agree.states j same in
    record {
      overflow = c.run_fired_handlers.ensures.overflow ∙ ap (λ (w : Values). (done_from m flags w).overflow) begun ∙ agree.overflow;
      work = λ e.
          values ∙ ap (λ xs. record { x = xs; d = done.discretes; pre = start.d; tick = tick; log = done.rows; room = start.room }) (sym own)
          ∙ ap (λ ds. record { x = after.x; d = ds; pre = start.d; tick = tick; log = done.rows; room = start.room }) agree.discretes
          ∙ ap (λ rows. record { x = after.x; d = ideal.discretes; pre = start.d; tick = tick; log = rows; room = start.room }) agree.rows;
      fits = λ e. c.run_fired_handlers.ensures.fits;
      many = λ e. sym (ap length own ∙ agree.as_many) ∙ c.run_fired_handlers.ensures.fits.states;
      at_arrival = λ e j same.
          state j (elim (cases_Bool (fired_reads j m c.args.branches.now fired)) [ inl read ↦ come.own j read | inr not ↦ come.others j not ∙ same ]);
      reinitialized = λ e j is. ap (λ xs. int_at xs j) own ∙ agree.reinitialized j is;
      others = λ e j not none.
          let kept : is_reinitialized done.rows j ≡ false = ap (λ (rows : List Row). is_reinitialized rows j) agree.rows ∙ none in
          ap (λ xs. int_at xs j) own ∙ (logged m tick at_arrival.x start.d None (flags_of (length c.args.branches.now) fired)).states j kept ∙ come.others j not;
    }
