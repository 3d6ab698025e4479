-- Event steps without rows are silent; the first with rows is the next event.
use Rattle.qss_order2.proofs.Common
use Common.{[], ℕ, ◌++◌, ◌==◌, ◌∙◌, ◌∷◌, ◌≡◌, ◌≢◌, ap, arith, end_rows, eqb-false, false, Global}
use Common.{IsRuled2, IsVisit2, last_second_snapshot, length, List, motion_at, None, overflow_of}
use Common.{refl, Row2, second_snapshot_unless, SecondSnapshot, snapshot_of, sym, tick_rows2, true}
use Common.{Vec, vec_len, view_of}
use Rattle.mu_num.proofs.Tests.{eqb-true}
use Rattle.qss_order2.proofs.order2_events.advance_to_event.Goals.{After-go_to_event-step}
use Rattle.qss_order2.proofs.Motions.{can_move}
use Rattle.qss_order2.proofs.Advances.{visit_on, rows_on, silent_visit, overflows_at_start}
use Rattle.qss_order2.proofs.Advances.{overflows_later}
use Rattle.qss_order2.proofs.order2_events.advance_to_event.Goals as goal
use Rattle.qss_order2.proofs.order2_events.advance_to_event.Given as given

some_rows : (v : Vec Row2 Global) → (vec_len v == 0) ≡ false → v.items ≢ []
some_rows v e none =
    let zero : v.len ≡ 0 = v.ok.0 ∙ ap length none in
    eqb-false v.len 0 e zero

empty_list : {X : Type 0} (xs : List X) → length xs ≡ 0 → xs ≡ []
empty_list [] e = refl
empty_list (x ∷ xs) e = absurd (omega (arith, e))

no_rows : (v : Vec Row2 Global) → (vec_len v == 0) ≡ true → v.items ≡ []
no_rows v e = empty_list v.items (sym v.ok.0 ∙ eqb-true v.len 0 e)

-- what follows from the start of the call, up to an event step
record IsSeen (g : given.Over) (c : After-go_to_event-step g) : Type 0 where
  pub silent : List SecondSnapshot
  pub visit : IsVisit2 (IsRuled2 c.args.rule.now.nearest) c.args.f.now.machine c.args.from
      (snapshot_of (motion_at c.args.f.now.machine c.args.s.now.motion c.args.from)) silent
      c.go_to_event-step.result.tick (second_snapshot_unless (overflow_of
      c.go_to_event-step.result.ran) (snapshot_of (motion_at c.args.f.now.machine
      c.go_to_event-step.new.s.motion c.go_to_event-step.result.tick)))
  pub rows : overflow_of c.go_to_event-step.result.ran ≡ None →
      c.go_to_event-step.new.s.rows.items ≡ tick_rows2 c.args.f.now.machine
      c.go_to_event-step.result.tick (last_second_snapshot (snapshot_of (motion_at
      c.args.f.now.machine c.args.s.now.motion c.args.from)) silent) (snapshot_of (motion_at
      c.args.f.now.machine c.go_to_event-step.new.s.motion c.go_to_event-step.result.tick))

seen : (g : given.Over) (c : After-go_to_event-step g) → IsSeen g c
seen g c =
    let m = c.args.f.now.machine in
    let Rule = IsRuled2 c.args.rule.now.nearest in
    let w0 : SecondSnapshot = snapshot_of (motion_at m c.args.s.now.motion c.args.from) in
    let before = c.loop-tick.invariant.are_silent in
    let visited = c.go_to_event-step.ensures.visited in
    record {
      silent = before.0 ++ visited.0;
      visit = visit_on Rule m c.args.from w0 before.0 c.loop-tick.tick _ before.1 visited.0 _ _
          visited.1;
      rows = λ none. visited.2 none ∙ rows_on Rule m c.args.from w0 before.0 c.loop-tick.tick _
          before.1 visited.0 _ _;
    }

pub loop-tick-init : goal.loop-tick-init
loop-tick-init g c = record {
  is_store = c.requires.is_store;
  within = ap overflow_of c.in_default.is;
  began = ap overflow_of c.in_default.is;
  in_time = c.requires.tick_limit;
  are_silent = ([], record { leads = tt; as_many = omega arith; reached = refl });
}

pub returns-in-Err-clause-next : goal.returns-in-Err-clause-next
returns-in-Err-clause-next g c = (
  record {
    overflows = overflows_at_start (IsRuled2 c.args.rule.now.nearest)
        (view_of c.args.f.now.machine c.args.from c.args.s.now None) c.args.from c.in-Err.over.var
        refl
        (c.requires.is_store.at_start c.in-Err.over.var (ap overflow_of c.in-Err.is))
        (c.requires.is_store.over
        ∙ ap overflow_of c.in-Err.is);
    own_rows = c.set_overflow_row.ensures;
    here = refl;
  },
  refl,
)

pub returns-in-Err-ran-clause-next : goal.returns-in-Err-ran-clause-next
returns-in-Err-ran-clause-next g c =
    let is = seen g (goal.at.returns-in-Err-ran-clause-next g c).After-go_to_event-step in (
      record {
        overflows = overflows_later (IsRuled2 c.args.rule.now.nearest) (view_of
            c.args.f.now.machine c.args.from c.args.s.now None) is.silent
            c.go_to_event-step.result.tick c.in-Err-ran.over.var (c.requires.is_store.over
            ∙ c.loop-tick.invariant.began) c.go_to_event-step.ensures.tick_limit
            (rw (ap overflow_of c.in-Err-ran.is) at is.visit);
        own_rows = c.set_overflow_row-in-Err-ran.ensures;
        here = refl;
      },
      refl,
    )

pub returns-then-not-is_empty-clause-next : goal.returns-then-not-is_empty-clause-next
returns-then-not-is_empty-clause-next g c =
    let is = seen g (goal.at.returns-then-not-is_empty-clause-next g c).After-go_to_event-step in
    let stepped = rw (ap overflow_of c.in_default-ran.is) at is.visit in (
      is.silent,
      record {
        goes = record {
          within = c.requires.is_store.over ∙ c.loop-tick.invariant.began;
          leads = stepped.leads;
        };
        is_next = stepped.is_next;
        in_time = c.go_to_event-step.ensures.tick_limit;
        is_step = stepped.is_step;
        own_rows = is.rows (ap overflow_of c.in_default-ran.is);
        some_rows = some_rows c.go_to_event-step.new.s.rows (sym c.is_empty.ensures
            ∙ c.if-not-is_empty.true);
        here = refl;
      },
      refl,
    )

pub returns-then-not-is_empty-clause-is_store : goal.returns-then-not-is_empty-clause-is_store
returns-then-not-is_empty-clause-is_store g c e = c.go_to_event-step.ensures.is_store (ap
    overflow_of c.in_default-ran.is)

pub loop-tick-preserved : goal.loop-tick-preserved
loop-tick-preserved g c =
    let is = seen g (goal.at.loop-tick-preserved g c).After-go_to_event-step in
    let within = ap overflow_of c.in_default-ran.is in
    record {
      is_store = c.go_to_event-step.ensures.is_store within;
      within = ap overflow_of c.go_to_event-step.ensures.same ∙ c.loop-tick.invariant.within;
      began = c.loop-tick.invariant.began;
      in_time = c.go_to_event-step.ensures.tick_limit;
      are_silent = (
        is.silent ++ _ ∷ [],
        silent_visit (IsRuled2 c.args.rule.now.nearest) c.args.f.now.machine c.args.from _ is.silent
            c.go_to_event-step.result.tick _ (rw within at is.visit) (sym (is.rows within)
            ∙ no_rows c.go_to_event-step.new.s.rows (sym c.is_empty.ensures
            ∙ c.if-not-is_empty.false)),
      );
    }

pub returns-clause-next : goal.returns-clause-next
returns-clause-next g c =
    let m = c.args.f.now.machine in
    let before = c.loop-tick.invariant.are_silent in
    let end : c.loop-tick.tick ≡ m.last = omega (
      arith,
      c.loop-tick.invariant.in_time,
      c.loop-tick-test.false,
    ) in (
      before.0,
      record {
        goes = record {
          within = c.requires.is_store.over ∙ c.loop-tick.invariant.began;
          leads =
              before.1.leads;
        };
        at_last = before.1.as_many ∙ end;
        snapshot = ap (λ (t : ℕ). snapshot_of (motion_at m c.loop-tick.s.motion t)) (sym end)
            ∙ sym before.1.reached;
        own_rows = c.set_end_rows.ensures ∙ ap (λ (t : ℕ).
            end_rows m t (snapshot_of (motion_at m c.loop-tick.s.motion t))) end;
        here = refl;
      },
      refl,
    )

pub set_end_rows-requires-clause-moves : goal.set_end_rows-requires-clause-moves
set_end_rows-requires-clause-moves g c =
    let is_store = c.loop-tick.invariant.is_store in
    let goes = is_store.goes c.loop-tick.invariant.within in
    can_move is_store.fits.lists goes.movable c.loop-tick.tick (omega arith) goes.in_window
