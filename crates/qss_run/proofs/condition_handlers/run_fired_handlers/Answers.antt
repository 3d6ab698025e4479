-- The first due branch of each clause fires; an overflow ends them.
use Rattle.qss_run.proofs.Common
use Common.{ℕ, ◌+◌, ◌<◌, ◌∙◌, ◌≡◌, ◌≤◌, Action, ap, AreValuesOf, arith, Bool, branch_at}
use Common.{BranchPlace, clauses_few, clauses_stay, drop, Err, first_place, flags_of, get_or}
use Common.{HandlerState, handling_of, length, List, Machine, None, overflow_of, refl, row_room}
use Common.{rules, run_branch, run_clauses, Some, subst, sym, Values, values_after}
use Rattle.qss_hand.proofs.AfterStatements.{whole, from_start, all_done}
use Rattle.qss_run.proofs.Branches.{place_at}
use Rattle.qss_hand.proofs.Turns.{rows_branch}
use Rattle.qss_run.proofs.Firings.{clauses_from, fires_here, passed_on, fires_no_more, no_flag}
use Rattle.qss_run.proofs.Firings.{room_for, is_of}
use Rattle.qss_run.proofs.condition_handlers.run_fired_handlers.Goals.{then-at-next+in_ok-fire}
use Rattle.qss_run.proofs.condition_handlers.run_fired_handlers.Goals.{else-at-next}
use Rattle.qss_run.proofs.condition_handlers.run_fired_handlers.Goals as goal

pub fire-requires-clause-room : goal.fire-requires-clause-room
fire-requires-clause-room c =
    let own = is_of c.args.m.now c.args.branches.now c.args.fired.now c.loop-place.place-index c.requires.due.of c.requires.due.numbers c.loop-place-test.true in
    omega (arith, c.loop-place.invariant.room, room_for c.args.m.now c.loop-place.next _ _ c.if-at-next.true own.clause_known own.branch_known)

pub overflow_add-next : goal.overflow_add-next
overflow_add-next c =
    let own = is_of c.args.m.now c.args.branches.now c.args.fired.now c.loop-place.place-index c.requires.due.of c.requires.due.numbers c.loop-place-test.true in
    omega (arith, own.clause_known, clauses_few c.args.m.now)

-- a branch fires at a tick that is still the first one's
same_turn : (m : Machine) (w0 w : Values) (clause branch : ℕ) (actions : List Action) → w.tick ≡ w0.tick → w.pre ≡ w0.pre →
    run_branch m w.tick w.pre clause branch (handling_of w) actions ≡ run_branch m w0.tick w0.pre clause branch (handling_of w) actions
same_turn m w0 w clause branch actions tick before =
    ap (λ t. run_branch m t w.pre clause branch (handling_of w) actions) tick ∙ ap (λ p. run_branch m w0.tick p clause branch (handling_of w) actions) before

pub loop-place-preserved : goal.loop-place-preserved
loop-place-preserved c =
    let m = c.args.m.now in
    let w0 : Values = c.args.w.now in
    let v : Values = c.loop-place.w in
    let i = c.loop-place.place-index in
    let inv = c.loop-place.invariant in
    let fired = c.args.fired.now in
    let at : BranchPlace = place_at c.args.branches.now (get_or fired i 0) in
    let own = is_of m c.args.branches.now fired i c.requires.due.of c.requires.due.numbers c.loop-place-test.true in
    let actions : List Action = (branch_at m at.clause at.branch).actions in
    let flags : List Bool = flags_of (length c.args.branches.now) fired in
    let all = clauses_from m w0.tick w0.pre flags in
    elim c.if-at-next.branch [
      | then-at-next+in_ok-fire w ↦
          let turn : HandlerState = run_branch m v.tick v.pre at.clause at.branch (handling_of v) actions in
          let values : c.if-at-next.w ≡ values_after v turn = w.w-is ∙ w.fire.ensures.values in
          let calm : None ≡ turn.overflow = ap overflow_of (sym w.in_ok-fire.was) ∙ w.fire.ensures.overflow in
          let after : handling_of c.if-at-next.w ≡ run_branch m w0.tick w0.pre at.clause at.branch (handling_of v) actions = ap handling_of values ∙ whole turn (sym calm) ∙ same_turn m w0 v at.clause at.branch actions inv.same_tick inv.same_before in
          let next : c.if-at-next.next ≡ at.clause + 1 = w.next-is in
          let order : c.loop-place.next ≤ at.clause = w.if-at-next.true in
          record {
            so_far = inv.so_far ∙ fires_here m c.args.branches.now fired i c.requires.due.of c.requires.due.numbers c.loop-place-test.true w0.tick w0.pre c.loop-place.next (handling_of v) refl order inv.passed
                ∙ ap (all (at.clause + 1)) (sym after) ∙ ap (λ n. all n (handling_of c.if-at-next.w)) (sym next);
            passed = passed_on m c.args.branches.now fired i c.requires.due.of c.requires.due.numbers c.loop-place-test.true c.loop-place.next c.if-at-next.next inv.passed (omega (arith, next, order)) (omega (arith, next))
                (omega (arith, next, own.clause_known));
            known = omega (arith, next, own.clause_known);
            same_tick = ap (λ (x : Values). x.tick) values ∙ inv.same_tick;
            same_before = ap (λ (x : Values). x.pre) values ∙ inv.same_before;
            same_room = ap (λ (x : Values). x.room) values ∙ inv.same_room;
            room = omega (
              arith,
              ap (λ (x : Values). x.room) values,
              ap (λ (x : Values). length x.log) values,
              rows_branch m v.tick v.pre at.clause at.branch (handling_of v) actions,
              inv.room,
              room_for m c.loop-place.next at.clause at.branch order own.clause_known own.branch_known,
              ap (λ n. row_room (drop n m.clauses)) next,
            );
            fits = subst (AreValuesOf m) (sym w.w-is) w.fire.ensures.fits;
          }
      | else-at-next w ↦
          let next : c.if-at-next.next ≡ c.loop-place.next = w.next-is in
          let same : c.if-at-next.w ≡ v = w.w-is in
          let order : at.clause < c.loop-place.next = w.if-at-next.false in
          record {
            so_far = inv.so_far ∙ ap (λ (x : Values). all c.loop-place.next (handling_of x)) (sym same) ∙ ap (λ n. all n (handling_of c.if-at-next.w)) (sym next);
            passed = passed_on m c.args.branches.now fired i c.requires.due.of c.requires.due.numbers c.loop-place-test.true c.loop-place.next c.if-at-next.next inv.passed (omega (arith, next)) (omega (arith, next, order))
                (omega (arith, next, inv.known));
            known = omega (arith, next, inv.known);
            same_tick = ap (λ (x : Values). x.tick) same ∙ inv.same_tick;
            same_before = ap (λ (x : Values). x.pre) same ∙ inv.same_before;
            same_room = ap (λ (x : Values). x.room) same ∙ inv.same_room;
            room = omega (arith, ap (λ (x : Values). x.room) same, ap (λ (x : Values). length x.log) same, inv.room, ap (λ n. row_room (drop n m.clauses)) next);
            fits = subst (AreValuesOf m) (sym same) inv.fits;
          }
    ]

pub returns-in_err-fire : goal.returns-in_err-fire
returns-in_err-fire c =
    let m = c.args.m.now in
    let w0 : Values = c.args.w.now in
    let v : Values = c.loop-place.w in
    let inv = c.loop-place.invariant in
    let fired = c.args.fired.now in
    let at : BranchPlace = place_at c.args.branches.now (get_or fired c.loop-place.place-index 0) in
    let actions : List Action = (branch_at m at.clause at.branch).actions in
    let flags : List Bool = flags_of (length c.args.branches.now) fired in
    let turn : HandlerState = run_branch m w0.tick w0.pre at.clause at.branch (handling_of v) actions in
    let same = same_turn m w0 v at.clause at.branch actions inv.same_tick inv.same_before in
    let given : c.from_residual.result ≡ Err c.in_err-fire.field-0.0 = search rules in
    let over : Some c.in_err-fire.field-0.0.var ≡ turn.overflow = ap overflow_of (sym c.in_err-fire.was) ∙ c.fire.ensures.overflow ∙ ap (λ (h : HandlerState). h.overflow) same in
    let end : turn ≡ run_clauses m w0.tick w0.pre 0 (handling_of w0) m.clauses flags =
    sym (inv.so_far
    ∙ fires_here m c.args.branches.now fired c.loop-place.place-index c.requires.due.of c.requires.due.numbers c.loop-place-test.true w0.tick w0.pre c.loop-place.next (handling_of v) refl c.if-at-next.true inv.passed
    ∙ clauses_stay m w0.tick w0.pre (at.clause + 1) turn c.in_err-fire.field-0.0.var (drop (at.clause + 1) m.clauses) (drop (first_place m.clauses (at.clause + 1)) flags) (sym over)) in
    record {
      values = c.fire.ensures.values ∙ ap (values_after v) same ∙ from_start w0 v turn inv.same_tick inv.same_before inv.same_room ∙ ap (values_after w0) end;
      overflow = ap overflow_of given ∙ over ∙ ap (λ (h : HandlerState). h.overflow) end;
      fits = c.fire.ensures.fits;
    }

pub returns : goal.returns
returns c =
    let m = c.args.m.now in
    let w0 : Values = c.args.w.now in
    let v : Values = c.loop-place.w in
    let inv = c.loop-place.invariant in
    let fired = c.args.fired.now in
    let count : ℕ = length c.args.branches.now in
    let none = λ (place : ℕ) (low : first_place m.clauses c.loop-place.next ≤ place).
    no_flag count c.loop-place.place-index (first_place m.clauses c.loop-place.next) place fired inv.passed low (λ k later inside. absurd (omega (arith, later, inside, c.loop-place-test.false))) in
    let all : handling_of v ≡ run_clauses m w0.tick w0.pre 0 (handling_of w0) m.clauses (flags_of count fired) = sym (inv.so_far ∙ fires_no_more m w0.tick w0.pre (flags_of count fired) c.loop-place.next (handling_of v) refl inv.known none) in
    record {
      values = all_done w0 v (run_clauses m w0.tick w0.pre 0 (handling_of w0) m.clauses (flags_of count fired)) all inv.same_tick inv.same_before inv.same_room;
      overflow = ap (λ (h : HandlerState). h.overflow) all;
      fits = inv.fits;
    }
