-- Each statement adds its part; the first that overflows ends them.
use Rattle.qss_hand.proofs.Common
use Common.{◌∙◌, ◌≡◌, ap, AreValuesOf, arith, fold, HandlerState, handling_of, length, run_action}
use Common.{Some, subst, sym, Values, values_after}
use Rattle.std.proofs.Common.{rules}
use Rattle.std.proofs.lemmas.List.{take_all}
use Rattle.std.specs.Prelude.{Err}
use Rattle.qss_hand.specs.Works.{overflow_of}
use Rattle.qss_hand.proofs.AfterStatements.{fits_action, rows_action, so_far_more, stuck}
use Rattle.qss_hand.proofs.AfterStatements.{from_start, all_done}
use Rattle.qss_hand.proofs.handler_statements.run_statements.Goals as goal

pub run_statement-requires-clause-room : goal.run_statement-requires-clause-room
run_statement-requires-clause-room c = rw c.loop-action.invariant.same_room (omega (arith, c.loop-action.invariant.few, c.requires.room, c.loop-action-test.true))

pub loop-action-preserved : goal.loop-action-preserved
loop-action-preserved c =
    let old = c.loop-action.invariant in
    let w : Values = c.loop-action.w in
    let values = c.run_statement.ensures.values in
    record {
      so_far = so_far_more c.args.m.now c.args.w.now w c.run_statement.new.w c.args.actions.now c.loop-action.action-index c.action-item.result c.loop-action-test.true c.action-item.is
          old.same_tick old.same_before old.so_far values (ap overflow_of (sym (c.in_ok-run_statement.was)) ∙ c.run_statement.ensures.overflow);
      same_tick = ap (λ (v : Values). v.tick) values ∙ old.same_tick;
      same_before = ap (λ (v : Values). v.pre) values ∙ old.same_before;
      same_room = ap (λ (v : Values). v.room) values ∙ old.same_room;
      few = omega (arith, ap (λ (v : Values). length v.log) values, rows_action c.args.m.now (handling_of w) w.tick w.pre c.action-item.result, old.few);
      fits = subst (AreValuesOf c.args.m.now) (sym values) (fits_action c.args.m.now w w.tick w.pre c.action-item.result old.fits);
    }

pub returns-in_err-run_statement : goal.returns-in_err-run_statement
returns-in_err-run_statement c =
    let old = c.loop-action.invariant in
    let w : Values = c.loop-action.w in
    let over : Some c.in_err-run_statement.field-0.0.var ≡ (run_action c.args.m.now w.tick w.pre (handling_of w) c.action-item.result).overflow =
    ap overflow_of (sym (c.in_err-run_statement.was)) ∙ c.run_statement.ensures.overflow in
    let given : c.from_residual.result ≡ Err c.in_err-run_statement.field-0.0 = search rules in
    let all : HandlerState = fold (run_action c.args.m.now c.args.w.now.tick c.args.w.now.pre) (handling_of c.args.w.now) c.args.actions.now in
    let end : run_action c.args.m.now w.tick w.pre (handling_of w) c.action-item.result ≡ all = stuck c.args.m.now c.args.w.now w c.args.actions.now c.loop-action.action-index c.action-item.result c.in_err-run_statement.field-0.0.var c.loop-action-test.true c.action-item.is
    old.same_tick old.same_before old.so_far over in
    record {
      values = c.run_statement.ensures.values
          ∙ from_start c.args.w.now w (run_action c.args.m.now w.tick w.pre (handling_of w) c.action-item.result) old.same_tick old.same_before old.same_room
          ∙ ap (values_after c.args.w.now) end;
      overflow = ap overflow_of given ∙ over ∙ ap (λ (h : HandlerState). h.overflow) end;
      fits = subst (AreValuesOf c.args.m.now) (sym c.run_statement.ensures.values) (fits_action c.args.m.now w w.tick w.pre c.action-item.result old.fits);
    }

pub returns : goal.returns
returns c =
    let old = c.loop-action.invariant in
    let all = old.so_far ∙ ap (fold (run_action c.args.m.now c.args.w.now.tick c.args.w.now.pre) (handling_of c.args.w.now)) (take_all c.loop-action.action-index c.args.actions.now c.loop-action-test.false) in
    record {
      values = all_done c.args.w.now c.loop-action.w (fold (run_action c.args.m.now c.args.w.now.tick c.args.w.now.pre) (handling_of c.args.w.now) c.args.actions.now) all old.same_tick old.same_before old.same_room;
      overflow = ap (λ (h : HandlerState). h.overflow) all;
      fits = old.fits;
    }
