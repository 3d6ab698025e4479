-- Each clause runs; an overflow ends the loop.
use Rattle.qss_devs.proofs.Common
use Common.{[], ◌+◌, ◌<◌, ◌∙◌, ◌≡◌, ◌≤◌, ap, arith, Bool, clause_at, conditions_few, drop}
use Common.{due_flags, Err, flags_from, HandlerState, handling_of, length, List, overflow_of, refl}
use Common.{rules, run_clauses, sum_by_more, sym, values_after}
use Rattle.std.proofs.lemmas.List.{drop_all}
use Rattle.qss_machine.specs.declared.machine_parts.ClauseInfo.{ClauseInfo}
use Rattle.qss_hand.specs.Values.{Values}
use Rattle.qss_hand.proofs.AfterStatements.{from_start, all_done}
use Rattle.qss_hand.proofs.Turns.{clauses_few, room-drop, rows_turn}
use Rattle.qss_devs.proofs.DueFlags.{turn_within, turn, turn_done, turn_over, rows_fired}
use Rattle.qss_devs.proofs.coupled_branches.fire_clauses_on_arrival.Goals as goal

pub loop-clause-init : goal.loop-clause-init
loop-clause-init c = record {
  so_far = refl;
  same_tick = refl;
  same_before = refl;
  same_room = refl;
  room = omega (arith, ap length c.requires.fresh, c.requires.room);
  branches = refl;
  fits = c.requires.fits;
}

pub branch_count-count-requires : goal.branch_count-count-requires
branch_count-count-requires c = omega (arith, c.loop-clause-test.true, ap length c.as_slice-clause-end.ensures)

pub overflow_cast-clause : goal.overflow_cast-clause
overflow_cast-clause c = omega (arith, c.loop-clause-test.true, ap length c.as_slice-clause-end.ensures, clauses_few c.args.m.now)

pub fire_clause-requires : goal.fire_clause-requires
fire_clause-requires c =
    let m = c.args.m.now in
    let i = c.loop-clause.clause in
    let inv = c.loop-clause.invariant in
    let inside : i < length m.clauses =
    omega (arith, c.loop-clause-test.true, ap length c.as_slice-clause-end.ensures) in
    record {
      clause = inside;
      inside = turn_within m i c.loop-clause.first inside inv.branches;
      flags = c.requires.flags;
      fits = inv.fits;
      room = omega (arith, inv.room, room-drop m.clauses i (record { branches = [] }) inside);
    }

pub overflow_add-first : goal.overflow_add-first
overflow_add-first c =
    let inside : c.loop-clause.clause < length c.args.m.now.clauses = omega (arith, c.loop-clause-test.true, ap length c.as_slice-clause-end.ensures) in
    omega (arith, turn_within c.args.m.now c.loop-clause.clause c.loop-clause.first inside c.loop-clause.invariant.branches, c.branch_count-count.ensures, conditions_few c.args.m.now)

pub loop-clause-preserved : goal.loop-clause-preserved
loop-clause-preserved c =
    let m = c.args.m.now in
    let w : Values = c.loop-clause.work in
    let w0 : Values = c.args.work.now in
    let i = c.loop-clause.clause in
    let first = c.loop-clause.first in
    let due : List Bool = due_flags c.args.truths.now in
    let inv = c.loop-clause.invariant in
    let inside : i < length m.clauses = omega (arith, c.loop-clause-test.true, ap length c.as_slice-clause-end.ensures) in
    let values = c.fire_clause.ensures.values in
    let calm = ap overflow_of (sym c.in_ok-fire_clause.was) ∙ c.fire_clause.ensures.overflow in
    let width : first + c.branch_count-count.result ≡ first + length (clause_at m i).branches = ap (λ n. first + n) c.branch_count-count.ensures in
    record {
      so_far = inv.so_far ∙ turn_done m w0 w due i first inside inv.same_tick inv.same_before c.fire_clause.new.w values calm
          ∙ ap (λ n. run_clauses m w0.tick w0.pre (i + 1) (handling_of c.fire_clause.new.w) (drop (i + 1) m.clauses) (drop n due)) (sym width);
      same_tick = ap (λ (v : Values). v.tick) values ∙ inv.same_tick;
      same_before = ap (λ (v : Values). v.pre) values ∙ inv.same_before;
      same_room = ap (λ (v : Values). v.room) values ∙ inv.same_room;
      room = omega (
        arith,
        ap (λ (v : Values). v.room) values,
        ap (λ (v : Values). length v.log) values,
        rows_turn m w.tick w.pre i 0 (handling_of w) (clause_at m i).branches (flags_from first (length (clause_at m i).branches) due),
        inv.room,
        room-drop m.clauses i (record { branches = [] }) inside,
      );
      branches = omega (arith, inv.branches, width, sum_by_more (λ (k : ClauseInfo). length k.branches) m.clauses i (record { branches = [] }) inside);
      fits = c.fire_clause.ensures.fits;
    }

pub returns-in_err-fire_clause : goal.returns-in_err-fire_clause
returns-in_err-fire_clause c =
    let m = c.args.m.now in
    let w : Values = c.loop-clause.work in
    let w0 : Values = c.args.work.now in
    let i = c.loop-clause.clause in
    let first = c.loop-clause.first in
    let due : List Bool = due_flags c.args.truths.now in
    let inv = c.loop-clause.invariant in
    let inside : i < length m.clauses = omega (arith, c.loop-clause-test.true, ap length c.as_slice-clause-end.ensures) in
    let given : c.from_residual.result ≡ Err c.in_err-fire_clause.field-0.0 = search rules in
    let over = ap overflow_of (sym c.in_err-fire_clause.was) ∙ c.fire_clause.ensures.overflow in
    let end = turn_over m w0 w due i first inside inv.same_tick inv.same_before c.in_err-fire_clause.field-0.0.var over ∙ sym inv.so_far in
    let values =
    c.fire_clause.ensures.values
    ∙ from_start w0 w (turn m w0 w due i first inside inv.same_tick inv.same_before) inv.same_tick inv.same_before inv.same_room
    ∙ ap (values_after w0) end in
    let rows = rows_fired m w0 _ due c.requires.fresh values in
    record {
      values = values;
      overflow = ap overflow_of given ∙ over ∙ ap (λ (h : HandlerState). h.overflow) end;
      fits = c.fire_clause.ensures.fits;
      messages = rows.0;
      count = rows.1;
    }

pub returns : goal.returns
returns c =
    let m = c.args.m.now in
    let w0 : Values = c.args.work.now in
    let due : List Bool = due_flags c.args.truths.now in
    let inv = c.loop-clause.invariant in
    let done : length m.clauses ≤ c.loop-clause.clause = omega (arith, c.loop-clause-test.false, ap length c.as_slice-clause-end.ensures) in
    let none = ap (λ rest. run_clauses m w0.tick w0.pre c.loop-clause.clause (handling_of c.loop-clause.work) rest (drop c.loop-clause.first due)) (drop_all c.loop-clause.clause m.clauses done) in
    let all : handling_of c.loop-clause.work ≡ run_clauses m w0.tick w0.pre 0 (handling_of w0) m.clauses due = sym (inv.so_far ∙ none) in
    let values = all_done w0 c.loop-clause.work (run_clauses m w0.tick w0.pre 0 (handling_of w0) m.clauses due) all inv.same_tick inv.same_before inv.same_room in
    let rows = rows_fired m w0 _ due c.requires.fresh values in
    record {
      values = values;
      overflow = ap (λ (h : HandlerState). h.overflow) all;
      fits = inv.fits;
      messages = rows.0;
      count = rows.1;
    }
