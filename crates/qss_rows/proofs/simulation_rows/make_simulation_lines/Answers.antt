use Rattle.qss_rows.proofs.Common
use Common.{ℕ, ◌++◌, ◌<◌, ◌∙◌, ◌≡◌, ap, arith, bytes_in, length, line_at, List, subst, sym, take}
use Common.{take_all, text_in}
use Rattle.std.proofs.lemmas.Result.{on_err_weaker}
use Rattle.qss_rows.proofs.WrittenLines.{text_more, some_where}
use Rattle.qss_rows.proofs.simulation_rows.make_simulation_lines.Goals as goal

pub loop-row-init : goal.loop-row-init
loop-row-init g c = c.clear.ensures

pub loop-row-preserved : goal.loop-row-preserved
loop-row-preserved g c =
    let lines = g.S.Simulation.present c.args.sim.now in
    let inside : c.loop-row.row < length lines = omega (arith, c.loop-row-test.true, c.row_count-row-end.ensures) in
    c.in_ok-add_line.ensures.added ∙ ap (λ (l : List ℕ). l ++ bytes_in (line_at lines c.loop-row.row)) c.loop-row.invariant ∙ sym (text_more lines c.loop-row.row inside)

pub returns-clause-memory_was_needed : goal.returns-clause-memory_was_needed
returns-clause-memory_was_needed g c =
    let lines = g.S.Simulation.present c.args.sim.now in
    let whole : text_in (take c.loop-row.row lines) ≡ text_in lines = ap text_in (take_all c.loop-row.row lines (omega (arith, c.loop-row-test.false, c.row_count-row-end.ensures))) in
    on_err_weaker c.finish.result (λ some. some_where lines (subst (λ (l : List ℕ). 0 < length l) (c.loop-row.invariant ∙ whole) some)) c.finish.ensures.memory_was_needed
