-- A tick is a step of the run.
use Rattle.qss_own_traces.proofs.Common
use Common.{ℤ, ◌∙◌, ◌≡◌, ap, ap₂, changed, false, first_exceeding_limit, is_limit_check}
use Common.{is_requantization, List, overflow_of, snapshot_of, sym, true}
use Rattle.qss_own_traces.proofs.FirstSteps.{same_items}
use Rattle.qss_own_traces.proofs.SecondSteps.{changed_are, step_looked, step_calm}
use Rattle.qss_own_traces.proofs.second_order_trace.SecondPlace.advance_tick.Goals as goal

pub settle-requires-clause-held : goal.settle-requires-clause-held
settle-requires-clause-held c = rw c.move_on-requantized.ensures.changes c.requires.stands.held

pub returns-then-is_check_due-clause-step : goal.returns-then-is_check_due-clause-step
returns-then-is_check_due-clause-step c =
    let m = c.args.m.now in
    let w = snapshot_of c.args.self.now in
    let on = c.move_on-requantized.new.self in
    let moves = c.move_on-requantized.ensures in
    let looks : is_limit_check m c.args.tick (is_requantization m w) ≡ true =
    ap (is_limit_check m c.args.tick) (sym moves.value) ∙ sym c.is_check_due.ensures
    ∙ c.if-is_check_due.true in
    let changes = ap₂ (λ (ms cs : List ℤ). changed m on.left.items ms cs) moves.levels
    (same_items moves.changes) ∙ changed_are m c.args.tick w on.left.items moves.left in
    step_looked m c.args.tick w (overflow_of c.settle.result) (snapshot_of c.settle.new.self) looks
    (c.settle.ensures.overflow ∙ ap₂ (first_exceeding_limit m) moves.levels changes)
    (same_items c.settle.ensures.kept.0 ∙ moves.states)
    (same_items c.settle.ensures.kept.1 ∙ moves.levels)
    (λ e. c.settle.ensures.changes e ∙ changes)

pub returns-clause-step : goal.returns-clause-step
returns-clause-step c =
    let m = c.args.m.now in
    let w = snapshot_of c.args.self.now in
    let on = c.move_on-requantized.new.self in
    let moves = c.move_on-requantized.ensures in
    let calm : is_limit_check m c.args.tick (is_requantization m w) ≡ false =
    ap (is_limit_check m c.args.tick) (sym moves.value) ∙ sym c.is_check_due.ensures
    ∙ c.if-is_check_due.false in
    step_calm m c.args.tick w (snapshot_of on) calm moves.states moves.levels
    (same_items moves.changes) c.requires.stands.sized.changes

pub returns-clause-held : goal.returns-clause-held
returns-clause-held c = λ e. rw c.move_on-requantized.ensures.changes c.requires.stands.held
