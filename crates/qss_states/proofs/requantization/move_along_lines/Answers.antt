-- One more state arrives.
use Rattle.qss_states.proofs.Common
use Common.{ℕ, ℤ, ◌+◌, ◌<◌, ◌∙◌, ◌≡◌, ap, arith, exceeds, false, FitsSigned, get_or, length}
use Common.{line_at, overflow_of, pos, refl, state_at, subst, sym, to_z-of_z, w128, written_all}
use Common.{written_more}
use Rattle.std.proofs.lemmas.Bool.{both_ways}
use Rattle.qss_states.proofs.Found.{IsFoundIn, found_more, found_done}
use Rattle.qss_states.proofs.requantization.move_along_lines.Goals as goal

pub loop-state-init : goal.loop-state-init
loop-state-init c = record {
  written = record { as_many = refl; each = λ place e. absurd (both_ways false refl e); others = λ place e. refl };
  found = λ k h. absurd (omega (arith, h));
}

pub state_on_line-value-requires-clause-known : goal.state_on_line-value-requires-clause-known
state_on_line-value-requires-clause-known c = c.requires.due.below c.loop-state.state-index 0 c.loop-state-test.true

pub state_on_line-value-requires-clause-later : goal.state_on_line-value-requires-clause-later
state_on_line-value-requires-clause-later c =
    c.requires.may_arrive.later (get_or c.args.due.now c.loop-state.state-index 0) (c.requires.due.below c.loop-state.state-index 0 c.loop-state-test.true)

pub loop-state-preserved : goal.loop-state-preserved
loop-state-preserved c =
    let i = c.loop-state.state-index in
    let moved = c.args.due.now in
    let lines = c.args.lines.now in
    let tick = c.args.tick in
    let j : ℕ = get_or moved i 0 in
    let h : i < length moved = c.loop-state-test.true in
    let inside : j < length lines = c.requires.due.below i 0 h in
    let within : j < length c.loop-state.x = omega (arith, inside, c.loop-state.invariant.written.as_many, c.requires.may_arrive.as_many) in
    let value : ℤ = c.state_on_line-value.result in
    let fits : FitsSigned w128 value = record { sfits = c.state_on_line-value.type_inv } in
    let here : value ≡ state_at (line_at lines j) tick = c.state_on_line-value.ensures in
    let test : exceeds 88 (state_at (line_at lines j) tick) ≡ c.exceeds_power_of_two.result =
    ap (exceeds 88) (sym here) ∙ sym (rw (to_z-of_z w128 value fits) at c.exceeds_power_of_two.ensures) in
    record {
      written = written_more (pos 0) (λ k z. z ≡ state_at (line_at lines k) tick) moved c.args.x.now c.loop-state.x i _ h within c.loop-state.invariant.written (to_z-of_z w128 value fits ∙ here);
      found = subst (IsFoundIn (λ k. exceeds 88 (state_at (line_at lines k) tick)) moved (i + 1)) (sym c.first_past-first.ensures)
          (found_more (λ k. exceeds 88 (state_at (line_at lines k) tick)) moved i (overflow_of c.loop-state.first) c.exceeds_power_of_two.result c.requires.due.rising h c.loop-state.invariant.found test);
    }

pub returns-clause-arrived : goal.returns-clause-arrived
returns-clause-arrived c =
    written_all (pos 0) (λ k z. z ≡ state_at (line_at c.args.lines.now k) c.args.tick) c.args.due.now c.args.x.now c.loop-state.x c.loop-state.state-index c.loop-state-test.false
    c.loop-state.invariant.written

pub returns-clause-first : goal.returns-clause-first
returns-clause-first c =
    found_done (λ k. exceeds 88 (state_at (line_at c.args.lines.now k) c.args.tick)) c.args.due.now c.loop-state.state-index (overflow_of c.loop-state.first) c.loop-state-test.false c.loop-state.invariant.found
