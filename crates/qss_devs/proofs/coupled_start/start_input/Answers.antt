-- The entry has the line of its variable.
use Rattle.qss_devs.proofs.Common
use Common.{ℤ, ◌-◌, ◌<◌, ◌∙◌, ◌≡◌, ◌≤◌, ap, arith, Entry, FitsSigned, Input, int_at, length, Moving}
use Common.{moving_state, pos, start_values, state_count, sym, to_z-of_z, Values, w128}
use Rattle.qss_devs.proofs.Begun.{start_each, moving_later}
use Rattle.qss_devs.proofs.coupled_start.start_input.Goals as goal

abbrev input : Entry → Moving → Input
input entry moving = record { var = entry.var; coef = entry.coef; tick = 0; at = moving.at; speed = moving.speed }

pub state-at-requires : goal.state-at-requires
state-at-requires c = omega (arith, c.if-var-states.true, ap length c.as_slice-states.ensures, ap (λ (v : Values). length v.states) c.requires.values, (start_each c.args.m.now).states)

pub slope-speed-requires : goal.slope-speed-requires
slope-speed-requires c = omega (arith, c.if-var-states.true, ap length c.as_slice-states.ensures, ap (λ (v : Values). length v.slopes) c.requires.values, (start_each c.args.m.now).slopes)

pub start_discrete-at-requires-clause-known : goal.start_discrete-at-requires-clause-known
start_discrete-at-requires-clause-known c = omega (arith, c.if-var-states.false, ap length c.as_slice-states.ensures, c.requires.known)

pub returns-then-var-states : goal.returns-then-var-states
returns-then-var-states c =
    let m = c.args.m.now in
    let entry : Entry = c.args.entry in
    let below : entry.var < state_count m = omega (arith, c.if-var-states.true, ap length c.as_slice-states.ensures) in
    let at : FitsSigned w128 c.state-at.result = record { sfits = c.state-at.type_inv } in
    let speed : FitsSigned w128 c.slope-speed.result = record { sfits = c.slope-speed.type_inv } in
    let begun : c.begin_start_input.result ≡ input entry (record { at = c.state-at.result; speed = c.slope-speed.result }) = simp to_z-of_z at c.begin_start_input.ensures in
    let own_at = c.state-at.ensures ∙ ap (λ (v : Values). int_at v.states entry.var) c.requires.values in
    let own_speed = c.slope-speed.ensures ∙ ap (λ (v : Values). int_at v.slopes entry.var) c.requires.values in
    begun ∙ rw (own_at, own_speed) (ap (input entry) (sym (moving_state m (start_values m) entry.var below)))

pub returns-else-var-states : goal.returns-else-var-states
returns-else-var-states c =
    let m = c.args.m.now in
    let entry : Entry = c.args.entry in
    let past : state_count m ≤ entry.var = omega (arith, c.if-var-states.false, ap length c.as_slice-states.ensures) in
    let place : entry.var - length c.as_slice-states.result.now ≡ entry.var - state_count m = ap (λ n. entry.var - n) (ap length c.as_slice-states.ensures) in
    let at : FitsSigned w128 c.start_discrete-at.result = record { sfits = c.start_discrete-at.type_inv } in
    let begun : c.begin_start_input-else-var-states.result ≡ input entry (record { at = c.start_discrete-at.result; speed = pos 0 }) = simp to_z-of_z at c.begin_start_input-else-var-states.ensures in
    begun
    ∙ ap (λ (z : ℤ). input entry (record { at = z; speed = pos 0 })) (simp place at c.start_discrete-at.ensures)
    ∙ ap (input entry) (sym (moving_later m entry.var past))
