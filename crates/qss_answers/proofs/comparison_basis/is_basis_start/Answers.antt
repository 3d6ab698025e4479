use Rattle.qss_answers.proofs.Common.{◌∙◌, ◌≡◌, ap, arith, length, start_states, StateInfo, sym}
use Rattle.std.proofs.Common.{pos}
use Rattle.std.proofs.Math.Seq.{ext_get_or}
use Rattle.std.proofs.lemmas.List.{length-map}
use Rattle.qss_answers.proofs.comparison_basis.is_basis_start.Goals as goal

pub returns : goal.returns
returns c =
    let m = c.args.m.now in
    let many : length (start_states m) ≡ length m.states = length-map m.states (λ (state : StateInfo). state.x0) in
    let long = ap length c.as_slice-states.ensures in
    let all : length (start_states m) ≡ c.loop-j.j = omega (arith, many, long, c.loop-j-test.false, c.loop-j.auto.j-end) in (
      (λ t. ext_get_or (pos 0) (start_states m) c.args.start.now (many ∙ sym c.requires) (λ k h. c.loop-j.invariant k (omega (arith, h, all)))),
      (λ e. search),
    )
