-- A number for each state.
use Rattle.qss_own_traces.proofs.Common
use Common.{ℕ, ◌∙◌, ◌≡◌, ap, arith, fine_count, fine_states, length, length-map, pos, replicate}
use Common.{state_count, true}
use Rattle.std.proofs.lemmas.List.{length-replicate}
use Rattle.qss_own_traces.proofs.second_order_trace.SecondPlace.new.Goals as goal

pub returns : goal.returns
returns c =
    let m = c.args.m.now in
    let many : length c.in_ok-states.states.items ≡ state_count m = ap length c.in_ok-states.ensures ∙ fine_count m in
    let levels = rw (c.deref.ensures.value, c.in_ok-states.ensures) at c.in_ok-levels.ensures in
    let count : c.len-count.result ≡ state_count m = omega (arith, c.len-count.ensures, c.in_ok-states.states.ok.0, many) in
    record {
      sized = record {
        states = many;
        levels = ap length levels ∙ length-map (fine_states m) _ ∙ fine_count m;
        changes = ap length c.in_ok-repeat_value.ensures ∙ length-replicate _ _ ∙ count;
        left = ap length c.in_ok-repeat_value-2.ensures ∙ length-replicate _ _ ∙ count;
      };
      states = c.in_ok-states.ensures;
      levels = levels;
      changes = c.in_ok-repeat_value.ensures ∙ ap (λ (k : ℕ). replicate k (pos 0)) count;
      left = c.in_ok-repeat_value-2.ensures ∙ ap (λ (k : ℕ). replicate k true) count;
    }
