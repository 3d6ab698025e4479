use Rattle.mu_affine.proofs.Common
use Common.{◌-◌, ◌^◌, ◌≡◌, ◌≤◌, AreKept, flat_model, keep_states, kept_so_far, length}
use Rattle.mu_affine.proofs.normal_forms.keep_normal_state_forms.Given as goal

-- the states that are left after the forms so far are all
abbrev pub invariant-loop-var : goal.invariant-loop-var
invariant-loop-var l = record {
  rest : keep_states (flat_model l.m) l.var (l.sizes.states - l.var) (kept_so_far l.solved l.kept) ≡ keep_states (flat_model l.m) 0 l.sizes.states (kept_so_far l.solved l.initial.kept);
  kept : AreKept l.sizes l.kept.forms.items;
  one_each : length l.kept.forms.items ≡ l.var;
  few : l.kept.count ≤ 2 ^ 16;
}
