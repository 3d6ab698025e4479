use Rattle.mu_affine.proofs.Common
use Common.{ℕ, ◌<◌, ◌≡◌, ◌≤◌, drop, flat_equation, get_or, length, map, right_side, side_at}
use Rattle.mu_affine.proofs.normal_forms.first_normal_equations.Given as goal

-- the first equations of those that were looked at, from the last one down
abbrev pub invariant-loop-place : goal.invariant-loop-place
invariant-loop-place l = record {
  within : l.place ≤ length l.equations;
  one_each : length l.firsts.items ≡ l.variables;
  firsts : (v : ℕ) → v < length l.firsts.items → side_at (map flat_equation l.equations) (get_or l.firsts.items v 0) ≡ right_side (map flat_equation (drop l.place l.equations)) v;
}
