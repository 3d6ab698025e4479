use Rattle.mu_affine.proofs.Common.{◌≡◌, AreZeros, length}
use Rattle.mu_affine.proofs.normal_forms.zero_forms.Given as goal

-- the forms so far
abbrev pub invariant-loop-made : goal.invariant-loop-made
invariant-loop-made l = record { zeros : AreZeros l.forms.items; one_each : length l.forms.items ≡ l._made }
