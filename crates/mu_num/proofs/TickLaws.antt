-- What does not rise passes no distance that it does not pass at once.
use Rattle.mu_num.proofs.Common.{ℕ, ℤ, ◌*ℤ◌, ◌<ℤ◌, ◌<◌, ◌≤ℤ◌, arith, ints, pos, suc, suc_ℤ-*ℤ, zero}
use Rattle.mu_num.proofs.Integers.{mul-nonpos}

-- what does not rise never passes what it does not pass in one tick
pub never_past : (dist speed : ℤ) → speed ≤ℤ pos 0 → speed ≤ℤ dist → (m : ℕ) → 0 < m → dist <ℤ (pos m *ℤ speed) → ⊥
never_past dist speed down one zero positive past = omega arith
never_past dist speed down one (suc m) positive past = omega (arith, ints, mul-nonpos m speed down, suc_ℤ-*ℤ (pos m) speed)
