-- The variable that exceeds its limit, or none.
use Rattle.qss_devs.proofs.Common
use Common.{ℕ, ◌≡◌, Bool, Err, false, if◌then◌else◌, None, overflow_of, refl, Result, Some, true}
use Rattle.qss_hand.specs.declared.handler_statements.Over.{Over}

-- an error has an overflow
pub no_overflow : {T A : Type 0} (r : Result T Over) (e : Over) → r ≡ Err e → overflow_of r ≡ None → A
no_overflow r e is none = let some : Some e.var ≡ None = rw is at none in absurd (cc)

-- the test of a limit, from the variable that exceeds it
pub not_past : {X : Type 0} (b : Bool) (x : X) → None ≡ (if b then Some x else None) → b ≡ false
not_past false x e = refl
not_past true x e = absurd (cc)

pub is_past : (b : Bool) (x y : ℕ) → Some y ≡ (if b then Some x else None) → (b ≡ true) × (y ≡ x)
is_past true x y e = (refl, cc)
is_past false x y e = absurd (cc)
