-- Start values of variables.
use Rattle.mu_unroll.proofs.Common
use Common.{[], ℕ, ◌<◌, ◌∷◌, ◌≡◌, ◌≤◌, ap, arith, flat_variable, FlatVar, FlatVariable, Fraction}
use Common.{get_or, length, List, map, refl, start_at, suc, zero}
use Rattle.std.proofs.Common.{set}

-- the variable at a place gets a start value
pub start_set : (vs : List FlatVar) (place : ℕ) (d : FlatVar) (a : Fraction) → place < length vs → d ≡ get_or vs place d → map flat_variable (set vs place (record d { start = a })) ≡ start_at (map flat_variable vs) place a
start_set [] place d a h e = absurd (omega arith)
start_set (v ∷ vs) zero d a h e = ap (λ (x : FlatVar). flat_variable (record x { start = a }) ∷ map flat_variable vs) e
start_set (v ∷ vs) (suc place) d a h e = ap (λ xs. flat_variable v ∷ xs) (start_set vs place d a (omega arith) e)

-- and past the end nothing changes
pub start_past : (vs : List FlatVariable) (place : ℕ) (a : Fraction) → length vs ≤ place → start_at vs place a ≡ vs
start_past [] place a h = refl
start_past (v ∷ vs) zero a h = absurd (omega arith)
start_past (v ∷ vs) (suc place) a h = ap (λ xs. v ∷ xs) (start_past vs place a (omega arith))
