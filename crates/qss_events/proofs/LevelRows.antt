-- Rows of levels, one state after another.
use Rattle.qss_events.proofs.Common
use Common.{[], ℕ, ℤ, ◌++◌, ◌+◌, ◌∙◌, ◌∷◌, ◌≡◌, ap, arith, if◌then◌else◌, int_at, int_eq, List}
use Common.{range_with_len, Row, suc, zero}
use Rattle.qss_machine.specs.declared.machine_parts.RowKind.TheVariants as kind

-- the row of a state that takes a level, where it is another one
abbrev pub row_of : ℕ → ℕ → ℤ → ℤ → ℤ → List Row
row_of tick j old new state = if int_eq old new then [] else record { tick = tick; kind = kind.Level; var = j; level = new; state = state } ∷ []

abbrev pub level_row : ℕ → List ℤ → List ℤ → List ℤ → ℕ → List Row
level_row tick old new states j = row_of tick j (int_at old j) (int_at new j) (int_at states j)

-- one number more
pub range_more : (a n : ℕ) → range_with_len a (suc n) ≡ range_with_len a n ++ (a + n) ∷ []
range_more a zero = let e : a ≡ a + 0 = omega arith in ap (λ k. k ∷ []) e
range_more a (suc n) = let e : (a + 1) + n ≡ a + suc n = omega arith in ap (λ xs. a ∷ xs) (range_more (a + 1) n ∙ ap (λ k. range_with_len (a + 1) n ++ k ∷ []) e)
