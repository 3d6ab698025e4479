-- A line whose numbers went through the types of the code.
use Rattle.qss_components.proofs.Common
use Common.{ℕ, ℤ, ◌≡◌, FitsSigned, Line, of_z, to_z, to_z-of_z, w128, w64}

-- a line by its parts, the state last
abbrev pub line_at : ℕ → ℤ → ℤ → ℤ → Line
line_at tick slope level x = record { tick = tick; x = x; slope = slope; level = level }

pub line_is : (tick : ℕ) (x slope level : ℤ) → FitsSigned w128 x → FitsSigned w128 slope → FitsSigned w64 level →
    line_at tick (to_z w128 (of_z w128 slope)) (to_z w64 (of_z w64 level)) (to_z w128 (of_z w128 x)) ≡ line_at tick slope level x
line_is tick x slope level of_x of_slope of_level = simp to_z-of_z

-- where the level came from a wider type
pub line_cast : (tick : ℕ) (x slope level : ℤ) → FitsSigned w128 x → FitsSigned w128 slope → FitsSigned w64 level → FitsSigned w128 level →
    line_at tick (to_z w128 (of_z w128 slope)) (to_z w64 (of_z w64 (to_z w128 (of_z w128 level)))) (to_z w128 (of_z w128 x)) ≡ line_at tick slope level x
line_cast tick x slope level of_x of_slope of_level of_wide = simp to_z-of_z
