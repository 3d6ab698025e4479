-- Defines when a line is replaced, and how replacements are counted.
use Rattle.std.specs.Prelude.{◌≡◌, ℕ, ◌+◌, ◌≤◌, Bool, not, ◌&&◌, List, ℤ, count_by}
use Rattle.std.specs.List.{range_with_len}
use Rattle.std.specs.Ordering.{int_eq}
use Rattle.mu_num.specs.IndexedSums.{int_at}
use Rattle.qss_quant.specs.IntegratorLines.{Line, state_at}
use Rattle.qss_states.specs.StateLines.{line_at}

-- a line has the same state at a tick as before, and the same slope and level
pub record IsAlong (tick : ℕ) (old new : Line) : Type 0 where
  pub not_later : new.tick ≤ tick
  pub here : state_at new tick ≡ state_at old tick
  pub same_slope : new.slope ≡ old.slope
  pub same_level : new.level ≡ old.level

-- whether a line has this level and slope
abbrev pub has_level_and_slope : ℤ → ℤ → Line → Bool
has_level_and_slope level slope line = int_eq line.level level && int_eq line.slope slope

-- whether a line has this level and slope, and this state at a tick
abbrev pub goes_from : ℕ → ℤ → ℤ → ℤ → Line → Bool
goes_from tick state level slope line = int_eq (state_at line tick) state && has_level_and_slope level slope line

-- the number of the n lines that have another level or slope than these
abbrev pub replaced_lines : ℕ → List ℤ → List ℤ → List Line → ℕ
replaced_lines n levels slopes lines = count_by (λ j. not (has_level_and_slope (int_at levels j) (int_at slopes j) (line_at lines j))) (range_with_len 0 n)

-- the number of the n lines that have another level or slope than these, or another state at a tick
abbrev pub replaced_lines_from : ℕ → ℕ → List ℤ → List ℤ → List ℤ → List Line → ℕ
replaced_lines_from n tick x levels slopes lines =
    count_by (λ j. not (goes_from tick (int_at x j) (int_at levels j) (int_at slopes j) (line_at lines j))) (range_with_len 0 n)

-- the number of moves is the number of lines that no longer have another level or slope than these
abbrev pub IsCounted : ℕ → List ℤ → List ℤ → List Line → List Line → ℕ → ℕ → Type 0
IsCounted n levels slopes old new steps_old steps_new = steps_new + replaced_lines n levels slopes new ≡ steps_old + replaced_lines n levels slopes old

-- the same, for another level, slope, or state at a tick
abbrev pub IsCountedFrom : ℕ → ℕ → List ℤ → List ℤ → List ℤ → List Line → List Line → ℕ → ℕ → Type 0
IsCountedFrom n tick x levels slopes old new steps_old steps_new = steps_new + replaced_lines_from n tick x levels slopes new ≡ steps_old + replaced_lines_from n tick x levels slopes old
