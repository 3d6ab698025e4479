-- The dependency graph: the right-hand sides and conditions that read a variable.
use Rattle.std.specs.Prelude.{ℕ, ◌+◌, Bool, ◌||◌, List, [], ◌∷◌, map, ℤ, ◌==◌, if◌then◌else◌}
use Rattle.std.specs.List.{list_any}
use Rattle.qss_machine.specs.declared.machine_parts.Entry.{Entry}
use Rattle.qss_machine.specs.declared.machine_parts.SlopeRow.{SlopeRow}
use Rattle.qss_machine.specs.declared.machine_parts.Condition.{Condition}
use Rattle.qss_machine.specs.declared.compiled_machine.Machine.{Machine}
use Rattle.mu_num.specs.IndexedSums.{tabulate}
use Rattle.qss_machine.specs.Machines.{state_count, discrete_count, row_coefficient}
use Rattle.qss_machine.specs.Handlers.{conditions}

-- whether one of the entries is of the variable
abbrev pub has_entry : ℕ → List Entry → Bool
has_entry var entries = list_any (λ entry. entry.var == var) entries

-- whether a right-hand side has an entry or a product of the variable
abbrev pub row_reads : ℕ → SlopeRow → Bool
row_reads var row = has_entry var row.entries || list_any (λ product. product.state == var || product.discrete == var) row.products

-- whether a condition's form has an entry of the variable
abbrev pub condition_reads : ℕ → Condition → Bool
condition_reads var condition = has_entry var condition.form.entries

-- the places of the elements that pass a test, in increasing order; the first element has place i
abbrev pub places_from : {X : Type 0} → (X → Bool) → ℕ → List X → List ℕ
places_from test i [] = []
places_from test i (x ∷ xs) = if test x then i ∷ places_from test (i + 1) xs else places_from test (i + 1) xs

-- the rows that read a variable, in increasing order
abbrev pub reading_rows : Machine → ℕ → List ℕ
reading_rows m var = places_from (row_reads var) 0 m.rows

-- the coefficients of a variable in the rows that read it, in the order of these rows
abbrev pub reading_coefficients : Machine → ℕ → List ℤ
reading_coefficients m var = map (λ row. row_coefficient m row var) (reading_rows m var)

-- the conditions that read a variable, in increasing order, numbered in source order
abbrev pub reading_conditions : Machine → ℕ → List ℕ
reading_conditions m var = places_from (condition_reads var) 0 (conditions m)

-- for each variable, the rows that read it, the conditions that read it (also for values before the
-- tick), and its coefficients in these rows
abbrev pub uses_of : Machine → List (List ℕ) × List (List ℕ) × List (List ℤ)
uses_of m = (
  tabulate (state_count m + discrete_count m) (reading_rows m),
  tabulate (state_count m + discrete_count m + discrete_count m) (reading_conditions m),
  tabulate (state_count m + discrete_count m) (reading_coefficients m),
)
