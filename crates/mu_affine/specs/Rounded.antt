-- Rounding of exact forms and variables to the units of a machine.
use Rattle.std.specs.Prelude.{ℕ, ◌+◌, ◌^◌, Bool, not, List, map, filter, ℤ, pos, ◌*ℤ◌}
use Rattle.std.specs.Ordering.{int_eq}
use Rattle.mu_num.specs.Fraction.{Fraction}
use Rattle.mu_num.specs.Rounding.{floor_of, ceiling_of, nearest_of}
use Rattle.mu_affine.specs.declared.exact_form.ExactEntry.{ExactEntry}
use Rattle.mu_affine.specs.declared.exact_form.ExactProduct.{ExactProduct}
use Rattle.mu_affine.specs.declared.exact_form.ExactForm.{ExactForm}
use Rattle.mu_tree.specs.FlatExpression.{FlatVariable}
use Rattle.qss_machine.specs.declared.machine_parts.Entry.{Entry}
use Rattle.qss_machine.specs.declared.machine_parts.Product.{Product}
use Rattle.qss_machine.specs.declared.machine_parts.SlopeRow.{SlopeRow}
use Rattle.qss_machine.specs.declared.machine_parts.Form.{Form}
use Rattle.qss_machine.specs.declared.machine_parts.StateInfo.{StateInfo}
use Rattle.qss_machine.specs.declared.machine_parts.DiscreteInfo.{DiscreteInfo}

-- a fraction in units of 2 ^ -bits, rounded to the nearest, ties to even
abbrev pub rounded : ℕ → Fraction → ℤ
rounded bits r = nearest_of (r.num *ℤ pos (2 ^ bits)) (pos r.den)

-- a fraction in units of 2 ^ -bits, rounded down
abbrev pub rounded_down : ℕ → Fraction → ℤ
rounded_down bits r = floor_of (r.num *ℤ pos (2 ^ bits)) (pos r.den)

-- a fraction in units of 2 ^ -bits, rounded up
abbrev pub rounded_up : ℕ → Fraction → ℤ
rounded_up bits r = ceiling_of (r.num *ℤ pos (2 ^ bits)) (pos r.den)

-- whether a number is not 0
abbrev pub is_some_number : ℤ → Bool
is_some_number z = not (int_eq z (pos 0))

-- the rounded entry of a coefficient
abbrev pub entry_of : ℕ → ExactEntry → Entry
entry_of p e = record { var = e.var; coef = rounded p e.coef }

-- the rounded entries, without those that are 0
abbrev pub rounded_entries : ℕ → List ExactEntry → List Entry
rounded_entries p es = filter (λ e. is_some_number e.coef) (map (entry_of p) es)

-- the rounded product of a coefficient
abbrev pub product_of : ℕ → ExactProduct → Product
product_of p e = record { state = e.state; discrete = e.discrete; coef = rounded p e.coef }

-- the rounded products, without those that are 0
abbrev pub rounded_products : ℕ → List ExactProduct → List Product
rounded_products p es = filter (λ e. is_some_number e.coef) (map (product_of p) es)

-- the rounded right-hand side of a state's equation
abbrev pub rounded_row : (p f : ℕ) → ExactForm → SlopeRow
rounded_row p f form = record {
  entries = rounded_entries p form.entries;
  products = rounded_products p form.products;
  beta = rounded (f + p) form.constant;
}

-- the rounded form of a condition or a statement
abbrev pub rounded_form : (p f : ℕ) → ExactForm → Form
rounded_form p f form = record {
  entries = rounded_entries p form.entries;
  time = rounded p form.time;
  gamma = rounded (f + p) form.constant;
}

-- a rounded state: its start value to the nearest, its quantum rounded down
abbrev pub rounded_state : (p k f : ℕ) → FlatVariable → StateInfo
rounded_state p k f v = record { name = v.name; x0 = rounded (f + p + k) v.start; quantum = rounded_down f v.quantum }

-- a rounded discrete variable
abbrev pub rounded_discrete : (f : ℕ) → FlatVariable → DiscreteInfo
rounded_discrete f v = record { name = v.name; d0 = rounded f v.start }
