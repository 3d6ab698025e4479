-- Numbering of variables: for each role, the number of the next variable.
use Rattle.std.specs.Prelude.{ℕ, ◌≡◌, ◌+◌, ◌≤◌, Option, Some, None}
use Rattle.mu_num.specs.Limits.{variable_limit}
use Rattle.mu_tree.specs.declared.flat.FlatRole.{FlatRole}
use Rattle.mu_tree.specs.declared.flat.FlatRole.TheVariants.{State, Discrete, Algebraic}
use Rattle.mu_names.specs.declared.declared_scope.Known.{Known}
use Rattle.mu_unroll.specs.declared.environment.NameDenotation.{NameDenotation}
use Rattle.mu_unroll.specs.declared.environment.NameDenotation.TheVariants.{Constant, Variable}
use Rattle.mu_unroll.specs.declared.flat_variables.Next.{Next}
use Rattle.mu_unroll.specs.VariablePlaces.{kind_of, width}

abbrev pub next_number : Next → FlatRole → ℕ
next_number n State = n.state
next_number n Discrete = n.discrete
next_number n Algebraic = n.algebraic

-- the next numbers after `count` more variables with this role
abbrev pub next_after : Next → FlatRole → ℕ → Next
next_after n State count = record n { state = n.state + count }
next_after n Discrete count = record n { discrete = n.discrete + count }
next_after n Algebraic count = record n { algebraic = n.algebraic + count }

-- what a declared name denotes if its variables get the next numbers
abbrev pub meant_at_next : Next → Known → NameDenotation
meant_at_next n k = by_kind (kind_of k.role)
  where
    by_kind : Option FlatRole → NameDenotation
    by_kind None = Constant k.value
    by_kind (Some kind) = Variable kind (next_number n kind) k.size

-- the next numbers after the variables of a declared name
abbrev pub after_known : Next → Known → Next
after_known n k = by_kind (kind_of k.role)
  where
    by_kind : Option FlatRole → Next
    by_kind None = n
    by_kind (Some kind) = next_after n kind (width k.size)

-- the variables of a declared name get numbers below 4,096
abbrev pub HasRoom : Next → Known → Type 0
HasRoom n k = (kind : FlatRole) → kind_of k.role ≡ Some kind → next_number n kind + width k.size ≤ variable_limit
