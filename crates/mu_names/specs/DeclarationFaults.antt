-- Declarations: their values, and the faults of their names and numbers.
use Rattle.std.specs.Prelude.{ℕ, ℤ, pos, Bool, true, false, ◌&&◌, nat_eq, int_le, unsigned_abs, if◌then◌else◌, List, [], ◌∷◌, ◌++◌, Option, Some, None, ◌^◌, is_some}
use Rattle.mu_num.specs.Fraction.{Fraction}
use Rattle.mu_tree.specs.declared.tree.Prefix.{Prefix}
use Rattle.mu_tree.specs.declared.tree.Prefix.TheVariants as prefix
use Rattle.mu_tree.specs.Expression.{Expression}
use Rattle.mu_tree.specs.ModelTree.{Declaration}
use Rattle.mu_names.specs.declared.name_fault.NameErr.{NameErr}
use Rattle.mu_names.specs.declared.name_fault.NameErr.TheVariants.{Misused, NoValue, NotWhole, Size}
use Rattle.mu_names.specs.declared.constant_values.Meaning.{Meaning}
use Rattle.mu_names.specs.declared.constant_values.Meaning.TheVariants as meaning
use Rattle.mu_names.specs.declared.name_kind.Role.{Role}
use Rattle.mu_names.specs.declared.name_kind.Role.TheVariants.{State, Discrete, Algebraic, Parameter}
use Rattle.mu_names.specs.declared.name_kind.NameKind.{NameKind}
use Rattle.mu_names.specs.declared.name_kind.NameKind.TheVariants.{Loop, Declared, Missing}
use Rattle.mu_names.specs.declared.declared_scope.DeclarationValues.{DeclarationValues}
use Rattle.mu_names.specs.Constant.{value, faults}
use Rattle.mu_names.specs.Naming.{taken_faults}
use Rattle.mu_names.specs.DeclaredRoles.{declared_as}
use Rattle.mu_names.specs.NameTables.{added_at}

-- what a name denotes that is not one of the constants so far; a parameter declared later is
-- undeclared
abbrev pub other_meaning : NameKind → Meaning
other_meaning (Declared Parameter array) = meaning.Undeclared
other_meaning (Declared State array) = meaning.Variable
other_meaning (Declared Discrete array) = meaning.Variable
other_meaning (Declared Algebraic array) = meaning.Variable
other_meaning Loop = meaning.Undeclared
other_meaning Missing = meaning.Undeclared

-- what a name denotes in a declaration or a setting
abbrev pub meaning_of : Option (Option Fraction) → NameKind → Meaning
meaning_of (Some v) other = meaning.Constant v
meaning_of None other = other_meaning other

-- what names denote, for these constants and declarations
abbrev pub meaning_after : (List ℕ → Option (Option Fraction)) → (List ℕ → NameKind) → List ℕ → Meaning
meaning_after constants declared name = meaning_of (constants name) (declared name)

-- the value and the faults of an optional expression
abbrev pub optional_value : (List ℕ → Meaning) → Option Expression → Option Fraction
optional_value means None = None
optional_value means (Some e) = value means e

abbrev pub optional_faults : (List ℕ → Meaning) → Option Expression → List NameErr
optional_faults means None = []
optional_faults means (Some e) = faults means e

-- an array size is from 1 to 4,096
abbrev pub is_size : ℤ → Bool
is_size n = int_le (pos 1) n && int_le n (pos (2 ^ 12))

-- the array size with this value, if it is valid
abbrev pub size_of : Option Fraction → Option ℕ
size_of None = None
size_of (Some a) = if nat_eq a.den 1 && is_size a.num then Some (unsigned_abs a.num) else None

-- the fault of an array size that is no integer from 1 to 4,096
abbrev pub size_faults : ℕ → Option Fraction → List NameErr
size_faults at None = []
size_faults at (Some a) = if nat_eq a.den 1 then (if is_size a.num then [] else Size at a.num ∷ []) else NotWhole at ∷ []

-- the fault of an Integer parameter whose value is no integer
abbrev pub whole_faults : Bool → ℕ → Option Fraction → List NameErr
whole_faults false at v = []
whole_faults true at None = []
whole_faults true at (Some a) = if nat_eq a.den 1 then [] else NotWhole at ∷ []

-- a parameter or a constant
abbrev pub is_constant : Prefix → Bool
is_constant prefix.Parameter = true
is_constant prefix.Constant = true
is_constant prefix.Discrete = false
is_constant prefix.Plain = false

-- a parameter needs a value and is no array; other variables have no binding
abbrev pub binding_faults : (constant array bound : Bool) → ℕ → List NameErr
binding_faults true true true at = Misused at ∷ []
binding_faults true true false at = Misused at ∷ NoValue at ∷ []
binding_faults true false true at = []
binding_faults true false false at = NoValue at ∷ []
binding_faults false array true at = Misused at ∷ []
binding_faults false array false at = []

-- the values of a declaration
abbrev pub valued : (List ℕ → Meaning) → Declaration → DeclarationValues
valued means d = record {
  size = size_of (optional_value means d.size);
  value = optional_value means d.value;
  start = optional_value means d.start;
  quantum = optional_value means d.quantum;
}

-- the faults of one declaration
abbrev pub declaration_faults : (List ℕ → Meaning) → Declaration → List NameErr
declaration_faults means d =
    optional_faults means d.size
    ++ (size_faults d.at (optional_value means d.size)
    ++ (optional_faults means d.start
    ++ (optional_faults means d.quantum
    ++ (optional_faults means d.value
    ++ (whole_faults (is_constant d.prefix && d.whole) d.at (optional_value means d.value)
    ++ binding_faults (is_constant d.prefix) (is_some d.size) (is_some d.value) d.at)))))

-- the constants after one more declaration; the first value of a name is kept
abbrev pub constants_with : (List ℕ → Meaning) → (List ℕ → Option (Option Fraction)) → Declaration → List ℕ → Option (Option Fraction)
constants_with means constants d = if is_constant d.prefix then added_at constants d.name (optional_value means d.value) else constants

-- no constants
abbrev pub no_constants : List ℕ → Option (Option Fraction)
no_constants name = None

-- the constants after declarations, each of which may use those before it
abbrev pub constants_after : (List ℕ → NameKind) → (List ℕ → Option (Option Fraction)) → List Declaration → List ℕ → Option (Option Fraction)
constants_after declared constants [] = constants
constants_after declared constants (d ∷ ds) = constants_after declared (constants_with (meaning_after constants declared) constants d) ds

-- the values of the declarations
abbrev pub all_valued : (List ℕ → NameKind) → (List ℕ → Option (Option Fraction)) → List Declaration → List DeclarationValues
all_valued declared constants [] = []
all_valued declared constants (d ∷ ds) =
    valued (meaning_after constants declared) d ∷ all_valued declared (constants_with (meaning_after constants declared) constants d) ds

-- the faults of the declarations
abbrev pub declarations_faults : (List ℕ → NameKind) → (List ℕ → Option (Option Fraction)) → List Declaration → List NameErr
declarations_faults declared constants [] = []
declarations_faults declared constants (d ∷ ds) =
    declaration_faults (meaning_after constants declared) d
    ++ declarations_faults declared (constants_with (meaning_after constants declared) constants d) ds

-- the faults of declarations whose name is already declared
abbrev pub repeated_faults : List (List ℕ) → List Declaration → List Declaration → List NameErr
repeated_faults ders before [] = []
repeated_faults ders before (d ∷ ds) = taken_faults d.at (declared_as ders before d.name) ++ repeated_faults ders (before ++ d ∷ []) ds
