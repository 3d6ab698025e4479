-- The values of constant expressions, declarations and settings have positive denominators.
use Rattle.mu_meaning.proofs.Common
use Common.{[], ℕ, ◌<◌, ◌∷◌, ◌≡◌, AllByRecursion, arith, Bool, bytes_eq, checked, decimal_value}
use Common.{difference, Element, Err, Expression, Factors, false, Fraction, IfOk, IfSome}
use Common.{if◌then◌else◌, Known, List, lowest, ModelTree, multiplied, nat_eq, nat_tests, None}
use Common.{Number, NumErr, Ok, one-le-pow, Option, passed, pos, positive_product, power, product}
use Common.{quotient, Range, Reference, refl, Result, scope_of, Settings, Some, subst, sum, Terms}
use Common.{true, unsigned_abs, unwrap_or, Whole, whole, ZeroDivisor}
use Rattle.std.specs.Option.{option_or}
use Rattle.mu_num.specs.Decimal.{scaled_value, is_in_range, fraction_of, written_parts}
use Rattle.mu_tree.specs.declared.tree.SettingName.{SettingName}
use Rattle.mu_tree.specs.Expression.{Variable, Now, Previous, Sum, Product, Power, no_terms, term}
use Rattle.mu_tree.specs.Expression.{no_factors, factor}
use Rattle.mu_tree.specs.ModelTree.{Declaration, Setting}
use Rattle.mu_names.specs.declared.constant_values.Meaning.{Meaning}
use Rattle.mu_names.specs.declared.declared_scope.DeclarationValues.{DeclarationValues}
use Rattle.mu_names.specs.declared.name_kind.NameKind.{NameKind}
use Rattle.mu_names.specs.declared.name_kind.NameKind.TheVariants.{Loop, Declared, Missing}
use Rattle.mu_names.specs.declared.name_kind.Role.{Role}
use Rattle.mu_names.specs.declared.name_kind.Role.TheVariants.{State, Discrete, Algebraic}
use Rattle.mu_names.specs.declared.name_kind.Role.TheVariants.{Parameter}
use Rattle.mu_names.specs.Constant.{value_of, joined, raised, both, one, constant_of}
use Rattle.mu_names.specs.Constant.{reference_value, value, sum_value, product_value}
use Rattle.mu_names.specs.DeclarationFaults.{meaning_of, meaning_after, optional_value, is_constant}
use Rattle.mu_names.specs.DeclarationFaults.{constants_with, no_constants, constants_after}
use Rattle.mu_names.specs.DeclarationFaults.{all_valued}
use Rattle.mu_names.specs.DeclaredRoles.{declared_in, derived_in, role_of}
use Rattle.mu_names.specs.Roles.{with_setting, default_settings, settings_from, role_value}
use Rattle.mu_names.specs.Roles.{all_known, meaning_in, settings_in}
use Rattle.mu_meaning.proofs.Numbers.{equal, power_equal, lowest_equal}
use Rattle.mu_tree.specs.declared.tree.SettingName.TheVariants as setting

-- a positive denominator
abbrev pub IsProper : Fraction → Type 0
IsProper a = 0 < a.den

-- ---- operations

pub checked_proper : (a : Fraction) → IsProper a → IfOk (checked a) IsProper
checked_proper a h = by_result (checked a) refl
  where
    by_result : (r : Result Fraction NumErr) → checked a ≡ r → IfOk r IsProper
    by_result (Ok b) is = subst IsProper (passed a b is).is (lowest_equal a h).left
    by_result (Err fault) is = tt

pub joined_proper : (minus : Bool) (a b : Fraction) → IsProper a → IsProper b → IfOk
    (joined minus a b) IsProper
joined_proper false a b h k = checked_proper (sum a b) (positive_product a.den b.den h k)
joined_proper true a b h k = checked_proper (difference a b) (positive_product a.den b.den h k)

pub multiplied_proper : (divide : Bool) (a b : Fraction) → IsProper a → IsProper b → IfOk
    (multiplied divide a b) IsProper
multiplied_proper false a b h k = checked_proper (product a b) (positive_product a.den b.den h k)
multiplied_proper true a b h k = by_test (nat_eq (unsigned_abs b.num) 0) refl
  where
    by_test : (t : Bool) → nat_eq (unsigned_abs b.num) 0 ≡ t → IfOk
        (if t then Err ZeroDivisor else checked (quotient a b)) IsProper
    by_test true is = tt
    by_test false is = let some : 0 < unsigned_abs b.num = grind (arith, nat_tests) in
        checked_proper (quotient a b) (positive_product a.den (unsigned_abs b.num) h some)

pub raised_proper : (exp : ℕ) (a : Fraction) → IsProper a → IfOk (raised exp a) IsProper
raised_proper exp a h = checked_proper (power a exp) (power_equal exp (equal a h)).left

pub decimal_proper : (digits : List ℕ) → IfOk (decimal_value digits) IsProper
unfolding decimal_value scaled_value
decimal_proper digits = by_test (is_in_range (written_parts digits))
  where
    by_test : (t : Bool) → IfOk (if t then Ok (lowest (fraction_of (written_parts digits))) else Err
        Range) IsProper
    by_test true = (lowest_equal (fraction_of (written_parts digits))
        (omega (arith, one-le-pow (written_parts digits).down 10 (omega arith)))).left
    by_test false = tt

-- ---- constant expressions

value_of_proper : (r : Result Fraction NumErr) → IfOk r IsProper → IfSome (value_of r) IsProper
value_of_proper (Ok a) h = h
value_of_proper (Err fault) h = tt

both_proper : (f : Fraction → Fraction → Result Fraction NumErr) →
    ((a b : Fraction) → IsProper a → IsProper b → IfOk (f a b) IsProper) → (o p : Option Fraction) →
    IfSome o IsProper → IfSome p IsProper → IfSome (both f o p) IsProper
both_proper f each None p h k = tt
both_proper f each (Some a) None h k = tt
both_proper f each (Some a) (Some b) h k = value_of_proper (f a b) (each a b h k)

one_proper : (f : Fraction → Result Fraction NumErr) →
    ((a : Fraction) → IsProper a → IfOk (f a) IsProper) → (o : Option Fraction) → IfSome o IsProper
    → IfSome (one f o) IsProper
one_proper f each None h = tt
one_proper f each (Some a) h = value_of_proper (f a) (each a h)

reference_proper : (means : List ℕ → Meaning) →
    ((name : List ℕ) → IfSome (constant_of (means name)) IsProper) → (r : Reference) → IfSome
    (reference_value means r) IsProper
reference_proper means proper (Whole name at) = proper name
reference_proper means proper (Element name index at) = tt

mutual
  pub value_proper : (means : List ℕ → Meaning) →
      ((name : List ℕ) → IfSome (constant_of (means name)) IsProper) → (e : Expression) → IfSome
      (value means e) IsProper
  value_proper means proper (Number digits at) = value_of_proper (decimal_value digits)
      (decimal_proper digits)
  value_proper means proper (Variable r) = reference_proper means proper r
  value_proper means proper (Now at) = tt
  value_proper means proper (Previous r) = tt
  value_proper means proper (Sum ts) = sum_proper means proper (Some (whole (pos 0))) ts
      (omega arith)
  value_proper means proper (Product fs) = factors_proper means proper (Some (whole (pos 1))) fs
      (omega arith)
  value_proper means proper (Power base exp at) = one_proper (raised exp) (raised_proper exp)
      (value means base) (value_proper means proper base)

  sum_proper : (means : List ℕ → Meaning) → ((name : List ℕ) → IfSome (constant_of (means name))
      IsProper) → (total : Option Fraction) (ts : Terms) → IfSome total IsProper → IfSome
      (sum_value means total ts) IsProper
  sum_proper means proper total no_terms h = h
  sum_proper means proper total (term minus at e rest) h =
      sum_proper means proper (both (joined minus) total (value means e)) rest
      (both_proper (joined minus) (joined_proper minus) total (value means e) h
      (value_proper means proper e))

  factors_proper : (means : List ℕ → Meaning) →
      ((name : List ℕ) → IfSome (constant_of (means name)) IsProper) → (total : Option Fraction)
      (fs : Factors) → IfSome total IsProper → IfSome (product_value means total fs) IsProper
  factors_proper means proper total no_factors h = h
  factors_proper means proper total (factor divide at e rest) h =
      factors_proper means proper (both (multiplied divide) total (value means e)) rest
      (both_proper (multiplied divide) (multiplied_proper divide) total (value means e) h
      (value_proper means proper e))

-- ---- declarations

-- each constant with a value has a proper one
abbrev ConstantsAreProper : (List ℕ → Option (Option Fraction)) → Type 0
ConstantsAreProper constants = (name : List ℕ) → IfSome (constants name) (λ o. IfSome o IsProper)

meaning_proper : (o : Option (Option Fraction)) (other : NameKind) → IfSome o
    (λ v. IfSome v IsProper) → IfSome (constant_of (meaning_of o other)) IsProper
meaning_proper (Some v) other h = h
meaning_proper None (Declared Parameter array) h = tt
meaning_proper None (Declared State array) h = tt
meaning_proper None (Declared Discrete array) h = tt
meaning_proper None (Declared Algebraic array) h = tt
meaning_proper None Loop h = tt
meaning_proper None Missing h = tt

after_proper : (constants : List ℕ → Option (Option Fraction)) (declared : List ℕ → NameKind) →
    ConstantsAreProper constants → (name : List ℕ) → IfSome
    (constant_of (meaning_after constants declared name)) IsProper
after_proper constants declared h name = meaning_proper (constants name) (declared name) (h name)

optional_proper : (means : List ℕ → Meaning) →
    ((name : List ℕ) → IfSome (constant_of (means name)) IsProper) → (o : Option Expression) →
    IfSome (optional_value means o) IsProper
optional_proper means proper None = tt
optional_proper means proper (Some e) = value_proper means proper e

with_proper : (means : List ℕ → Meaning) → ((name : List ℕ) → IfSome (constant_of (means name))
    IsProper) → (constants : List ℕ → Option (Option Fraction)) (d : Declaration) →
    ConstantsAreProper constants → ConstantsAreProper (constants_with means constants d)
with_proper means proper constants d h name = by_prefix (is_constant d.prefix)
  where
    by_old : (o : Option (Option Fraction)) (t : Bool) → IfSome o (λ v. IfSome v IsProper) → IfSome
        (option_or o (if t then Some (optional_value means d.value) else None))
        (λ v. IfSome v IsProper)
    by_old (Some v) t h = h
    by_old None true h = optional_proper means proper d.value
    by_old None false h = tt

    by_prefix : (t : Bool) → IfSome ((if t then
        (λ q. option_or (constants q) (if bytes_eq d.name q then Some (optional_value means d.value)
        else None)) else constants) name) (λ v. IfSome v IsProper)
    by_prefix true = by_old (constants name) (bytes_eq d.name name) (h name)
    by_prefix false = h name

none_proper : ConstantsAreProper no_constants
none_proper name = tt

constants_proper : (declared : List ℕ → NameKind) (constants : List ℕ → Option (Option Fraction))
    (ds : List Declaration) → ConstantsAreProper constants → ConstantsAreProper
    (constants_after declared constants ds)
constants_proper declared constants [] h = h
constants_proper declared constants (d ∷ ds) h =
    constants_proper declared (constants_with (meaning_after constants declared) constants d) ds
    (with_proper (meaning_after constants declared) (after_proper constants declared h)
    constants d h)

-- the values of a declaration
record HasProperValues (v : DeclarationValues) : Type 0 where
  value : IfSome v.value IsProper
  start : IfSome v.start IsProper
  quantum : IfSome v.quantum IsProper

values_proper : (declared : List ℕ → NameKind) (constants : List ℕ → Option (Option Fraction))
    (ds : List Declaration) → ConstantsAreProper constants → AllByRecursion HasProperValues
    (all_valued declared constants ds)
values_proper declared constants [] h = tt
values_proper declared constants (d ∷ ds) h =
    let means = meaning_after constants declared in
    let proper = after_proper constants declared h in (
      record {
        value = optional_proper means proper d.value;
        start = optional_proper means proper
            d.start;
        quantum = optional_proper means proper d.quantum;
      },
      values_proper declared (constants_with means constants d) ds
          (with_proper means proper constants d h),
    )

-- ---- settings and the scope

-- the settings that are used as numbers
pub record HasProperSettings (s : Settings) : Type 0 where
  pub stop : IsProper s.stop
  pub quantum : IsProper s.quantum

setting_proper : (s : Settings) (which : SettingName) (o : Option Fraction) → IfSome o IsProper →
    HasProperSettings s → HasProperSettings (with_setting s which o)
setting_proper s which None h p = p
setting_proper s setting.StartTime (Some v) h p = record { stop = p.stop; quantum = p.quantum }
setting_proper s setting.StopTime (Some v) h p = record { stop = h; quantum = p.quantum }
setting_proper s setting.CoefBits (Some v) h p = record { stop = p.stop; quantum = p.quantum }
setting_proper s setting.TickBits (Some v) h p = record { stop = p.stop; quantum = p.quantum }
setting_proper s setting.LevelBits (Some v) h p = record { stop = p.stop; quantum = p.quantum }
setting_proper s setting.Quantum (Some v) h p = record { stop = p.stop; quantum = h }

settings_proper : (means : List ℕ → Meaning) →
    ((name : List ℕ) → IfSome (constant_of (means name)) IsProper) → (s : Settings)
    (xs : List Setting) → HasProperSettings s → HasProperSettings (settings_from means s xs)
settings_proper means proper s [] p = p
settings_proper means proper s (x ∷ xs) p = settings_proper means proper
    (with_setting s x.which (value means x.value)) xs
    (setting_proper s x.which (value means x.value) (value_proper means proper x.value) p)

pub model_settings_proper : (m : ModelTree) → HasProperSettings (settings_in m)
model_settings_proper m =
    settings_proper (meaning_in m) (after_proper
    (constants_after (declared_in m) no_constants m.decls) (declared_in m)
    (constants_proper (declared_in m) no_constants m.decls none_proper)) default_settings
    m.settings
    (record { stop = omega arith; quantum = omega arith })

-- a declared name with its numbers
pub record IsProperName (k : Known) : Type 0 where
  pub value : IsProper k.value
  pub start : IsProper k.start
  pub quantum : IsProper k.quantum

or_proper : (o : Option Fraction) (a : Fraction) → IfSome o IsProper → IsProper a → IsProper
    (unwrap_or o a)
or_proper (Some b) a h k = h
or_proper None a h k = k

role_proper : (r : Role) (o : Option Fraction) → IfSome o IsProper → IsProper (role_value r o)
role_proper Parameter o h = or_proper o (whole (pos 0)) h (omega arith)
role_proper State o h = omega arith
role_proper Discrete o h = omega arith
role_proper Algebraic o h = omega arith

known_proper : (quantum : Fraction) (ders : List (List ℕ)) (ds : List Declaration)
    (vs : List DeclarationValues) → IsProper quantum → AllByRecursion HasProperValues vs →
    AllByRecursion IsProperName (all_known quantum ders ds vs)
known_proper quantum ders [] vs q h = tt
known_proper quantum ders (d ∷ ds) [] q h = tt
known_proper quantum ders (d ∷ ds) (v ∷ vs) q h = (
  record {
    value = role_proper (role_of ders d) v.value h.0.value;
    start = or_proper v.start
        (whole (pos 0)) h.0.start (omega arith);
    quantum = or_proper v.quantum quantum h.0.quantum q;
  },
  known_proper quantum ders ds vs q h.1,
)

-- the declared names of a model
pub scope_proper : (m : ModelTree) → AllByRecursion IsProperName (scope_of m).known
scope_proper m =
    known_proper (settings_in m).quantum (derived_in m) m.decls
    (all_valued (declared_in m) no_constants m.decls) (model_settings_proper m).quantum
    (values_proper (declared_in m) no_constants m.decls none_proper)
