-- The stop time of a model is a fraction over a positive denominator.
use Rattle.qss_compile.proofs.Common
use Common.{[], ℕ, ◌<◌, ◌∙◌, ◌∷◌, ◌≡◌, ap, arith, Bool, checked, difference, Err, Expression, false}
use Common.{Fraction, if◌then◌else◌, is_small, least_denominator, least_multiplier, List, lowest}
use Common.{ModelTree, nat_eq, None, NumErr, Ok, Option, pos, power, product, quotient, Range, refl}
use Common.{Result, Settings, settings_in, Some, subst, suc, Sum, sum, true, unsigned_abs, whole}
use Common.{zero, ZeroDivisor}
use Rattle.std.proofs.Common.{◌*◌}
use Rattle.std.specs.Prelude.{bytes_eq, ◌%◌}
use Rattle.std.specs.Option.{option_or}
use Rattle.mu_names.specs.Constant.{value_of, constant_of, joined, multiplied, both, one, raised}
use Rattle.mu_names.specs.Constant.{reference_value, value, sum_value, product_value}
use Rattle.mu_names.specs.DeclarationFaults.{other_meaning, meaning_of, meaning_after}
use Rattle.mu_names.specs.DeclarationFaults.{optional_value, is_constant, constants_with}
use Rattle.mu_names.specs.DeclarationFaults.{no_constants, constants_after}
use Rattle.mu_names.specs.Roles.{with_setting, default_settings, settings_from, meaning_in}
use Rattle.mu_names.specs.DeclaredRoles.{declared_in}
use Rattle.mu_names.specs.NameTables.{added_at}
use Rattle.mu_names.specs.declared.constant_values.Meaning.{Meaning}
use Rattle.mu_names.specs.declared.name_kind.Role.TheVariants.{State, Discrete, Algebraic}
use Rattle.mu_names.specs.declared.name_kind.Role.TheVariants.{Parameter}
use Rattle.mu_names.specs.declared.name_kind.NameKind.{NameKind}
use Rattle.mu_names.specs.declared.name_kind.NameKind.TheVariants.{Loop, Declared, Missing}
use Rattle.mu_num.specs.Decimal.{written_parts, is_in_range, fraction_of, scaled_value}
use Rattle.mu_num.specs.Decimal.{decimal_value}
use Rattle.mu_tree.specs.Expression.{Number, Variable, Now, Previous, Product, Power, Reference}
use Rattle.mu_tree.specs.Expression.{Whole, Element, Terms, no_terms, term, Factors, no_factors}
use Rattle.mu_tree.specs.Expression.{factor}
use Rattle.mu_tree.specs.ModelTree.{Declaration, Setting}
use Rattle.mu_tree.specs.declared.tree.SettingName.{SettingName}
use Rattle.mu_tree.specs.declared.tree.SettingName.TheVariants as setting

-- a least denominator is positive
multiplier_positive : (more k n d : ℕ) → 0 < k → 0 < least_multiplier more k n d
unfolding least_multiplier
multiplier_positive zero k n d h = h
multiplier_positive (suc more) k n d h = by (nat_eq ((n * k) % d) 0) (multiplier_positive more (suc k) n d (omega arith))
  where
    by : (b : Bool) → 0 < least_multiplier more (suc k) n d → 0 < (if b then k else least_multiplier more (suc k) n d)
    by true rest = h
    by false rest = rest

lowest_positive : (a : Fraction) → 0 < (lowest a).den
unfolding lowest least_denominator
lowest_positive a = multiplier_positive a.den 1 (unsigned_abs a.num) a.den (omega arith)

-- a number over a positive denominator, where there is one
abbrev IsPositive : Option Fraction → Type 0
IsPositive o = (v : Fraction) → o ≡ Some v → 0 < v.den

none_positive : IsPositive None
none_positive v e = absurd (cc e)

some_positive : (a : Fraction) → 0 < a.den → IsPositive (Some a)
some_positive a h v e = let same : a ≡ v = cc e in subst (λ (x : Fraction). 0 < x.den) same h

checked_value : (a : Fraction) → IsPositive (value_of (checked a))
unfolding checked
checked_value a = by (is_small (lowest a))
  where
    by : (b : Bool) → IsPositive (value_of (if b then Ok (lowest a) else Err Range))
    by true = some_positive (lowest a) (lowest_positive a)
    by false = none_positive

decimal_positive : (digits : List ℕ) → IsPositive (value_of (decimal_value digits))
unfolding decimal_value scaled_value
decimal_positive digits = by (is_in_range (written_parts digits))
  where
    by : (b : Bool) → IsPositive (value_of (if b then Ok (lowest (fraction_of (written_parts digits))) else Err Range))
    by true = some_positive (lowest (fraction_of (written_parts digits))) (lowest_positive (fraction_of (written_parts digits)))
    by false = none_positive

joined_positive : (minus : Bool) (a b : Fraction) → IsPositive (value_of (joined minus a b))
joined_positive false a b = checked_value (sum a b)
joined_positive true a b = checked_value (difference a b)

multiplied_positive : (divide : Bool) (a b : Fraction) → IsPositive (value_of (multiplied divide a b))
multiplied_positive false a b = checked_value (product a b)
multiplied_positive true a b = by (nat_eq (unsigned_abs b.num) 0)
  where
    by : (t : Bool) → IsPositive (value_of (if t then Err ZeroDivisor else checked (quotient a b)))
    by true = none_positive
    by false = checked_value (quotient a b)

both_positive : (f : Fraction → Fraction → Result Fraction NumErr) (a b : Option Fraction) → ((x y : Fraction) → IsPositive (value_of (f x y))) → IsPositive (both f a b)
both_positive f None b h = none_positive
both_positive f (Some a) None h = none_positive
both_positive f (Some a) (Some b) h = h a b

one_positive : (f : Fraction → Result Fraction NumErr) (a : Option Fraction) → ((x : Fraction) → IsPositive (value_of (f x))) → IsPositive (one f a)
one_positive f None h = none_positive
one_positive f (Some a) h = h a

module _ (meaning : List ℕ → Meaning) (known : (name : List ℕ) → IsPositive (constant_of (meaning name))) where
  reference_positive : (r : Reference) → IsPositive (reference_value meaning r)
  reference_positive (Whole name at) = known name
  reference_positive (Element name index at) = none_positive

  mutual
    value_positive : (e : Expression) → IsPositive (value meaning e)
    value_positive (Number digits at) = decimal_positive digits
    value_positive (Variable r) = reference_positive r
    value_positive (Now at) = none_positive
    value_positive (Previous r) = none_positive
    value_positive (Sum ts) = sum_positive (Some (whole (pos 0))) ts (some_positive (whole (pos 0)) (omega arith))
    value_positive (Product fs) = product_positive (Some (whole (pos 1))) fs (some_positive (whole (pos 1)) (omega arith))
    value_positive (Power base exp at) = one_positive (raised exp) (value meaning base) (λ x. checked_value (power x exp))

    sum_positive : (total : Option Fraction) (ts : Terms) → IsPositive total → IsPositive (sum_value meaning total ts)
    sum_positive total no_terms h = h
    sum_positive total (term minus at e rest) h = sum_positive (both (joined minus) total (value meaning e)) rest (both_positive (joined minus) total (value meaning e) (joined_positive minus))

    product_positive : (total : Option Fraction) (fs : Factors) → IsPositive total → IsPositive (product_value meaning total fs)
    product_positive total no_factors h = h
    product_positive total (factor divide at e rest) h = product_positive (both (multiplied divide) total (value meaning e)) rest (both_positive (multiplied divide) total (value meaning e) (multiplied_positive divide))

-- constants over positive denominators
abbrev ArePositive : (List ℕ → Option (Option Fraction)) → Type 0
ArePositive constants = (name : List ℕ) (v : Fraction) → constants name ≡ Some (Some v) → 0 < v.den

other_positive : (s : NameKind) → IsPositive (constant_of (other_meaning s))
other_positive (Declared Parameter array) = none_positive
other_positive (Declared State array) = none_positive
other_positive (Declared Discrete array) = none_positive
other_positive (Declared Algebraic array) = none_positive
other_positive Loop = none_positive
other_positive Missing = none_positive

meanings_positive : (constants : List ℕ → Option (Option Fraction)) (declared : List ℕ → NameKind) → ArePositive constants → (name : List ℕ) → IsPositive (constant_of (meaning_after constants declared name))
meanings_positive constants declared h name = by (constants name) refl
  where
    by : (o : Option (Option Fraction)) → constants name ≡ o → IsPositive (constant_of (meaning_of o (declared name)))
    by None e = other_positive (declared name)
    by (Some v) e = λ x is. h name x (e ∙ ap (λ (w : Option Fraction). Some w) is)

optional_positive : (meaning : List ℕ → Meaning) → ((name : List ℕ) → IsPositive (constant_of (meaning name))) → (o : Option Expression) → IsPositive (optional_value meaning o)
optional_positive meaning known None = none_positive
optional_positive meaning known (Some e) = value_positive meaning known e

added_positive : (constants : List ℕ → Option (Option Fraction)) (name : List ℕ) (value : Option Fraction) → ArePositive constants → IsPositive value → ArePositive (added_at constants name value)
added_positive constants name value h positive q v = by (constants q) (bytes_eq name q) refl
  where
    by : (o : Option (Option Fraction)) (b : Bool) → constants q ≡ o → option_or o (if b then Some value else None) ≡ Some (Some v) → 0 < v.den
    by (Some x) b e is = h q v (e ∙ is)
    by None true e is = let same : value ≡ Some v = cc is in positive v same
    by None false e is = absurd (cc is)

constants_positive : (declared : List ℕ → NameKind) (constants : List ℕ → Option (Option Fraction)) (ds : List Declaration) → ArePositive constants → ArePositive (constants_after declared constants ds)
constants_positive declared constants [] h = h
constants_positive declared constants (d ∷ ds) h =
    constants_positive declared (constants_with (meaning_after constants declared) constants d) ds (with_one (is_constant d.prefix))
  where
    with_one : (b : Bool) → ArePositive (if b then added_at constants d.name (optional_value (meaning_after constants declared) d.value) else constants)
    with_one true = added_positive constants d.name (optional_value (meaning_after constants declared) d.value) h (optional_positive (meaning_after constants declared) (meanings_positive constants declared h) d.value)
    with_one false = h

setting_positive : (s : Settings) (which : SettingName) (v : Option Fraction) → 0 < s.stop.den → IsPositive v → 0 < (with_setting s which v).stop.den
setting_positive s which None h positive = h
setting_positive s setting.StartTime (Some v) h positive = h
setting_positive s setting.StopTime (Some v) h positive = positive v refl
setting_positive s setting.CoefBits (Some v) h positive = h
setting_positive s setting.TickBits (Some v) h positive = h
setting_positive s setting.LevelBits (Some v) h positive = h
setting_positive s setting.Quantum (Some v) h positive = h

settings_positive : (meaning : List ℕ → Meaning) (s : Settings) (xs : List Setting) → ((name : List ℕ) → IsPositive (constant_of (meaning name))) → 0 < s.stop.den → 0 < (settings_from meaning s xs).stop.den
settings_positive meaning s [] known h = h
settings_positive meaning s (x ∷ xs) known h =
    settings_positive meaning (with_setting s x.which (value meaning x.value)) xs known (setting_positive s x.which (value meaning x.value) h (value_positive meaning known x.value))

-- the stop time of a model
pub stop_positive : (m : ModelTree) → 0 < (settings_in m).stop.den
stop_positive m =
    let constants : ArePositive (constants_after (declared_in m) no_constants m.decls) = constants_positive (declared_in m) no_constants m.decls (λ name v e. absurd (cc e)) in
    settings_positive (meaning_in m) default_settings m.settings (meanings_positive (constants_after (declared_in m) no_constants m.decls) (declared_in m) constants) (omega arith)
