-- A constant expression without faults has a value.
use Rattle.qss_theorems.proofs.Common
use Common.{[], ℕ, ◌&&◌, ◌++◌, ◌∙◌, ◌∷◌, ◌≡◌, Algebraic, Bool, bytes_eq, constants_with}
use Common.{Declaration, declaration_faults, Declared, Discrete, Element, Err, Expression, factor}
use Common.{Factors, false, Fraction, if◌then◌else◌, is_constant, is_some, List, Loop}
use Common.{meaning_after, Missing, NameErr, NameKind, no_constants, no_factors, no_terms, None}
use Common.{Now, Number, Ok, Option, Parameter, pos, Power, Previous, Product, refl, Result, Some}
use Common.{State, subst, Sum, term, Terms, true, Variable, Whole, whole}
use Rattle.std.specs.Prelude.{nat_eq, unsigned_abs}
use Rattle.std.specs.Option.{option_or}
use Rattle.mu_num.specs.Decimal.{decimal_value}
use Rattle.mu_num.specs.declared.NumErr.{NumErr}
use Rattle.mu_names.specs.Constant.{both, both_faults, faults, faults_of, indexed_faults, joined}
use Rattle.mu_names.specs.Constant.{multiplied, name_faults, one_faults, one, product_faults}
use Rattle.mu_names.specs.Constant.{product_value, raised, sum_faults, sum_value, value, value_of}
use Rattle.mu_names.specs.Constant.{constant_of}
use Rattle.mu_names.specs.DeclarationFaults.{binding_faults, meaning_of, optional_faults}
use Rattle.mu_names.specs.DeclarationFaults.{optional_value, size_faults, size_of, whole_faults}
use Rattle.mu_names.specs.DeclarationFaults.{is_size}
use Rattle.mu_names.specs.NameTables.{added_at}
use Rattle.mu_names.specs.declared.name_fault.NameErr.TheVariants.{NotWhole, Size}
use Rattle.mu_names.specs.declared.constant_values.Meaning.{Meaning}
use Rattle.mu_names.specs.declared.constant_values.Meaning.TheVariants as meaning

-- lists whose concatenation is empty
pub first_none : {X : Type 0} (xs ys : List X) → xs ++ ys ≡ [] → xs ≡ []
first_none [] ys e = refl
first_none (x ∷ xs) ys e = absurd (cc)

pub second_none : {X : Type 0} (xs ys : List X) → xs ++ ys ≡ [] → ys ≡ []
second_none [] ys e = e
second_none (x ∷ xs) ys e = absurd (cc)

abbrev Sure : Option Fraction → Type 0
Sure o = is_some o ≡ true

-- each constant has a value
abbrev pub AllSure : (List ℕ → Meaning) → Type 0
AllSure means = (name : List ℕ) (o : Option Fraction) → means name ≡ meaning.Constant o → Sure o

result_sure : (at : ℕ) (r : Result Fraction NumErr) → faults_of at r ≡ [] → Sure (value_of r)
result_sure at (Ok v) e = refl
result_sure at (Err f) e = absurd (cc)

both_sure : (at : ℕ) (f : Fraction → Fraction → Result Fraction NumErr) (a b : Option Fraction) → Sure a → Sure b → both_faults at f a b ≡ [] → Sure (both f a b)
both_sure at f None b sa sb e = absurd (cc)
both_sure at f (Some a) None sa sb e = absurd (cc)
both_sure at f (Some a) (Some b) sa sb e = result_sure at (f a b) e

one_sure : (at : ℕ) (f : Fraction → Result Fraction NumErr) (a : Option Fraction) → Sure a → one_faults at f a ≡ [] → Sure (one f a)
one_sure at f None sa e = absurd (cc)
one_sure at f (Some a) sa e = result_sure at (f a) e

name_sure : (at : ℕ) (m : Meaning) → ((o : Option Fraction) → m ≡ meaning.Constant o → Sure o) → name_faults at m ≡ [] → Sure (constant_of m)
name_sure at (meaning.Constant o) sure e = sure o refl
name_sure at meaning.Variable sure e = absurd (cc)
name_sure at meaning.Undeclared sure e = absurd (cc)

indexed_fault : (at : ℕ) (xs : List NameErr) (m : Meaning) → xs ++ indexed_faults at m ≡ [] → ⊥
indexed_fault at xs m e = by m (second_none xs (indexed_faults at m) e)
  where
    by : (m : Meaning) → indexed_faults at m ≡ [] → ⊥
    by (meaning.Constant o) e = cc
    by meaning.Variable e = cc
    by meaning.Undeclared e = cc

module _ (means : List ℕ → Meaning) (sure : AllSure means) where
  mutual
    pub value_sure : (e : Expression) → faults means e ≡ [] → Sure (value means e)
    value_sure (Number digits at) e = result_sure at (decimal_value digits) e
    value_sure (Variable (Whole name at)) e = name_sure at (means name) (sure name) e
    value_sure (Variable (Element name index at)) e = absurd (indexed_fault at (faults means index) (means name) e)
    value_sure (Now at) e = absurd (cc)
    value_sure (Previous (Whole name at)) e = absurd (indexed_fault at [] (means name) e)
    value_sure (Previous (Element name index at)) e = absurd (indexed_fault at (faults means index) (means name) e)
    value_sure (Sum ts) e = sum_sure (Some (whole (pos 0))) ts refl e
    value_sure (Product fs) e = product_sure (Some (whole (pos 1))) fs refl e
    value_sure (Power base exp at) e =
        one_sure at (raised exp) (value means base) (value_sure base (first_none (faults means base) _ e)) (second_none (faults means base) _ e)

    sum_sure : (total : Option Fraction) (ts : Terms) → Sure total → sum_faults means total ts ≡ [] → Sure (sum_value means total ts)
    sum_sure total no_terms st e = st
    sum_sure total (term minus at v rest) st e =
        let more = second_none (faults means v) _ e in
        let here = both_faults at (joined minus) total (value means v) in
        sum_sure (both (joined minus) total (value means v)) rest
        (both_sure at (joined minus) total (value means v) st (value_sure v (first_none (faults means v) _ e)) (first_none here _ more)) (second_none here _ more)

    product_sure : (total : Option Fraction) (fs : Factors) → Sure total → product_faults means total fs ≡ [] → Sure (product_value means total fs)
    product_sure total no_factors st e = st
    product_sure total (factor divide at v rest) st e =
        let more = second_none (faults means v) _ e in
        let here = both_faults at (multiplied divide) total (value means v) in
        product_sure (both (multiplied divide) total (value means v)) rest
        (both_sure at (multiplied divide) total (value means v) st (value_sure v (first_none (faults means v) _ e)) (first_none here _ more)) (second_none here _ more)

  -- a size that is written is one
  pub optional_sure : (o : Option Expression) → optional_faults means o ≡ [] → is_some (optional_value means o) ≡ is_some o
  optional_sure None e = refl
  optional_sure (Some v) e = value_sure v e

-- a size without faults is one
pub size_sure : (at : ℕ) (o : Option Fraction) → size_faults at o ≡ [] → is_some (size_of o) ≡ is_some o
size_sure at None e = refl
size_sure at (Some a) e = by_whole (nat_eq a.den 1) (is_size a.num) e
  where
    by_whole : (one fits : Bool) → (if one then (if fits then [] else Size at a.num ∷ []) else NotWhole at ∷ []) ≡ [] →
        (let o : Option ℕ = if one && fits then Some (unsigned_abs a.num) else None in is_some o ≡ true)
    by_whole true true e = refl
    by_whole true false e = absurd (cc)
    by_whole false fits e = absurd (cc)

-- ---- the constants of declarations

abbrev pub AreSure : (List ℕ → Option (Option Fraction)) → Type 0
AreSure constants = (name : List ℕ) (o : Option Fraction) → constants name ≡ Some o → Sure o

meaning_sure : (c : Option (Option Fraction)) (s : NameKind) → ((o : Option Fraction) → c ≡ Some o → Sure o) → (o : Option Fraction) → meaning_of c s ≡ meaning.Constant o → Sure o
meaning_sure (Some v) s sure o e = sure o (cc)
meaning_sure None (Declared Parameter array) sure o e = absurd (cc)
meaning_sure None (Declared State array) sure o e = absurd (cc)
meaning_sure None (Declared Discrete array) sure o e = absurd (cc)
meaning_sure None (Declared Algebraic array) sure o e = absurd (cc)
meaning_sure None Loop sure o e = absurd (cc)
meaning_sure None Missing sure o e = absurd (cc)

pub after_sure : (constants : List ℕ → Option (Option Fraction)) (declared : List ℕ → NameKind) → AreSure constants → AllSure (meaning_after constants declared)
after_sure constants declared sure name o e = meaning_sure (constants name) (declared name) (sure name) o e

-- a constant has a binding
bound_sure : (array bound : Bool) (at : ℕ) → binding_faults true array bound at ≡ [] → bound ≡ true
bound_sure true true at e = refl
bound_sure true false at e = absurd (cc)
bound_sure false true at e = refl
bound_sure false false at e = absurd (cc)

added_sure : (constants : List ℕ → Option (Option Fraction)) (name : List ℕ) (v : Option Fraction) → AreSure constants → Sure v → AreSure (added_at constants name v)
added_sure constants name v sure sv q o e = by (constants q) (bytes_eq name q) refl e
  where
    by : (old : Option (Option Fraction)) (same : Bool) → constants q ≡ old → option_or old (if same then Some v else None) ≡ Some o → Sure o
    by (Some w) same is e = sure q o (is ∙ e)
    by None true is e = subst Sure (cc) sv
    by None false is e = absurd (cc)

-- the parts of a declaration without faults
pub record AreGood (means : List ℕ → Meaning) (d : Declaration) : Type 0 where
  pub plain : is_constant d.prefix ≡ true → is_some d.size ≡ false
  pub size : is_some (size_of (optional_value means d.size)) ≡ is_some d.size
  pub binding : is_constant d.prefix ≡ true → Sure (optional_value means d.value)

constant_bound : (constant array bound : Bool) (at : ℕ) → binding_faults constant array bound at ≡ [] → constant ≡ true → bound ≡ true
constant_bound true array bound at e is = bound_sure array bound at e
constant_bound false array bound at e is = absurd (cc)

-- and is no array
constant_plain : (constant array bound : Bool) (at : ℕ) → binding_faults constant array bound at ≡ [] → constant ≡ true → array ≡ false
constant_plain true true true at e is = absurd (cc)
constant_plain true true false at e is = absurd (cc)
constant_plain true false bound at e is = refl
constant_plain false array bound at e is = absurd (cc)

pub good_parts : (means : List ℕ → Meaning) (d : Declaration) → AllSure means → declaration_faults means d ≡ [] → AreGood means d
good_parts means d all e =
    let after_size = second_none (optional_faults means d.size) _ e in
    let after_check = second_none (size_faults d.at (optional_value means d.size)) _ after_size in
    let after_start = second_none (optional_faults means d.start) _ after_check in
    let after_quantum = second_none (optional_faults means d.quantum) _ after_start in
    let after_value = second_none (optional_faults means d.value) _ after_quantum in
    let binding = second_none (whole_faults (is_constant d.prefix && d.whole) d.at (optional_value means d.value)) _ after_value in
    record {
      plain = constant_plain (is_constant d.prefix) (is_some d.size) (is_some d.value) d.at binding;
      size = size_sure d.at (optional_value means d.size) (first_none (size_faults d.at (optional_value means d.size)) _ after_size)
          ∙ optional_sure means all d.size (first_none (optional_faults means d.size) _ e);
      binding = λ is. optional_sure means all d.value (first_none (optional_faults means d.value) _ after_quantum)
          ∙ constant_bound (is_constant d.prefix) (is_some d.size) (is_some d.value) d.at binding is;
    }

pub with_sure : (means : List ℕ → Meaning) (constants : List ℕ → Option (Option Fraction)) (d : Declaration) → AreSure constants → AreGood means d →
    AreSure (constants_with means constants d)
with_sure means constants d sure good = by (is_constant d.prefix) good.binding
  where
    by : (constant : Bool) → (constant ≡ true → Sure (optional_value means d.value)) →
        AreSure (if constant then added_at constants d.name (optional_value means d.value) else constants)
    by true bound = added_sure constants d.name (optional_value means d.value) sure (bound refl)
    by false bound = sure

pub none_sure : AreSure no_constants
none_sure name o e = absurd (cc)
