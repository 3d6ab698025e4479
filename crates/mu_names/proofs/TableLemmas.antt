-- Tables of names, and what is declared.
use Rattle.mu_names.proofs.Common
use Common.{[], ℕ, ◌++◌, ◌+◌, ◌<◌, ◌||◌, ◌∙◌, ◌∷◌, ◌≡◌, add-one, added_at, all_valued, ap, arith}
use Common.{Bool, bytes_eq, constants_with, Declaration, declared_by, drop, drop-cons, entry_at}
use Common.{Expression, expression_step, false, first_declared, fold_out-Ref, Fraction, fun_ext}
use Common.{get_or, if◌then◌else◌, inl, inr, is_set, is_some, length, List, meaning_after, NameKind}
use Common.{None, Option, out-Ref, Ref, Reference, reference, reference_step, refl, Scaled}
use Common.{scaled_step, set, Setting, setting_number, SettingName, Signed, signed_step, Some, suc}
use Common.{sym, true}
use Rattle.std.specs.Prelude.{cond, nat_eq, is_none}
use Rattle.std.specs.Option.{option_or, option_map}
use Rattle.std.specs.Map.{update, lookup}
use Rattle.std.specs.Cmp.Lexicographic.{slice_cmp}
use Rattle.std.specs.Ordering.{nat_cmp}
use Rattle.std.specs.BTreeMap.{BTreeMap, IsEmpty, is_at}
use denote.Ref.{Bor}
use Rattle.std.proofs.lemmas.Slice.Eq.{bytes_eq-Decides}
use Rattle.std.proofs.lemmas.List.Folds.{list_any-append}
use Rattle.std.proofs.lemmas.List.{get_or-set_other}
use Rattle.std.proofs.lemmas.Grind.{get_or-set_at}
use Rattle.std.proofs.lemmas.Bool.{cases_eq, cases_Bool, eqb-true}
use Rattle.std.proofs.Common.{eq-eqb}
use Rattle.mu_tree.specs.Expression.{reference_with}
use Rattle.mu_names.specs.DeclaredRoles.{name_of}
use Rattle.mu_tree.specs.declared.tree.SettingName.TheVariants as named

-- two names that test as one are one
pub same_bytes : (a b : List ℕ) → bytes_eq a b ≡ true → a ≡ b
same_bytes a b e = (bytes_eq-Decides a b).0 e

-- a new name in a table
update_step : {X : Type 0} (f : List ℕ → Option X) (name q : List ℕ) (v : X) (t : Bool) → f name ≡ None → bytes_eq name q ≡ t → cond t (Some v) (f q) ≡ option_or (f q) (if t then Some v else None)
update_step {X} f name q v true none e = let here : f q ≡ None = ap f (sym (same_bytes name q e)) ∙ none in rw here refl
update_step {X} f name q v false none e = kept (f q)
  where
    kept : (o : Option X) → o ≡ option_or o None
    kept None = refl
    kept (Some x) = refl

pub update_added : {X : Type 0} (f : List ℕ → Option X) (name q : List ℕ) (v : X) → f name ≡ None → update bytes_eq f name (Some v) q ≡ added_at f name v q
update_added {X} f name q v none = update_step f name q v (bytes_eq name q) none refl

-- a name that the table has
kept_step : {X : Type 0} (f : List ℕ → Option X) (name q : List ℕ) (v : X) (t : Bool) → is_some (f name) ≡ true → bytes_eq name q ≡ t → f q ≡ option_or (f q) (if t then Some v else None)
kept_step {X} f name q v true some e = there (f q) (ap (λ x. is_some (f x)) (sym (same_bytes name q e)) ∙ some)
  where
    there : (o : Option X) → is_some o ≡ true → o ≡ option_or o (Some v)
    there None h = absurd (let wrong : false ≡ true = h in cc)
    there (Some x) h = refl
kept_step {X} f name q v false some e = kept (f q)
  where
    kept : (o : Option X) → o ≡ option_or o None
    kept None = refl
    kept (Some x) = refl

pub added_kept : {X : Type 0} (f : List ℕ → Option X) (name : List ℕ) (v : X) → is_some (f name) ≡ true → f ≡ added_at f name v
added_kept {X} f name v some = fun_ext (λ q. kept_step f name q v (bytes_eq name q) some refl)

-- which names a table has after one more
has_step : {X : Type 0} (o : Option X) (v : X) (t : Bool) → is_some (option_or o (if t then Some v else None)) ≡ (is_some o || (t || false))
has_step {X} None v true = refl
has_step {X} None v false = refl
has_step {X} (Some x) v t = refl

pub entry_added : {X : Type 0} (old : List ℕ → Option X) (name q : List ℕ) (v : X) → is_some (added_at old name v q) ≡ (is_some (old q) || (bytes_eq name q || false))
entry_added {X} old name q v = has_step (old q) v (bytes_eq name q)

-- one more declaration
push_step : (ders : List (List ℕ)) (x : Declaration) (t : Bool) (r s : Option NameKind) (w : Option NameKind) → option_or r w ≡ s → option_or (if t then Some (declared_by ders x) else r) w ≡ (if t then Some (declared_by ders x) else s)
push_step ders x true r s w e = refl
push_step ders x false r s w e = e

push_at : (ders : List (List ℕ)) (xs : List Declaration) (d : Declaration) (q : List ℕ) → added_at (first_declared ders xs) d.name (declared_by ders d) q ≡ first_declared ders (xs ++ d ∷ []) q
push_at ders [] d q = refl
push_at ders (x ∷ xs) d q = push_step ders x (bytes_eq x.name q) (first_declared ders xs q) (first_declared ders (xs ++ d ∷ []) q) (if bytes_eq d.name q then Some (declared_by ders d) else None) (push_at ders xs d q)

pub first_declared-push : (ders : List (List ℕ)) (xs : List Declaration) (d : Declaration) → added_at (first_declared ders xs) d.name (declared_by ders d) ≡ first_declared ders (xs ++ d ∷ [])
first_declared-push ders xs d = fun_ext (push_at ders xs d)

-- whether there is an expression
pub is_some-option_map : {A B : Type 0} (f : A → B) (o : Option A) → is_some (option_map f o) ≡ is_some o
is_some-option_map {A} {B} f None = refl
is_some-option_map {A} {B} f (Some x) = refl

-- the name of a reference
name_with : (name : List ℕ) (index : Option Expression) (at : ℕ) → name_of (reference_with name index at) ≡ name
name_with name None at = refl
name_with name (Some e) at = refl

pub name_of-reference : (r : Ref) → name_of (reference r) ≡ (out-Ref r).name
name_of-reference r = ap name_of (fold_out-Ref Expression Scaled Reference Signed expression_step scaled_step reference_step signed_step r) ∙ name_with (out-Ref r).name _ (out-Ref r).at

-- the place of a setting is one of six
number_below : (w : SettingName) → setting_number w < 6
number_below named.StartTime = omega arith
number_below named.StopTime = omega arith
number_below named.CoefBits = omega arith
number_below named.TickBits = omega arith
number_below named.LevelBits = omega arith
number_below named.Quantum = omega arith

or_true : (b : Bool) → true ≡ (b || (true || false))
or_true true = refl
or_true false = refl

or_false : (b : Bool) → b ≡ (b || (false || false))
or_false true = refl
or_false false = refl

-- a test that fails
differs : (a b : ℕ) → (a ≡ b → ⊥) → nat_eq a b ≡ false
differs a b ne = elim (cases_Bool (nat_eq a b)) [ inl t ↦ absurd (ne (eqb-true a b t)) | inr f ↦ f ]

-- one more setting is written
pub written_more : (written : List Bool) (xs : List Setting) (s : Setting) → length written ≡ 6 → ((w : SettingName) → get_or written (setting_number w) false ≡ is_set xs w) → (w : SettingName) → get_or (set written (setting_number s.which) true) (setting_number w) false ≡ is_set (xs ++ s ∷ []) w
written_more written xs s len old w =
    let split : is_set (xs ++ s ∷ []) w ≡ (is_set xs w || (nat_eq (setting_number s.which) (setting_number w) || false)) = list_any-append (λ (x : Setting). nat_eq (setting_number x.which) (setting_number w)) xs (s ∷ []) in
    elim (cases_eq (setting_number w) (setting_number s.which)) [
      | inl e ↦
          let test : nat_eq (setting_number s.which) (setting_number w) ≡ true = eq-eqb (setting_number s.which) (setting_number w) (sym e) in
          get_or-set_at written (setting_number s.which) (setting_number w) true false e (omega (arith, number_below s.which)) ∙ or_true (is_set xs w) ∙ ap (λ t. is_set xs w || (t || false)) (sym test) ∙ sym split
      | inr ne ↦
          let test : nat_eq (setting_number s.which) (setting_number w) ≡ false = differs (setting_number s.which) (setting_number w) (λ e. ne (sym e)) in
          get_or-set_other written (setting_number s.which) (setting_number w) true false ne ∙ old w ∙ or_false (is_set xs w) ∙ ap (λ t. is_set xs w || (t || false)) (sym test) ∙ sym split
    ]

-- what is not there
pub none_of : {X : Type 0} (o : Option X) → is_none o ≡ true → o ≡ None
none_of {X} None h = refl
none_of {X} (Some x) h = absurd (let wrong : false ≡ true = h in cc)

-- a list from a place on
pub drop_at : {X : Type 0} (xs : List X) (i : ℕ) (d : X) → i < length xs → d ≡ get_or xs i d → drop i xs ≡ d ∷ drop (i + 1) xs
drop_at {X} xs i d h e = rw (add-one, drop-cons xs i d h, ← e) refl

-- a table without entries
pub empty_table : {X : Type 0} (t : BTreeMap (Bor (List ℕ)) X) → IsEmpty t → (q : List ℕ) → entry_at t q ≡ None
empty_table {X} t e q = ap (λ es. lookup (is_at (λ (k : Bor (List ℕ)). slice_cmp nat_cmp q k.now)) es) e

-- as many values as declarations
pub length-all_valued : (declared : List ℕ → NameKind) (constants : List ℕ → Option (Option Fraction)) (ds : List Declaration) → length (all_valued declared constants ds) ≡ length ds
length-all_valued declared constants [] = refl
length-all_valued declared constants (d ∷ ds) = ap (λ (n : ℕ). suc n) (length-all_valued declared (constants_with (meaning_after constants declared) constants d) ds)
