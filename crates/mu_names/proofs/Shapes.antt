-- The logical value of an expression, case by case.
use Rattle.mu_names.proofs.Common
use Common.{[], ℕ, ◌++◌, ◌+◌, ◌<◌, ◌∙◌, ◌∷◌, ◌≡◌, add-one, ap, branch, declaration, drop, drop-cons}
use Common.{Expression, expression, expression_step, factors_of, fold_out-Ref, get_or, Global}
use Common.{length, List, map, out-Ref, Power, Ref, Reference, reference, reference_step, refl}
use Common.{Scaled, scaled, scaled_step, setting, Signed, signed, signed_step, Some, sym, take}
use Common.{terms_of}
use Rattle.std.proofs.Common.{Box}
use Rattle.std.proofs.Math.Seq.{take-suc}
use Rattle.std.proofs.lemmas.List.{map-append}
use Rattle.mu_tree.specs.declared.tree.Branch.{Branch}
use Rattle.mu_tree.specs.declared.tree.Decl.{Decl}
use Rattle.mu_tree.specs.declared.tree.SettingItem.{SettingItem}
use Rattle.mu_tree.specs.declared.expr.Expr.{Expr, Pow, fold-roll-Expr}
use Rattle.mu_tree.specs.declared.expr.Expr.TheVariants.{rolls-Pow}
use Rattle.mu_tree.specs.declared.expr.Term.{Term, out-Term, fold_out-Term}
use Rattle.mu_tree.specs.declared.expr.Factor.{Factor, out-Factor, fold_out-Factor}
use Rattle.mu_tree.specs.Expression.{term, factor, Element}
use Rattle.mu_tree.specs.declared.expr.Expr.TheOpen as layer

-- the branches from a place on
pub branches_from : (es : List Branch) (i : ℕ) (d : Branch) → i < length es → d ≡ get_or es i d →
    map branch (drop i es) ≡ branch d ∷ map branch (drop (i + 1) es)
branches_from es i d h e = rw (add-one, drop-cons es i d h, ← e) refl

-- the declarations and the settings from a place on
pub declarations_from : (es : List Decl) (i : ℕ) (d : Decl) → i < length es → d ≡ get_or es i d →
    map declaration (drop i es) ≡ declaration d ∷ map declaration (drop (i + 1) es)
declarations_from es i d h e = rw (add-one, drop-cons es i d h, ← e) refl

pub declarations_so_far : (es : List Decl) (i : ℕ) (d : Decl) → i < length es → d ≡ get_or es i d →
    map declaration (take (i + 1) es) ≡ map declaration (take i es) ++ declaration d ∷ []
declarations_so_far es i d h e = rw (add-one, take-suc es i d h, ← e) (map-append declaration (take i es) (d ∷ []))

pub settings_from_place : (es : List SettingItem) (i : ℕ) (d : SettingItem) → i < length es → d ≡ get_or es i d →
    map setting (drop i es) ≡ setting d ∷ map setting (drop (i + 1) es)
settings_from_place es i d h e = rw (add-one, drop-cons es i d h, ← e) refl

pub settings_so_far : (es : List SettingItem) (i : ℕ) (d : SettingItem) → i < length es → d ≡ get_or es i d →
    map setting (take (i + 1) es) ≡ map setting (take i es) ++ setting d ∷ []
settings_so_far es i d h e = rw (add-one, take-suc es i d h, ← e) (map-append setting (take i es) (d ∷ []))

-- a power
pub expression-Pow : (base : Box Expr Global) (exp at : ℕ) → expression (Pow base exp at) ≡ Power (expression base.value) exp at
expression-Pow base exp at =
    ap expression (sym (rolls-Pow base exp at)) ∙ fold-roll-Expr Expression Scaled Reference Signed expression_step scaled_step reference_step signed_step (layer.Pow base exp at)

-- a name with an index
pub reference_some : (r : Ref) (index : Box Expr Global) → (out-Ref r).index ≡ Some index → reference r ≡ Element (out-Ref r).name (expression index.value) (out-Ref r).at
reference_some r index e = fold_out-Ref Expression Scaled Reference Signed expression_step scaled_step reference_step signed_step r ∙ rw e refl

-- the terms from a place on
pub terms_from : (ts : List Term) (i : ℕ) (d : Term) → i < length ts → d ≡ get_or ts i d →
    terms_of (map signed (drop i ts)) ≡ term (out-Term d).minus (out-Term d).at (expression (out-Term d).value) (terms_of (map signed (drop (i + 1) ts)))
terms_from ts i d h e =
    let one : signed d ≡ record { minus = (out-Term d).minus; at = (out-Term d).at; value = expression (out-Term d).value } =
    fold_out-Term Expression Scaled Reference Signed expression_step scaled_step reference_step signed_step d in
    rw (add-one, drop-cons ts i d h, ← e, one) refl

-- the factors from a place on
pub factors_from : (fs : List Factor) (i : ℕ) (d : Factor) → i < length fs → d ≡ get_or fs i d →
    factors_of (map scaled (drop i fs)) ≡ factor (out-Factor d).divide (out-Factor d).at (expression (out-Factor d).value) (factors_of (map scaled (drop (i + 1) fs)))
factors_from fs i d h e =
    let one : scaled d ≡ record { divide = (out-Factor d).divide; at = (out-Factor d).at; value = expression (out-Factor d).value } =
    fold_out-Factor Expression Scaled Reference Signed expression_step scaled_step reference_step signed_step d in
    rw (add-one, drop-cons fs i d h, ← e, one) refl
