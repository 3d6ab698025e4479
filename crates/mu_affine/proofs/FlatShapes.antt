-- What a flat expression and lists of its parts say, at each form.
use Rattle.mu_affine.proofs.Common
use Common.{ℕ, ◌+◌, ◌<◌, ◌∙◌, ◌≡◌, add-one, ap, drop, drop-cons, factor, flat_expression}
use Common.{flat_factors_of, flat_scaled, flat_signed, flat_terms_of, FlatExpr, FlatExpression}
use Common.{FlatFactor, FlatTerm, Fraction, get_or, length, List, map, out-FlatFactor, out-FlatTerm}
use Common.{refl, sym, term}
use Rattle.std.proofs.Common.{Box, Global}
use Rattle.std.specs.declared.vec.Vec.{Vec}
use Rattle.mu_tree.specs.declared.flat.FlatExpr.{Const, Var, Pre, Time, Sum, Product, Pow}
use Rattle.mu_tree.specs.declared.flat.FlatExpr.{fold-roll-FlatExpr}
use Rattle.mu_tree.specs.declared.flat.FlatExpr.TheVariants.{rolls-Const, rolls-Var, rolls-Pre}
use Rattle.mu_tree.specs.declared.flat.FlatExpr.TheVariants.{rolls-Time, rolls-Sum, rolls-Product}
use Rattle.mu_tree.specs.declared.flat.FlatExpr.TheVariants.{rolls-Pow}
use Rattle.mu_tree.specs.declared.flat.FlatTerm.{fold_out-FlatTerm}
use Rattle.mu_tree.specs.declared.flat.FlatFactor.{fold_out-FlatFactor}
use Rattle.mu_tree.specs.FlatExpression.{FlatScaled, FlatSigned, flat_expression_step}
use Rattle.mu_tree.specs.FlatExpression.{flat_scaled_step, flat_signed_step}
use Rattle.mu_tree.specs.declared.flat.FlatExpr.TheOpen as layer
use Rattle.mu_tree.specs.FlatExpression as tree

-- a constant
pub flat_expression-Const : (value : Fraction) (at : ℕ) → flat_expression (Const value at) ≡ tree.Constant value at
flat_expression-Const value at = ap flat_expression (sym (rolls-Const value at)) ∙ fold-roll-FlatExpr FlatExpression FlatScaled FlatSigned flat_expression_step flat_scaled_step flat_signed_step (layer.Const value at)

-- a variable
pub flat_expression-Var : (var at : ℕ) → flat_expression (Var var at) ≡ tree.Variable var at
flat_expression-Var var at = ap flat_expression (sym (rolls-Var var at)) ∙ fold-roll-FlatExpr FlatExpression FlatScaled FlatSigned flat_expression_step flat_scaled_step flat_signed_step (layer.Var var at)

-- a previous value
pub flat_expression-Pre : (var at : ℕ) → flat_expression (Pre var at) ≡ tree.Previous var at
flat_expression-Pre var at = ap flat_expression (sym (rolls-Pre var at)) ∙ fold-roll-FlatExpr FlatExpression FlatScaled FlatSigned flat_expression_step flat_scaled_step flat_signed_step (layer.Pre var at)

-- the time
pub flat_expression-Time : (at : ℕ) → flat_expression (Time at) ≡ tree.Now at
flat_expression-Time at = ap flat_expression (sym (rolls-Time at)) ∙ fold-roll-FlatExpr FlatExpression FlatScaled FlatSigned flat_expression_step flat_scaled_step flat_signed_step (layer.Time at)

-- a sum
pub flat_expression-Sum : (terms : Vec FlatTerm Global) → flat_expression (Sum terms) ≡ tree.Sum (flat_terms_of (map flat_signed terms.items))
flat_expression-Sum terms = ap flat_expression (sym (rolls-Sum terms)) ∙ fold-roll-FlatExpr FlatExpression FlatScaled FlatSigned flat_expression_step flat_scaled_step flat_signed_step (layer.Sum terms)

-- a product
pub flat_expression-Product : (factors : Vec FlatFactor Global) → flat_expression (Product factors) ≡ tree.Product (flat_factors_of (map flat_scaled factors.items))
flat_expression-Product factors = ap flat_expression (sym (rolls-Product factors)) ∙ fold-roll-FlatExpr FlatExpression FlatScaled FlatSigned flat_expression_step flat_scaled_step flat_signed_step (layer.Product factors)

-- a power
pub flat_expression-Pow : (base : Box FlatExpr Global) (exp at : ℕ) → flat_expression (Pow base exp at) ≡ tree.Power (flat_expression base.value) exp at
flat_expression-Pow base exp at = ap flat_expression (sym (rolls-Pow base exp at)) ∙ fold-roll-FlatExpr FlatExpression FlatScaled FlatSigned flat_expression_step flat_scaled_step flat_signed_step (layer.Pow base exp at)

-- a term
pub flat_signed-out : (t : FlatTerm) → flat_signed t ≡ record { minus = (out-FlatTerm t).minus; at = (out-FlatTerm t).at; value = flat_expression (out-FlatTerm t).value }
flat_signed-out t = fold_out-FlatTerm FlatExpression FlatScaled FlatSigned flat_expression_step flat_scaled_step flat_signed_step t

-- a factor
pub flat_scaled-out : (f : FlatFactor) → flat_scaled f ≡ record { divide = (out-FlatFactor f).divide; at = (out-FlatFactor f).at; value = flat_expression (out-FlatFactor f).value }
flat_scaled-out f = fold_out-FlatFactor FlatExpression FlatScaled FlatSigned flat_expression_step flat_scaled_step flat_signed_step f

-- the terms from a place on
pub flat_terms_from : (ts : List FlatTerm) (i : ℕ) (d : FlatTerm) → i < length ts → d ≡ get_or ts i d →
    flat_terms_of (map flat_signed (drop i ts)) ≡ term (out-FlatTerm d).minus (out-FlatTerm d).at (flat_expression (out-FlatTerm d).value) (flat_terms_of (map flat_signed (drop (i + 1) ts)))
flat_terms_from ts i d h e = rw (add-one, drop-cons ts i d h, ← e, flat_signed-out d) refl

-- the factors from a place on
pub flat_factors_from : (fs : List FlatFactor) (i : ℕ) (d : FlatFactor) → i < length fs → d ≡ get_or fs i d →
    flat_factors_of (map flat_scaled (drop i fs)) ≡ factor (out-FlatFactor d).divide (out-FlatFactor d).at (flat_expression (out-FlatFactor d).value) (flat_factors_of (map flat_scaled (drop (i + 1) fs)))
flat_factors_from fs i d h e = rw (add-one, drop-cons fs i d h, ← e, flat_scaled-out d) refl
