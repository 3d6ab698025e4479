-- What flat expressions and their lists say, at each form.
use Rattle.mu_causal.proofs.Common
use Common.{ℕ, ◌+◌, ◌<◌, ◌∙◌, ◌≡◌, add-one, ap, drop, drop-cons, flat_expression, flat_factors_of}
use Common.{flat_scaled, flat_signed, flat_terms_of, get_or, length, List, map, refl, sym}
use Rattle.std.proofs.Common.{Box, Global}
use Rattle.mu_tree.specs.declared.flat.FlatExpr.{FlatExpr, Pow, fold-roll-FlatExpr}
use Rattle.mu_tree.specs.declared.flat.FlatExpr.TheVariants.{rolls-Pow}
use Rattle.mu_tree.specs.declared.flat.FlatTerm.{FlatTerm, out-FlatTerm, fold_out-FlatTerm}
use Rattle.mu_tree.specs.declared.flat.FlatFactor.{FlatFactor, out-FlatFactor, fold_out-FlatFactor}
use Rattle.mu_tree.specs.FlatExpression.{FlatExpression, FlatScaled, FlatSigned, Power, term}
use Rattle.mu_tree.specs.FlatExpression.{factor, flat_expression_step, flat_scaled_step}
use Rattle.mu_tree.specs.FlatExpression.{flat_signed_step}
use Rattle.mu_tree.specs.declared.flat.FlatExpr.TheOpen as layer

-- a power
pub flat_expression-Pow : (base : Box FlatExpr Global) (exp at : ℕ) → flat_expression (Pow base exp at) ≡ Power (flat_expression base.value) exp at
flat_expression-Pow base exp at =
    ap flat_expression (sym (rolls-Pow base exp at)) ∙ fold-roll-FlatExpr FlatExpression FlatScaled FlatSigned flat_expression_step flat_scaled_step flat_signed_step (layer.Pow base exp at)

-- the terms from a place on
pub flat_terms_from : (ts : List FlatTerm) (i : ℕ) (d : FlatTerm) → i < length ts → d ≡ get_or ts i d →
    flat_terms_of (map flat_signed (drop i ts)) ≡ term (out-FlatTerm d).minus (out-FlatTerm d).at (flat_expression (out-FlatTerm d).value) (flat_terms_of (map flat_signed (drop (i + 1) ts)))
flat_terms_from ts i d h e =
    let one : flat_signed d ≡ record { minus = (out-FlatTerm d).minus; at = (out-FlatTerm d).at; value = flat_expression (out-FlatTerm d).value } =
    fold_out-FlatTerm FlatExpression FlatScaled FlatSigned flat_expression_step flat_scaled_step flat_signed_step d in
    rw (add-one, drop-cons ts i d h, ← e, one) refl

-- the factors from a place on
pub flat_factors_from : (fs : List FlatFactor) (i : ℕ) (d : FlatFactor) → i < length fs → d ≡ get_or fs i d →
    flat_factors_of (map flat_scaled (drop i fs)) ≡ factor (out-FlatFactor d).divide (out-FlatFactor d).at (flat_expression (out-FlatFactor d).value) (flat_factors_of (map flat_scaled (drop (i + 1) fs)))
flat_factors_from fs i d h e =
    let one : flat_scaled d ≡ record { divide = (out-FlatFactor d).divide; at = (out-FlatFactor d).at; value = flat_expression (out-FlatFactor d).value } =
    fold_out-FlatFactor FlatExpression FlatScaled FlatSigned flat_expression_step flat_scaled_step flat_signed_step d in
    rw (add-one, drop-cons fs i d h, ← e, one) refl
