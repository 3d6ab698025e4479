-- What is left of a sum and of a product, part by part.
use Rattle.mu_affine.proofs.Common
use Common.{ℕ, ◌+◌, ◌<◌, ◌∙◌, ◌≡◌, AffineErr, AffineForm, ap, AreNumbered, AreNumberedFactors}
use Common.{Context, drop, Err, flat_expression, flat_factors_of, flat_scaled, flat_signed}
use Common.{flat_terms_of, FlatFactor, FlatFactors, FlatTerm, FlatTerms, form_of, get_or}
use Common.{IsNumbered, join_forms, length, List, map, multiply_forms, Ok, out-FlatFactor}
use Common.{out-FlatTerm, Place, product_of, subst, sum_form}
use Rattle.mu_affine.proofs.FlatShapes.{flat_terms_from, flat_factors_from}
use Rattle.mu_affine.proofs.Walking.{sum_step, sum_term_fault, sum_join_fault, product_step}
use Rattle.mu_affine.proofs.Walking.{product_factor_fault, product_part_fault}

-- the terms from a place on
abbrev pub terms_left : List FlatTerm → ℕ → FlatTerms
terms_left ts i = flat_terms_of (map flat_signed (drop i ts))

-- the factors from a place on
abbrev pub factors_left : List FlatFactor → ℕ → FlatFactors
factors_left fs i = flat_factors_of (map flat_scaled (drop i fs))

-- a term joins the sum
pub sum_more : (c : Context) (ts : List FlatTerm) (i : ℕ) (d : FlatTerm) (old new f : AffineForm) → i < length ts → d ≡ get_or ts i d
    → form_of c (flat_expression (out-FlatTerm d).value) ≡ Ok f → join_forms c.place (out-FlatTerm d).minus (out-FlatTerm d).at old f ≡ Ok new
    → sum_form c (Ok old) (terms_left ts i) ≡ sum_form c (Ok new) (terms_left ts (i + 1))
sum_more c ts i d old new f h is part joins =
    ap (sum_form c (Ok old)) (flat_terms_from ts i d h is)
    ∙ sum_step c old new f (out-FlatTerm d).minus (out-FlatTerm d).at (flat_expression (out-FlatTerm d).value) (terms_left ts (i + 1)) part joins

-- a term that has a fault, or that can't be joined
pub sum_fails_at : (c : Context) (ts : List FlatTerm) (i : ℕ) (d : FlatTerm) (old : AffineForm) (fault : AffineErr) → i < length ts → d ≡ get_or ts i d
    → form_of c (flat_expression (out-FlatTerm d).value) ≡ Err fault → sum_form c (Ok old) (terms_left ts i) ≡ Err fault
sum_fails_at c ts i d old fault h is part =
    ap (sum_form c (Ok old)) (flat_terms_from ts i d h is)
    ∙ sum_term_fault c old (out-FlatTerm d).minus (out-FlatTerm d).at (flat_expression (out-FlatTerm d).value) (terms_left ts (i + 1)) fault part

pub sum_join_fails_at : (c : Context) (ts : List FlatTerm) (i : ℕ) (d : FlatTerm) (old f : AffineForm) (fault : AffineErr) → i < length ts → d ≡ get_or ts i d
    → form_of c (flat_expression (out-FlatTerm d).value) ≡ Ok f → join_forms c.place (out-FlatTerm d).minus (out-FlatTerm d).at old f ≡ Err fault
    → sum_form c (Ok old) (terms_left ts i) ≡ Err fault
sum_join_fails_at c ts i d old f fault h is part joins =
    ap (sum_form c (Ok old)) (flat_terms_from ts i d h is)
    ∙ sum_join_fault c old f (out-FlatTerm d).minus (out-FlatTerm d).at (flat_expression (out-FlatTerm d).value) (terms_left ts (i + 1)) fault part joins

-- the numbers in a term and in those after it
pub terms_numbered_at : (p : Place) (n : ℕ) (ts : List FlatTerm) (i : ℕ) (d : FlatTerm) → i < length ts → d ≡ get_or ts i d → AreNumbered p n (terms_left ts i)
    → IsNumbered p n (flat_expression (out-FlatTerm d).value) × AreNumbered p n (terms_left ts (i + 1))
terms_numbered_at p n ts i d h is numbered = subst (AreNumbered p n) (flat_terms_from ts i d h is) numbered

-- a factor is taken in
pub product_more : (c : Context) (fs : List FlatFactor) (i : ℕ) (d : FlatFactor) (old new f : AffineForm) → i < length fs → d ≡ get_or fs i d
    → form_of c (flat_expression (out-FlatFactor d).value) ≡ Ok f → multiply_forms c.place (out-FlatFactor d).divide (out-FlatFactor d).at old f ≡ Ok new
    → product_of c (Ok old) (factors_left fs i) ≡ product_of c (Ok new) (factors_left fs (i + 1))
product_more c fs i d old new f h is part takes =
    ap (product_of c (Ok old)) (flat_factors_from fs i d h is)
    ∙ product_step c old new f (out-FlatFactor d).divide (out-FlatFactor d).at (flat_expression (out-FlatFactor d).value) (factors_left fs (i + 1)) part takes

-- a factor that has a fault, or that can't be taken in
pub product_fails_at : (c : Context) (fs : List FlatFactor) (i : ℕ) (d : FlatFactor) (old : AffineForm) (fault : AffineErr) → i < length fs → d ≡ get_or fs i d
    → form_of c (flat_expression (out-FlatFactor d).value) ≡ Err fault → product_of c (Ok old) (factors_left fs i) ≡ Err fault
product_fails_at c fs i d old fault h is part =
    ap (product_of c (Ok old)) (flat_factors_from fs i d h is)
    ∙ product_factor_fault c old (out-FlatFactor d).divide (out-FlatFactor d).at (flat_expression (out-FlatFactor d).value) (factors_left fs (i + 1)) fault part

pub product_part_fails_at : (c : Context) (fs : List FlatFactor) (i : ℕ) (d : FlatFactor) (old f : AffineForm) (fault : AffineErr) → i < length fs → d ≡ get_or fs i d
    → form_of c (flat_expression (out-FlatFactor d).value) ≡ Ok f → multiply_forms c.place (out-FlatFactor d).divide (out-FlatFactor d).at old f ≡ Err fault
    → product_of c (Ok old) (factors_left fs i) ≡ Err fault
product_part_fails_at c fs i d old f fault h is part takes =
    ap (product_of c (Ok old)) (flat_factors_from fs i d h is)
    ∙ product_part_fault c old f (out-FlatFactor d).divide (out-FlatFactor d).at (flat_expression (out-FlatFactor d).value) (factors_left fs (i + 1)) fault part takes

-- the numbers in a factor and in those after it
pub factors_numbered_at : (p : Place) (n : ℕ) (fs : List FlatFactor) (i : ℕ) (d : FlatFactor) → i < length fs → d ≡ get_or fs i d → AreNumberedFactors p n (factors_left fs i)
    → IsNumbered p n (flat_expression (out-FlatFactor d).value) × AreNumberedFactors p n (factors_left fs (i + 1))
factors_numbered_at p n fs i d h is numbered = subst (AreNumberedFactors p n) (flat_factors_from fs i d h is) numbered
