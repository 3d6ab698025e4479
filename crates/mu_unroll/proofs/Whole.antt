-- The whole of unrolling, by its steps.
use Rattle.mu_unroll.proofs.Common
use Common.{ℕ, ◌+◌, ◌^◌, ◌∙◌, ◌≡◌, ap, ap₂, declared_in, Err, false, FlatModelTree, FlatVariable}
use Common.{IfOk, if◌then◌else◌, IsFlatModel, IsNumbered, IsWellFormed, Known, List, listed}
use Common.{ModelTree, NameDenotation, nat_lt, Ok, Result, scalar_count, scalars_in, subst, sym}
use Common.{TooMany, unrolled, unrolled_with, UnrollErr}
use Rattle.mu_tree.specs.declared.flat.FlatModel.{FlatModel}
use Rattle.mu_tree.specs.FlatExpression.{flat_model}
use Rattle.mu_unroll.proofs.FlatModels.{flat_model_right, numbered_right}
use Rattle.mu_unroll.proofs.Listed.{listed_right}

-- there are not too many variables, and the names and the variables are those of the scope
pub whole_is : (m : ModelTree) (ks : List Known) (declared : List ℕ → NameDenotation) (vars : List FlatVariable) → nat_lt (2 ^ 12) (scalar_count ks) ≡ false → declared ≡ declared_in ks → vars ≡ scalars_in ks → unrolled_with declared m vars ≡ unrolled m ks
whole_is m ks declared vars few d v =
    ap₂ (λ (x : List ℕ → NameDenotation) (y : List FlatVariable). unrolled_with x m y) d v
    ∙ sym (ap (λ t. if t then Err (TooMany (2 ^ 12 + 1)) else unrolled_with (declared_in ks) m (scalars_in ks)) few)

-- what holds of the defined flat model holds of the one that is given
pub of_given : (Q : FlatModelTree → Type 0) (whole : Result FlatModelTree UnrollErr) (r : Result FlatModel UnrollErr) → IfOk r (λ flat. whole ≡ Ok (flat_model flat)) → IfOk whole Q → IfOk r (λ flat. Q (flat_model flat))
of_given Q whole (Ok flat) e h = subst (λ x. IfOk x Q) e h
of_given Q whole (Err fault) e h = tt

pub ok_same : (whole same : Result FlatModelTree UnrollErr) (r : Result FlatModel UnrollErr) → whole ≡ same → IfOk r (λ flat. whole ≡ Ok (flat_model flat)) → IfOk r (λ flat. same ≡ Ok (flat_model flat))
ok_same whole same (Ok flat) e h = sym e ∙ h
ok_same whole same (Err fault) e h = tt

-- the flat model that is given is the one of the lists, is a flat model where the model is well formed, and can be ordered
pub lists_given : (m : ModelTree) (ks : List Known) (r : Result FlatModel UnrollErr) → IfOk r (λ flat. unrolled m ks ≡ Ok (flat_model flat)) → IfOk r (λ flat. listed m ks ≡ Ok (flat_model flat))
lists_given m ks r e = of_given (λ f. listed m ks ≡ Ok f) (unrolled m ks) r e (listed_right m ks)

pub flat_given : (m : ModelTree) (ks : List Known) (r : Result FlatModel UnrollErr) → IfOk r (λ flat. unrolled m ks ≡ Ok (flat_model flat)) → IfOk r (λ flat. IsWellFormed m → IsFlatModel (flat_model flat))
flat_given m ks (Ok flat) e = λ w. subst (λ x. IfOk x IsFlatModel) e (flat_model_right m ks w)
flat_given m ks (Err fault) e = tt

pub numbered_given : (m : ModelTree) (ks : List Known) (r : Result FlatModel UnrollErr) → IfOk r (λ flat. unrolled m ks ≡ Ok (flat_model flat)) → IfOk r (λ flat. IsNumbered (flat_model flat))
numbered_given m ks r e = of_given IsNumbered (unrolled m ks) r e (numbered_right m ks)
