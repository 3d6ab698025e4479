-- Lists that were made before others.
use Rattle.mu_unroll.proofs.Common
use Common.{[], ◌++◌, ◌∷◌, ◌≡◌, ap, append_assoc, bind_result, Err, List, Ok, refl, Result, sym}
use Common.{UnrollErr}

-- a list after another, where there is one
abbrev pub prefixed : {X : Type 0} → List X → Result (List X) UnrollErr → Result (List X) UnrollErr
prefixed xs (Ok ys) = Ok (xs ++ ys)
prefixed xs (Err f) = Err f

-- after nothing
pub prefixed_none : {X : Type 0} (r : Result (List X) UnrollErr) → prefixed [] r ≡ r
prefixed_none {X} (Ok ys) = refl
prefixed_none {X} (Err f) = refl

-- one more
pub prefixed_more : {X : Type 0} (xs : List X) (x : X) (r : Result (List X) UnrollErr) → prefixed xs (bind_result r (λ ys. Ok (x ∷ ys))) ≡ prefixed (xs ++ x ∷ []) r
prefixed_more {X} xs x (Ok ys) = ap Ok (sym (append_assoc xs (x ∷ []) ys))
prefixed_more {X} xs x (Err f) = refl
