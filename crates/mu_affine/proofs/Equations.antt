-- The right sides of equations by their variables.
use Rattle.mu_affine.proofs.Common
use Common.{[], ℕ, ◌+◌, ◌<◌, ◌∙◌, ◌∷◌, ◌≡◌, ◌≢◌, ◌≤◌, add-one, All, ap, arith, cases_eq, Constant}
use Common.{drop, drop-cons, false, flat_equation, flat_expression, FlatEquation, FlatEquationTree}
use Common.{get_or, if◌then◌else◌, inl, inr, length, length-map, List, map, nat_eq, nat_tests, none}
use Common.{refl, right_side, set, side_at, slice_get, slice_get-get_or, slice_get_within, Some}
use Common.{subst, suc, sym, true, zero}
use Rattle.std.proofs.Common.{replicate}
use Rattle.std.specs.Prelude.{option_map}
use Rattle.std.proofs.Math.Seq.{drop-length}
use Rattle.std.proofs.lemmas.Option.{slice_get-map, slice_get_past}
use Rattle.mu_affine.specs.Takings.{AreFirsts}

-- past the last equation there is no right side
pub past_side : (es : List FlatEquationTree) (i : ℕ) → length es ≤ i → side_at es i ≡ Constant none 0
past_side es i h = rw (slice_get_past es i h) refl

-- what holds of all elements holds of one
pub one_of_all : {A : Type 0} (P : A → Type 0) (xs : List A) (i : ℕ) (x : A) → All P xs → slice_get xs i ≡ Some x → P x
one_of_all P xs i x all there =
    let within : i < length xs = slice_get_within xs i x there in
    let same : x ≡ get_or xs i x = let e = slice_get-get_or xs i x within in cc in
    subst P (sym same) (all i x within)

-- an element of a mapped list
map_at : {A B : Type 0} (f : A → B) (xs : List A) (i : ℕ) (d : A) → i < length xs → d ≡ get_or xs i d → slice_get (map f xs) i ≡ Some (f d)
map_at f xs i d h is = slice_get-map f xs i ∙ ap (option_map f) (slice_get-get_or xs i d h ∙ ap Some (sym is))

-- what holds of all of a mapped list
pub mapped_one : {A B : Type 0} (f : A → B) (P : B → Type 0) (xs : List A) (i : ℕ) (d : A) → All P (map f xs) → i < length xs → d ≡ get_or xs i d → P (f d)
mapped_one f P xs i d all h is = one_of_all P (map f xs) i (f d) all (map_at f xs i d h is)

-- at first no variable has an equation
pub no_firsts : (es : List FlatEquation) (variables n : ℕ) (firsts : List ℕ) → firsts ≡ replicate variables (length es) → n ≡ length es
    → (v : ℕ) → v < length firsts → side_at (map flat_equation es) (get_or firsts v 0) ≡ right_side (map flat_equation (drop n es)) v
no_firsts es variables n firsts made whole v h =
    let here : get_or firsts v 0 ≡ length es = replicated variables firsts made v h in
    past_side (map flat_equation es) (get_or firsts v 0) (omega (arith, here, length-map es flat_equation)) ∙ sym (ap (λ xs. right_side (map flat_equation xs) v) (ap (λ k. drop k es) whole ∙ drop-length es))
  where
    each_same : (k : ℕ) (x : ℕ) (v : ℕ) → v < length (replicate k x) → get_or (replicate k x) v 0 ≡ x
    each_same zero x v h = absurd (omega arith)
    each_same (suc k) x zero h = refl
    each_same (suc k) x (suc v) h = each_same k x v (omega arith)

    replicated : (variables : ℕ) (firsts : List ℕ) → firsts ≡ replicate variables (length es) → (v : ℕ) → v < length firsts → get_or firsts v 0 ≡ length es
    replicated variables firsts made v h = ap (λ xs. get_or xs v 0) made ∙ each_same variables (length es) v (subst (λ xs. v < length xs) made h)

-- the right side of a variable's equation, where this equation and those after it are looked at
one_equation : (es : List FlatEquation) (i : ℕ) (e : FlatEquation) (v : ℕ) → i < length es → e ≡ get_or es i e
    → right_side (map flat_equation (drop i es)) v ≡ (if nat_eq e.target v then flat_expression e.value else right_side (map flat_equation (drop (i + 1) es)) v)
one_equation es i e v h is = rw (add-one, drop-cons es i e h, ← is) refl

-- one equation more, from the last one down
pub first_more : (es : List FlatEquation) (i j : ℕ) (e : FlatEquation) (firsts : List ℕ) → j ≡ i + 1 → i < length es → e ≡ get_or es i e
    → ((v : ℕ) → v < length firsts → side_at (map flat_equation es) (get_or firsts v 0) ≡ right_side (map flat_equation (drop j es)) v)
    → (v : ℕ) → v < length firsts → side_at (map flat_equation es) (get_or (set firsts e.target i) v 0) ≡ right_side (map flat_equation (drop i es)) v
first_more es i j e firsts next h is before v within =
    elim (cases_eq v e.target) [
      | inl same ↦
          let there : get_or (set firsts e.target i) v 0 ≡ i = written firsts e.target v i same within in
          let test : nat_eq e.target v ≡ true = grind (arith, nat_tests) in
          let side : side_at (map flat_equation es) i ≡ flat_expression e.value = let at = map_at flat_equation es i e h is in rw at refl in
          ap (side_at (map flat_equation es)) there ∙ side ∙ sym (one_equation es i e v h is ∙ ap (λ b. if b then flat_expression e.value else right_side (map flat_equation (drop (i + 1) es)) v) test)
      | inr other ↦
          let there : get_or (set firsts e.target i) v 0 ≡ get_or firsts v 0 = unwritten firsts e.target v i other in
          let test : nat_eq e.target v ≡ false = grind (arith, nat_tests) in
          ap (side_at (map flat_equation es)) there ∙ before v within ∙ ap (λ k. right_side (map flat_equation (drop k es)) v) next ∙ sym (one_equation es i e v h is ∙ ap (λ b. if b then flat_expression e.value else right_side (map flat_equation (drop (i + 1) es)) v) test)
    ]
  where
    written : (xs : List ℕ) (k v i : ℕ) → v ≡ k → v < length xs → get_or (set xs k i) v 0 ≡ i
    written [] k v i same h = absurd (omega arith)
    written (x ∷ xs) zero zero i same h = refl
    written (x ∷ xs) zero (suc v) i same h = absurd (omega arith)
    written (x ∷ xs) (suc k) zero i same h = absurd (omega arith)
    written (x ∷ xs) (suc k) (suc v) i same h = written xs k v i (omega arith) (omega arith)

    unwritten : (xs : List ℕ) (k v i : ℕ) → v ≢ k → get_or (set xs k i) v 0 ≡ get_or xs v 0
    unwritten [] k v i other = refl
    unwritten (x ∷ xs) zero zero i other = absurd (other refl)
    unwritten (x ∷ xs) zero (suc v) i other = refl
    unwritten (x ∷ xs) (suc k) zero i other = refl
    unwritten (x ∷ xs) (suc k) (suc v) i other = unwritten xs k v i (λ same. other (ap (λ n. suc n) same))

-- a variable without an equation has the right side 0
pub no_side : (es : List FlatEquation) (firsts : List ℕ) (v : ℕ) → AreFirsts (map flat_equation es) firsts → v < length firsts → length es ≤ get_or firsts v 0 → right_side (map flat_equation es) v ≡ Constant none 0
no_side es firsts v are h past = sym (are v h) ∙ past_side (map flat_equation es) (get_or firsts v 0) (omega (arith, length-map es flat_equation))
