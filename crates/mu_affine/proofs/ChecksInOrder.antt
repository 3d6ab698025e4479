-- In a flat model the states come first and the discrete variables next.
use Rattle.mu_affine.proofs.Common
use Common.{[], ℕ, ◌+◌, ◌<◌, ◌∙◌, ◌∷◌, ◌≡◌, ◌≤◌, Algebraic, All, All-head, All-tail, ap, arith}
use Common.{Bool, cond, Discrete, discrete_count, FlatRole, FlatVariable, get_or, get_or-map}
use Common.{IsNonDecreasing, length, length-map, List, map, rank, refl, slice_get, Some, State}
use Common.{state_count, suc, sum_by-cons, zero}
use Rattle.mu_affine.specs.FormPlaces.{is_state, is_discrete}

abbrev one_if : Bool → ℕ
one_if b = cond b 1 0

abbrev own_rank : FlatVariable → ℕ
own_rank v = rank v.role

-- one more variable at the start of the list
states_cons : (v : FlatVariable) (vs : List FlatVariable) → state_count (v ∷ vs) ≡ one_if (is_state v.role) + state_count vs
states_cons v vs = sum_by-cons (λ (v : FlatVariable). one_if (is_state v.role)) v vs

discretes_cons : (v : FlatVariable) (vs : List FlatVariable) → discrete_count (v ∷ vs) ≡ one_if (is_discrete v.role) + discrete_count vs
discretes_cons v vs = sum_by-cons (λ (v : FlatVariable). one_if (is_discrete v.role)) v vs

-- a variable is one of three
one_role : (r : FlatRole) → one_if (is_state r) + one_if (is_discrete r) ≤ 1
one_role State = omega arith
one_role Discrete = omega arith
one_role Algebraic = omega arith

no_state : (r : FlatRole) → 1 ≤ rank r → one_if (is_state r) ≡ 0
no_state State h = absurd (omega arith)
no_state Discrete h = refl
no_state Algebraic h = refl

no_discrete : (r : FlatRole) → 2 ≤ rank r → one_if (is_discrete r) ≡ 0
no_discrete State h = refl
no_discrete Discrete h = absurd (omega arith)
no_discrete Algebraic h = refl

-- so there are no more states and discrete variables than variables
pub counts_fit : (vs : List FlatVariable) → state_count vs + discrete_count vs ≤ length vs
counts_fit [] = omega arith
counts_fit (v ∷ vs) = omega (arith, counts_fit vs, states_cons v vs, discretes_cons v vs, one_role v.role)

-- no variable after the first one has a lower rank
rest_higher : (v : FlatVariable) (vs : List FlatVariable) → IsNonDecreasing (map own_rank (v ∷ vs)) → All (λ w. rank v.role ≤ rank w.role) vs
rest_higher v vs h k d inside =
    let same : length (map own_rank vs) ≡ length vs = length-map vs own_rank in
    let le : own_rank v ≤ get_or (map own_rank vs) k 0 = h 0 (suc k) 0 (omega arith) (omega arith) in
    rw (get_or-map own_rank vs k d 0 inside) at le

rest_ordered : (v : FlatVariable) (vs : List FlatVariable) → IsNonDecreasing (map own_rank (v ∷ vs)) → IsNonDecreasing (map own_rank vs)
rest_ordered v vs h i j d low high = h (suc i) (suc j) d (omega arith) (omega arith)

no_states : (vs : List FlatVariable) (least : ℕ) → 1 ≤ least → All (λ w. least ≤ rank w.role) vs → state_count vs ≡ 0
no_states [] least low h = refl
no_states (v ∷ vs) least low h =
    let own : least ≤ rank v.role = All-head (λ (w : FlatVariable). least ≤ rank w.role) v vs h in
    omega (arith, states_cons v vs, no_state v.role (omega arith), no_states vs least low (All-tail (λ (w : FlatVariable). least ≤ rank w.role) v vs h))

no_discretes : (vs : List FlatVariable) (least : ℕ) → 2 ≤ least → All (λ w. least ≤ rank w.role) vs → discrete_count vs ≡ 0
no_discretes [] least low h = refl
no_discretes (v ∷ vs) least low h =
    let own : least ≤ rank v.role = All-head (λ (w : FlatVariable). least ≤ rank w.role) v vs h in
    omega (arith, discretes_cons v vs, no_discrete v.role (omega arith), no_discretes vs least low (All-tail (λ (w : FlatVariable). least ≤ rank w.role) v vs h))

-- the place of a state
pub state_place : (vs : List FlatVariable) (i : ℕ) (w : FlatVariable) → IsNonDecreasing (map own_rank vs) → slice_get vs i ≡ Some w → w.role ≡ State → i < state_count vs
state_place [] i w h e r = absurd (cc)
state_place (v ∷ vs) zero w h e r =
    let same : v ≡ w = cc in
    let own : one_if (is_state v.role) ≡ 1 = ap (λ (v : FlatVariable). one_if (is_state v.role)) same ∙ ap (λ (r : FlatRole). one_if (is_state r)) r in
    omega (arith, own, states_cons v vs)
state_place (v ∷ vs) (suc i) w h e r = by_role v.role refl (state_place vs i w (rest_ordered v vs h) e r)
  where
    none : (r : FlatRole) → v.role ≡ r → 1 ≤ rank r → i < state_count vs → suc i < state_count (v ∷ vs)
    none r is low later = let own : 1 ≤ rank v.role = rw is low in let left = no_states vs (rank v.role) own (rest_higher v vs h) in absurd (omega (arith, later, left))

    by_role : (r : FlatRole) → v.role ≡ r → i < state_count vs → suc i < state_count (v ∷ vs)
    by_role State is later =
        let own : one_if (is_state v.role) ≡ 1 = ap (λ (r : FlatRole). one_if (is_state r)) is in
        omega (arith, own, states_cons v vs, later)
    by_role Discrete is later = none Discrete is (omega arith) later
    by_role Algebraic is later = none Algebraic is (omega arith) later

-- the place of a discrete variable
pub discrete_place : (vs : List FlatVariable) (i : ℕ) (w : FlatVariable) → IsNonDecreasing (map own_rank vs) → slice_get vs i ≡ Some w → w.role ≡ Discrete →
    (state_count vs ≤ i) × (i < state_count vs + discrete_count vs)
discrete_place [] i w h e r = absurd (cc)
discrete_place (v ∷ vs) zero w h e r =
    let same : v ≡ w = cc in
    let is : v.role ≡ Discrete = ap (λ (v : FlatVariable). v.role) same ∙ r in
    let own : one_if (is_discrete v.role) ≡ 1 = ap (λ (r : FlatRole). one_if (is_discrete r)) is in
    let other : one_if (is_state v.role) ≡ 0 = ap (λ (r : FlatRole). one_if (is_state r)) is in
    let low : 1 ≤ rank v.role = rw is (omega arith) in
    let none = no_states vs (rank v.role) low (rest_higher v vs h) in
    (omega (arith, other, none, states_cons v vs), omega (arith, own, discretes_cons v vs))
discrete_place (v ∷ vs) (suc i) w h e r = by_role v.role refl (discrete_place vs i w (rest_ordered v vs h) e r)
  where
    by_role : (r : FlatRole) → v.role ≡ r → (state_count vs ≤ i) × (i < state_count vs + discrete_count vs) → (state_count (v ∷ vs) ≤ suc i) × (suc i < state_count (v ∷ vs) + discrete_count (v ∷ vs))
    by_role State is later =
        let own : one_if (is_state v.role) ≡ 1 = ap (λ (r : FlatRole). one_if (is_state r)) is in
        let other : one_if (is_discrete v.role) ≡ 0 = ap (λ (r : FlatRole). one_if (is_discrete r)) is in
        (omega (arith, own, states_cons v vs, later.0), omega (arith, own, other, states_cons v vs, discretes_cons v vs, later.1))
    by_role Discrete is later =
        let own : one_if (is_discrete v.role) ≡ 1 = ap (λ (r : FlatRole). one_if (is_discrete r)) is in
        let other : one_if (is_state v.role) ≡ 0 = ap (λ (r : FlatRole). one_if (is_state r)) is in
        (omega (arith, other, states_cons v vs, later.0), omega (arith, own, other, states_cons v vs, discretes_cons v vs, later.1))
    by_role Algebraic is later =
        let low : 2 ≤ rank v.role = rw is (omega arith) in
        let some : 1 ≤ rank v.role = omega arith in
        let no_more = no_states vs (rank v.role) some (rest_higher v vs h) in
        let none = no_discretes vs (rank v.role) low (rest_higher v vs h) in
        absurd (omega (arith, no_more, none, later.1))
