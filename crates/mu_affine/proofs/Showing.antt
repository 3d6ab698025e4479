-- The tests of a form's coefficients, by the lists of a finished form.
use Rattle.mu_affine.proofs.Common
use Common.{[], ℕ, ◌+◌, ◌<◌, ◌||◌, ◌∷◌, ◌≡◌, ◌≤◌, ◌⊎◌, AffineForm, All, AllByRecursion, any_from}
use Common.{arith, Bool, cases_Bool, cases_lt, Equal, ExactEntry, ExactForm, false, form_meaning}
use Common.{Fraction, get_or, get_or_default, Greater, has_coefficient, has_discretes_alone}
use Common.{has_pairs, has_states_alone, inl, inr, is_nonzero, IsConstant, IsFinished, IsName}
use Common.{IsOfDiscretes, IsOfStates, IsPair, length, Less, List, map, named, nat_cmp, not}
use Common.{Ordering, pair_cmp, paired, Place, refl, Sizes, slice_get, Some, subst, suc, sym, true}
use Common.{value_at, zero}
use Rattle.mu_affine.specs.AffineForm.{has_states, has_discretes, has_previous}
use Rattle.mu_affine.proofs.RowForms.{IsKeyOrder, nat_order, pair_order, entry_at}
use Rattle.mu_affine.proofs.Checks.{any_from-none, any_from-some}
use Rattle.mu_affine.proofs.Sums.{nonzero_at}

-- tests that are joined
pub or_parts : (a b : Bool) → (a || b) ≡ false → (a ≡ false) × (b ≡ false)
or_parts true b h = absurd (cc)
or_parts false b h = (refl, h)

pub or_left : (a b : Bool) → a ≡ true → (a || b) ≡ true
or_left a b h = rw h refl

pub or_right : (a b : Bool) → b ≡ true → (a || b) ≡ true
or_right true b h = refl
or_right false b h = h

pub not_true : (a : Bool) → not a ≡ true → a ≡ false
not_true true h = absurd (cc)
not_true false h = refl

pub not_false : (a : Bool) → not a ≡ false → a ≡ true
not_false true h = refl
not_false false h = absurd (cc)

-- a list is empty, or has a first element
pub first_of_list : {A : Type 0} (xs : List A) → (xs ≡ []) ⊎ ((x : A) × (rest : List A) × (xs ≡ x ∷ rest))
first_of_list [] = inl refl
first_of_list (x ∷ xs) = inr (x, xs, refl)

-- a coefficient that is not 0 shows in one of the tests
pub name_shows : (n : Sizes) (f : AffineForm) (v : ℕ) → IsName n v → is_nonzero (f.coefficient v) ≡ true → (has_states n f || has_discretes n f || has_previous n f) ≡ true
name_shows n f v within h =
    elim (cases_lt v n.states) [
      | inl low ↦
          let s : has_states n f ≡ true = any_from-some 0 n.states v _ (omega arith) (omega arith) h in
          or_left _ _ (or_left _ _ s)
      | inr high ↦ elim (cases_lt v (n.states + n.discretes)) [
        | inl low ↦
            let d : has_discretes n f ≡ true = any_from-some n.states n.discretes v _ high low h in
            or_left _ _ (or_right (has_states n f) _ d)
        | inr higher ↦
            let q : has_previous n f ≡ true = any_from-some (n.states + n.discretes) n.discretes v _ higher (omega arith) h in
            or_right (has_states n f || has_discretes n f) _ q
      ]
    ]

-- and one of a pair too
pub pair_shows : (n : Sizes) (f : AffineForm) (s d : ℕ) → IsPair n s d → is_nonzero (f.paired s d) ≡ true → has_pairs n f ≡ true
pair_shows n f s d within h =
    let row : any_from n.states n.discretes (λ d. is_nonzero (f.paired s d)) ≡ true = any_from-some n.states n.discretes d _ within.1 within.2 h in
    any_from-some 0 n.states s _ (omega arith) (omega arith) row

-- where no pair is other than 0
pub no_pairs : (n : Sizes) (f : AffineForm) → ((s d : ℕ) → is_nonzero (f.paired s d) ≡ false) → has_pairs n f ≡ false
no_pairs n f h = any_from-none _ _ _ (λ s _ _. any_from-none _ _ _ (λ d _ _. h s d))

-- the pairs of a finished form
pub has_pairs-none : (n : Sizes) (f : ExactForm) → f.products ≡ [] → has_pairs n (form_meaning f) ≡ false
has_pairs-none n f h = no_pairs n (form_meaning f) (λ s d. rw h refl)

pub first_pair : (p : Place) (f : ExactForm) → IsFinished p f → has_pairs p.sizes (form_meaning f) ≡ false → f.products ≡ []
first_pair p f finished h =
    elim (first_of_list f.products) [
      | inl empty ↦ empty
      | inr first ↦
          let there : slice_get (map paired f.products) 0 ≡ Some (paired first.0) = rw first.2 refl in
          let nonzero : is_nonzero ((form_meaning f).paired first.0.state first.0.discrete) ≡ true = nonzero_at pair_cmp pair_order (map paired f.products) 0 (paired first.0) finished.canonical.pairs there in
          let shown : has_pairs p.sizes (form_meaning f) ≡ true = pair_shows p.sizes (form_meaning f) _ _ (finished.over.pairs _ _ nonzero).0 nonzero in
          absurd (cc)
    ]

-- outside of equations there are none
pub no_products : (p : Place) (f : ExactForm) → IsFinished p f → p.in_equation ≡ false → f.products ≡ []
no_products p f finished h =
    elim (first_of_list f.products) [
      | inl empty ↦ empty
      | inr first ↦
          let there : slice_get (map paired f.products) 0 ≡ Some (paired first.0) = rw first.2 refl in
          let nonzero : is_nonzero ((form_meaning f).paired first.0.state first.0.discrete) ≡ true = nonzero_at pair_cmp pair_order (map paired f.products) 0 (paired first.0) finished.canonical.pairs there in
          let inside : p.in_equation ≡ true = (finished.over.pairs _ _ nonzero).1 in
          absurd (cc)
    ]

-- an entry of a finished form shows
entry_shows : (p : Place) (f : ExactForm) (i : ℕ) (e : ExactEntry) → IsFinished p f → i < length f.entries → e ≡ get_or f.entries i e → is_nonzero ((form_meaning f).coefficient e.var) ≡ true
entry_shows p f i e finished h is = nonzero_at nat_cmp nat_order (map named f.entries) i (named e) finished.canonical.names (entry_at named f.entries i e h is)

-- a form without coefficients
pub constant_shows : (p : Place) (f : ExactForm) → IsConstant f → has_coefficient p.sizes (form_meaning f) ≡ false
constant_shows p f k =
    let names : (v : ℕ) → is_nonzero ((form_meaning f).coefficient v) ≡ false = λ v. rw k.names refl in
    let s : has_states p.sizes (form_meaning f) ≡ false = any_from-none _ _ _ (λ v _ _. names v) in
    let d : has_discretes p.sizes (form_meaning f) ≡ false = any_from-none _ _ _ (λ v _ _. names v) in
    let q : has_previous p.sizes (form_meaning f) ≡ false = any_from-none _ _ _ (λ v _ _. names v) in
    let r : has_pairs p.sizes (form_meaning f) ≡ false = has_pairs-none p.sizes f k.pairs in
    rw (s, d, q, r, k.time) refl

-- a form that shows none
pub constant_from : (p : Place) (f : ExactForm) → IsFinished p f → has_coefficient p.sizes (form_meaning f) ≡ false → IsConstant f
constant_from p f finished h =
    let m : AffineForm = form_meaning f in
    let n : Sizes = p.sizes in
    let without_time : ((has_states n m || has_discretes n m || has_previous n m || has_pairs n m) ≡ false) × (is_nonzero f.time ≡ false) = or_parts _ _ h in
    let without_pairs : ((has_states n m || has_discretes n m || has_previous n m) ≡ false) × (has_pairs n m ≡ false) = or_parts _ _ without_time.0 in
    record {
      names = elim (first_of_list f.entries) [
        | inl empty ↦ empty
        | inr first ↦
            let there : slice_get (map named f.entries) 0 ≡ Some (named first.0) = rw first.2 refl in
            let nonzero : is_nonzero ((form_meaning f).coefficient first.0.var) ≡ true = nonzero_at nat_cmp nat_order (map named f.entries) 0 (named first.0) finished.canonical.names there in
            let shown = name_shows p.sizes (form_meaning f) first.0.var (finished.over.names _ nonzero).0 nonzero in
            absurd (cc)
      ];
      pairs = first_pair p f finished without_pairs.1;
      time = without_time.1;
    }

-- a form with a coefficient
pub variable_shows : (p : Place) (f : ExactForm) → IsFinished p f → (IsConstant f → ⊥) → has_coefficient p.sizes (form_meaning f) ≡ true
variable_shows p f finished k =
    elim (cases_Bool (has_coefficient p.sizes (form_meaning f))) [
      | inl is ↦ is
      | inr fails ↦ absurd (k (constant_from p f finished fails))
    ]

-- what holds of each entry holds of each key
pub each_key : (P : ℕ → Type 0) (es : List ExactEntry) → All (λ e. P e.var) es → AllByRecursion (λ c. P c.0) (map named es)
each_key P [] h = tt
each_key P (e ∷ es) h = (h zero e (omega arith), each_key P es (λ k d lt. h (suc k) d (omega arith)))

-- the first key of a list, or one of the others
by_first_key : {K : Type 0} (R : K → K → Ordering) → IsKeyOrder R → (P : K → Type 0) (c : K × Fraction) (cs : List (K × Fraction)) (k : K) (r : Ordering) → R k c.0 ≡ r → P c.0
    → (is_nonzero (value_at R cs k) ≡ true → P k) → is_nonzero (value_at R (c ∷ cs) k) ≡ true → P k
by_first_key R o P c cs k Less e here later n = later (rw e at n)
by_first_key R o P c cs k Equal e here later n = subst P (sym (o.exact k c.0 e)) here
by_first_key R o P c cs k Greater e here later n = later (rw e at n)

-- the key of a coefficient other than 0 is one of the list's
pub key_of_nonzero : {K : Type 0} (R : K → K → Ordering) → IsKeyOrder R → (P : K → Type 0) (cs : List (K × Fraction)) (k : K) → AllByRecursion (λ c. P c.0) cs → is_nonzero (value_at R cs k) ≡ true → P k
key_of_nonzero R o P [] k h n = absurd (cc)
key_of_nonzero R o P (c ∷ cs) k h n = by_first_key R o P c cs k (R k c.0) refl h.0 (key_of_nonzero R o P cs k h.1) n

-- a name without a coefficient
pub name_is_zero : (P : ℕ → Type 0) (f : ExactForm) (v : ℕ) → All (λ e. P e.var) f.entries → (P v → ⊥) → is_nonzero ((form_meaning f).coefficient v) ≡ false
name_is_zero P f v all never =
    elim (cases_Bool (is_nonzero ((form_meaning f).coefficient v))) [
      | inl is ↦ absurd (never (key_of_nonzero nat_cmp nat_order P (map named f.entries) v (each_key P f.entries all) is))
      | inr fails ↦ fails
    ]

-- a form of states
pub states_show : (p : Place) (f : ExactForm) → IsOfStates p.sizes f → has_states_alone p.sizes (form_meaning f) ≡ true
states_show p f k =
    let zero_above : (v : ℕ) → p.sizes.states ≤ v → is_nonzero ((form_meaning f).coefficient v) ≡ false = λ v h. name_is_zero (λ w. w < p.sizes.states) f v k.names (λ lt. omega arith) in
    let d : has_discretes p.sizes (form_meaning f) ≡ false = any_from-none _ _ _ (λ v low _. zero_above v low) in
    let q : has_previous p.sizes (form_meaning f) ≡ false = any_from-none _ _ _ (λ v low _. zero_above v (omega arith)) in
    let r : has_pairs p.sizes (form_meaning f) ≡ false = has_pairs-none p.sizes f k.pairs in
    rw (d, q, r, k.time) refl

-- a form that shows states alone
pub states_from : (p : Place) (f : ExactForm) → IsFinished p f → has_states_alone p.sizes (form_meaning f) ≡ true → IsOfStates p.sizes f
states_from p f finished h =
    let m : AffineForm = form_meaning f in
    let n : Sizes = p.sizes in
    let without_time : ((has_discretes n m || has_previous n m || has_pairs n m) ≡ false) × (is_nonzero f.time ≡ false) = or_parts _ _ (not_true _ h) in
    let without_pairs : ((has_discretes n m || has_previous n m) ≡ false) × (has_pairs n m ≡ false) = or_parts _ _ without_time.0 in
    let alone : (has_discretes n m ≡ false) × (has_previous n m ≡ false) = or_parts _ _ without_pairs.0 in
    record {
      names = λ k d lt.
          let e : ExactEntry = get_or f.entries k d in
          let nonzero = entry_shows p f k e finished lt (get_or_default f.entries k d e lt) in
          let within : IsName p.sizes e.var = (finished.over.names e.var nonzero).0 in
          elim (cases_lt e.var p.sizes.states) [
            | inl low ↦ low
            | inr high ↦ elim (cases_lt e.var (p.sizes.states + p.sizes.discretes)) [
              | inl low ↦ let shown : has_discretes p.sizes (form_meaning f) ≡ true = any_from-some _ _ e.var _ high low nonzero in absurd (cc)
              | inr higher ↦ let shown : has_previous p.sizes (form_meaning f) ≡ true = any_from-some _ _ e.var _ higher (omega arith) nonzero in absurd (cc)
            ]
          ];
      pairs = first_pair p f finished without_pairs.1;
      time = without_time.1;
    }

-- a form of discrete variables
pub discretes_show : (p : Place) (f : ExactForm) → IsOfDiscretes p.sizes f → has_discretes_alone p.sizes (form_meaning f) ≡ true
discretes_show p f k =
    let P : ℕ → Type 0 = λ w. (p.sizes.states ≤ w) × (w < p.sizes.states + p.sizes.discretes) in
    let s : has_states p.sizes (form_meaning f) ≡ false = any_from-none _ _ _ (λ v _ low. name_is_zero P f v k.names (λ w. omega arith)) in
    let q : has_previous p.sizes (form_meaning f) ≡ false = any_from-none _ _ _ (λ v high _. name_is_zero P f v k.names (λ w. omega arith)) in
    let r : has_pairs p.sizes (form_meaning f) ≡ false = has_pairs-none p.sizes f k.pairs in
    rw (s, q, r, k.time) refl

-- a form that shows discrete variables alone
pub discretes_from : (p : Place) (f : ExactForm) → IsFinished p f → has_discretes_alone p.sizes (form_meaning f) ≡ true → IsOfDiscretes p.sizes f
discretes_from p f finished h =
    let m : AffineForm = form_meaning f in
    let n : Sizes = p.sizes in
    let without_time : ((has_states n m || has_previous n m || has_pairs n m) ≡ false) × (is_nonzero f.time ≡ false) = or_parts _ _ (not_true _ h) in
    let without_pairs : ((has_states n m || has_previous n m) ≡ false) × (has_pairs n m ≡ false) = or_parts _ _ without_time.0 in
    let alone : (has_states n m ≡ false) × (has_previous n m ≡ false) = or_parts _ _ without_pairs.0 in
    record {
      names = λ k d lt.
          let e : ExactEntry = get_or f.entries k d in
          let nonzero = entry_shows p f k e finished lt (get_or_default f.entries k d e lt) in
          let within : IsName p.sizes e.var = (finished.over.names e.var nonzero).0 in
          elim (cases_lt e.var p.sizes.states) [
            | inl low ↦ let shown : has_states p.sizes (form_meaning f) ≡ true = any_from-some 0 _ e.var _ (omega arith) (omega arith) nonzero in absurd (cc)
            | inr high ↦ elim (cases_lt e.var (p.sizes.states + p.sizes.discretes)) [
              | inl low ↦ (high, low)
              | inr higher ↦ let shown : has_previous p.sizes (form_meaning f) ≡ true = any_from-some _ _ e.var _ higher (omega arith) nonzero in absurd (cc)
            ]
          ];
      pairs = first_pair p f finished without_pairs.1;
      time = without_time.1;
    }
