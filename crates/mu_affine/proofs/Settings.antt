-- Coefficients that are set, each once.
use Rattle.mu_affine.proofs.Common
use Common.{[], ℕ, ◌++◌, ◌+◌, ◌<◌, ◌∙◌, ◌∷◌, ◌≡◌, AllByRecursion, ap, beside, ChangesAt, checked}
use Common.{cond, Equal, ExactEntry, false, Fraction, get_or, Greater, if◌then◌else◌, is_at, is_eq}
use Common.{IsPairSet, IsRising, IsSet, IsStrictlySortedBy, keys_of, length, Less, List, ListFails}
use Common.{lookup, map, named, nat_cmp, None, NumErr, Ok, Ordering, ordering_reverse}
use Common.{ordering_then, pair_cmp, product, refl, SetsAll, slice_get, Some, subst, suc, sym}
use Common.{TableFails, take, take-map, value_at, zero}
use Rattle.mu_affine.specs.ProductRows.{SetsTable}
use Rattle.mu_affine.proofs.RowForms.{IsKeyOrder, nat_order, level_self, lookup_push, lookup_kept}
use Rattle.mu_affine.proofs.RowForms.{unseen, entry_at, entries_more}

-- what is level one way is level the other way
reversed : (r : Ordering) → is_eq r ≡ false → is_eq (ordering_reverse r) ≡ false
reversed Less e = refl
reversed Equal e = e
reversed Greater e = refl

-- one more key was set: that key
set_here : {K : Type 0} (R : K → K → Ordering) (by : Fraction) (old before after xs : List (K × Fraction)) (c : K × Fraction) (value : Fraction) → IsKeyOrder R
    → lookup (is_at (R c.0)) xs ≡ None → checked (product c.1 by) ≡ Ok value → ChangesAt R before after c.0 value
    → IsSet (lookup (is_at (R c.0)) (xs ++ c ∷ [])) by (value_at R old c.0) (value_at R after c.0)
set_here R by old before after xs c value o absent ok change =
    let level : R c.0 c.0 ≡ Equal = level_self R o c.0 in
    let found : lookup (is_at (R c.0)) (xs ++ c ∷ []) ≡ Some c.1 = lookup_push (is_at (R c.0)) xs c absent ∙ ap (λ r. cond (is_eq r) (Some c.1) None) level in
    let is : value_at R after c.0 ≡ value = change c.0 ∙ ap (λ r. if is_eq r then value else value_at R before c.0) level in
    let here : IsSet (Some c.1) by (value_at R old c.0) (value_at R after c.0) = rw is ok in
    subst (λ r. IsSet r by (value_at R old c.0) (value_at R after c.0)) (sym found) here

-- and another key
set_there : {K : Type 0} (R : K → K → Ordering) (by : Fraction) (old before after xs : List (K × Fraction)) (c : K × Fraction) (value : Fraction) (k : K) → IsKeyOrder R
    → is_eq (R c.0 k) ≡ false → SetsAll R by old before xs → ChangesAt R before after c.0 value
    → IsSet (lookup (is_at (R k)) (xs ++ c ∷ [])) by (value_at R old k) (value_at R after k)
set_there R by old before after xs c value k o apart sets change =
    let flipped : is_eq (R k c.0) ≡ false = ap is_eq (o.total.antisymm k c.0) ∙ reversed (R c.0 k) apart in
    let kept : lookup (is_at (R k)) (xs ++ c ∷ []) ≡ lookup (is_at (R k)) xs = lookup_kept (is_at (R k)) xs c flipped in
    let is : value_at R after k ≡ value_at R before k = change k ∙ ap (λ b. if b then value else value_at R before k) apart in
    let there : IsSet (lookup (is_at (R k)) xs) by (value_at R old k) (value_at R after k) = subst (λ x. IsSet (lookup (is_at (R k)) xs) by (value_at R old k) x) (sym is) (sets k) in
    subst (λ r. IsSet r by (value_at R old k) (value_at R after k)) (sym kept) there

-- by how the key compares
set_by : {K : Type 0} (R : K → K → Ordering) (by : Fraction) (old before after xs : List (K × Fraction)) (c : K × Fraction) (value : Fraction) (k : K) (r : Ordering) → IsKeyOrder R → R c.0 k ≡ r
    → lookup (is_at (R c.0)) xs ≡ None → SetsAll R by old before xs → checked (product c.1 by) ≡ Ok value → ChangesAt R before after c.0 value
    → IsSet (lookup (is_at (R k)) (xs ++ c ∷ [])) by (value_at R old k) (value_at R after k)
set_by R by old before after xs c value k Less o e absent sets ok change = set_there R by old before after xs c value k o (ap is_eq e) sets change
set_by R by old before after xs c value k Equal o e absent sets ok change =
    subst (λ q. IsSet (lookup (is_at (R q)) (xs ++ c ∷ [])) by (value_at R old q) (value_at R after q)) (o.exact c.0 k e) (set_here R by old before after xs c value o absent ok change)
set_by R by old before after xs c value k Greater o e absent sets ok change = set_there R by old before after xs c value k o (ap is_eq e) sets change

-- one more entry was set
pub entry_set : {E K : Type 0} (R : K → K → Ordering) (f : E → K × Fraction) (by : Fraction) (old before after : List (K × Fraction)) (es : List E) (i : ℕ) (e : E) (value : Fraction) → IsKeyOrder R
    → IsRising R (map f es) → i < length es → e ≡ get_or es i e → SetsAll R by old before (map f (take i es)) → checked (product (f e).1 by) ≡ Ok value → ChangesAt R before after (f e).0 value
    → SetsAll R by old after (map f (take (i + 1) es))
entry_set R f by old before after es i e value o rising h is sets ok change =
    let absent : lookup (is_at (R (f e).0)) (map f (take i es)) ≡ None = rw (← take-map f i es) (unseen R o.total (map f es) i (f e) rising (entry_at f es i e h is)) in
    rw (entries_more f es i e h is) (λ k. set_by R by old before after (map f (take i es)) (f e) value k (R (f e).0 k) o refl absent sets ok change)

-- the pairs of a state rise with the discrete variables
beside_keys : (s v : ℕ) (es : List ExactEntry) → AllByRecursion (λ y. nat_cmp v y ≡ Less) (keys_of (map named es)) → AllByRecursion (λ y. pair_cmp (s, v) y ≡ Less) (keys_of (map (beside s) es))
beside_keys s v [] h = tt
beside_keys s v (e ∷ es) h = (rw (level_self nat_cmp nat_order s) h.0, beside_keys s v es h.1)

pub IsRising-beside : (s : ℕ) (es : List ExactEntry) → IsRising nat_cmp (map named es) → IsRising pair_cmp (map (beside s) es)
unfolding IsStrictlySortedBy
IsRising-beside s [] h = h
IsRising-beside s (e ∷ es) h = (beside_keys s e.var es h.0, IsRising-beside s es h.1)

-- a look-up among the pairs of a state
pub lookup-beside : (s d : ℕ) (es : List ExactEntry) → lookup (is_at (pair_cmp (s, d))) (map (beside s) es) ≡ lookup (is_at (nat_cmp d)) (map named es)
lookup-beside s d [] = refl
lookup-beside s d (e ∷ es) =
    let level : is_at (pair_cmp (s, d)) (s, e.var) ≡ is_at (nat_cmp d) e.var = ap (λ r. is_eq (ordering_then r (nat_cmp d e.var))) (level_self nat_cmp nat_order s) in
    let rest = lookup-beside s d es in
    λ i. cond (level i) (Some e.coef) (rest i)

-- and among those of another one
not_level : (r t : Ordering) → is_eq r ≡ false → is_eq (ordering_then r t) ≡ false
not_level Less t h = refl
not_level Equal t h = absurd (cc)
not_level Greater t h = refl

pub lookup-beside_other : (s q d : ℕ) (es : List ExactEntry) → is_eq (nat_cmp s q) ≡ false → lookup (is_at (pair_cmp (s, d))) (map (beside q) es) ≡ None
lookup-beside_other s q d [] h = refl
lookup-beside_other s q d (e ∷ es) h = rw (not_level (nat_cmp s q) (nat_cmp d e.var) h) (lookup-beside_other s q d es h)

-- the pairs of the first states were set
abbrev pub SetsStates : (old new : List ((ℕ × ℕ) × Fraction)) → (states discretes : List (ℕ × Fraction)) → Type 0
SetsStates old new states discretes = SetsTable old new states discretes (Ok tt)

-- one more state, whose pairs with the discrete variables were set
state_by : (old before after : List ((ℕ × ℕ) × Fraction)) (xs : List (ℕ × Fraction)) (ds : List ExactEntry) (c : ℕ × Fraction) (s d : ℕ) (r : Ordering) → nat_cmp s c.0 ≡ r
    → lookup (is_at (nat_cmp c.0)) xs ≡ None → SetsStates old before xs (map named ds) → SetsAll pair_cmp c.1 before after (map (beside c.0) ds)
    → IsPairSet (lookup (is_at (nat_cmp s)) (xs ++ c ∷ [])) (lookup (is_at (nat_cmp d)) (map named ds)) (value_at pair_cmp old (s, d)) (value_at pair_cmp after (s, d))
state_by old before after xs ds c s d Less e absent sets row =
    let kept : lookup (is_at (nat_cmp s)) (xs ++ c ∷ []) ≡ lookup (is_at (nat_cmp s)) xs = lookup_kept (is_at (nat_cmp s)) xs c (ap is_eq e) in
    let same : value_at pair_cmp after (s, d) ≡ value_at pair_cmp before (s, d) = subst (λ o. IsSet o c.1 (value_at pair_cmp before (s, d)) (value_at pair_cmp after (s, d))) (lookup-beside_other s c.0 d ds (ap is_eq e)) (row (s, d)) in
    rw (kept, same) (sets s d)
state_by old before after xs ds c s d Equal e absent sets row =
    let is : s ≡ c.0 = nat_order.exact s c.0 e in
    let none_before : lookup (is_at (nat_cmp s)) xs ≡ None = subst (λ q. lookup (is_at (nat_cmp q)) xs ≡ None) (sym is) absent in
    let found : lookup (is_at (nat_cmp s)) (xs ++ c ∷ []) ≡ Some c.1 = lookup_push (is_at (nat_cmp s)) xs c none_before ∙ ap (λ r. cond (is_eq r) (Some c.1) None) e in
    let untouched : value_at pair_cmp before (s, d) ≡ value_at pair_cmp old (s, d) = subst (λ o. IsPairSet o (lookup (is_at (nat_cmp d)) (map named ds)) (value_at pair_cmp old (s, d)) (value_at pair_cmp before (s, d))) none_before (sets s d) in
    let set_s : IsSet (lookup (is_at (pair_cmp (s, d))) (map (beside s) ds)) c.1 (value_at pair_cmp before (s, d)) (value_at pair_cmp after (s, d)) = subst (λ q. IsSet (lookup (is_at (pair_cmp (s, d))) (map (beside q) ds)) c.1 (value_at pair_cmp before (s, d)) (value_at pair_cmp after (s, d))) (sym is) (row (s, d)) in
    let set : IsSet (lookup (is_at (nat_cmp d)) (map named ds)) c.1 (value_at pair_cmp before (s, d)) (value_at pair_cmp after (s, d)) = subst (λ o. IsSet o c.1 (value_at pair_cmp before (s, d)) (value_at pair_cmp after (s, d))) (lookup-beside s d ds) set_s in
    let there : IsPairSet (Some c.1) (lookup (is_at (nat_cmp d)) (map named ds)) (value_at pair_cmp old (s, d)) (value_at pair_cmp after (s, d)) = subst (λ x. IsSet (lookup (is_at (nat_cmp d)) (map named ds)) c.1 x (value_at pair_cmp after (s, d))) untouched set in
    subst (λ o. IsPairSet o (lookup (is_at (nat_cmp d)) (map named ds)) (value_at pair_cmp old (s, d)) (value_at pair_cmp after (s, d))) (sym found) there
state_by old before after xs ds c s d Greater e absent sets row =
    let kept : lookup (is_at (nat_cmp s)) (xs ++ c ∷ []) ≡ lookup (is_at (nat_cmp s)) xs = lookup_kept (is_at (nat_cmp s)) xs c (ap is_eq e) in
    let same : value_at pair_cmp after (s, d) ≡ value_at pair_cmp before (s, d) = subst (λ o. IsSet o c.1 (value_at pair_cmp before (s, d)) (value_at pair_cmp after (s, d))) (lookup-beside_other s c.0 d ds (ap is_eq e)) (row (s, d)) in
    rw (kept, same) (sets s d)

pub state_set : (old before after : List ((ℕ × ℕ) × Fraction)) (es ds : List ExactEntry) (i : ℕ) (e : ExactEntry) → IsRising nat_cmp (map named es) → i < length es → e ≡ get_or es i e
    → SetsStates old before (map named (take i es)) (map named ds) → SetsAll pair_cmp e.coef before after (map (beside e.var) ds) → SetsStates old after (map named (take (i + 1) es)) (map named ds)
state_set old before after es ds i e rising h is sets row =
    let absent : lookup (is_at (nat_cmp e.var)) (map named (take i es)) ≡ None = rw (← take-map named i es) (unseen nat_cmp nat_order.total (map named es) i (named e) rising (entry_at named es i e h is)) in
    rw (entries_more named es i e h is) (λ s d. state_by old before after (map named (take i es)) ds (named e) s d (nat_cmp s e.var) refl absent sets row)

-- an entry by its pair is an entry
beside_at : (s : ℕ) (ds : List ExactEntry) (j : ℕ) (c : (ℕ × ℕ) × Fraction) → slice_get (map (beside s) ds) j ≡ Some c → (d : ExactEntry) × (slice_get (map named ds) j ≡ Some (named d)) × (d.coef ≡ c.1)
beside_at s [] j c h = absurd (cc)
beside_at s (d ∷ ds) zero c h = let same : beside s d ≡ c = cc in (d, refl, ap (λ (x : (ℕ × ℕ) × Fraction). x.1) same)
beside_at s (d ∷ ds) (suc j) c h = beside_at s ds j c h

-- the pairs of a state could not be set
pub table_failed : (es ds : List ExactEntry) (i : ℕ) (e : ExactEntry) (fault : NumErr) → i < length es → e ≡ get_or es i e → ListFails e.coef (map (beside e.var) ds) fault → TableFails (map named es) (map named ds) fault
table_failed es ds i e fault h is fails =
    let d = beside_at e.var ds fails.0 fails.1 fails.2 in
    record {
      i = i;
      j = fails.0;
      state = named e;
      discrete = named d.0;
      state_at = entry_at named es i e h is;
      discrete_at = d.1;
      fails = ap (λ x. checked (product x e.coef)) d.2 ∙ fails.3;
    }
