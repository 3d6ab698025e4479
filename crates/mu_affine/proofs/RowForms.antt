-- Coefficients under keys: what joining a list to a row leaves.
use Rattle.mu_affine.proofs.Common
use Common.{[], ℕ, ◌++◌, ◌+◌, ◌<◌, ◌∙◌, ◌∷◌, ◌≡◌, add-one, AllByRecursion, ap, AreReduced, arith}
use Common.{Bool, ChangesAt, checked, cond, difference, Equal, Err, false, Fraction, get_or}
use Common.{Greater, if◌then◌else◌, is_at, is_eq, IsReduced, IsRising, IsStrictlySortedBy, joined}
use Common.{JoinsAll, keys_of, length, Less, List, lookup, map, map-append, nat_cmp, None, none}
use Common.{NumErr, Ok, Ordering, ordering_reverse, ordering_then, pair_cmp, ranked, refl, Some}
use Common.{SomeFails, sorted_head, sorted_tail, subst, suc, sum, sym, take, take-map, true}
use Common.{unwrap_or, value_at, zero}
use Rattle.std.specs.List.{slice_get}
use Rattle.std.specs.Cmp.{IsTotalOrder, then_total, on_total}
use Rattle.std.proofs.Math.Seq.{take-suc}
use Rattle.std.proofs.lemmas.Cmp.{nat_cmp_total}
use Rattle.mu_affine.proofs.Fractions.{lowest-sum_zero, lowest-difference_zero, checked_same}
use Rattle.mu_affine.proofs.Fractions.{checked-reduced}

-- an order of keys in which only equal keys are level
pub record IsKeyOrder {K : Type 0} (R : K → K → Ordering) : Type 0 where
  pub total : IsTotalOrder R
  pub exact : (x y : K) → R x y ≡ Equal → x ≡ y

-- only Equal is its own reverse
level_itself : (r : Ordering) → r ≡ ordering_reverse r → r ≡ Equal
level_itself Less h = absurd (cc)
level_itself Equal h = refl
level_itself Greater h = absurd (cc)

-- a key is level with itself
pub level_self : {K : Type 0} (R : K → K → Ordering) → IsKeyOrder R → (x : K) → R x x ≡ Equal
level_self R o x = level_itself (R x x) (o.total.antisymm x x)

-- a look-up in one more entry, where the others have no such key
pub lookup_push : {K : Type 0} (t : K → Bool) (xs : List (K × Fraction)) (c : K × Fraction) → lookup t xs ≡ None → lookup t (xs ++ c ∷ []) ≡ cond (t c.0) (Some c.1) None
lookup_push t [] c h = refl
lookup_push t (x ∷ xs) c h =
    (elim (t x.0) as (λ b. cond b (Some x.1) (lookup t xs) ≡ None → cond b (Some x.1) (lookup t (xs ++ c ∷ [])) ≡ cond (t c.0) (Some c.1) None) [
      | true ↦ λ e. absurd (cc)
      | false ↦ λ e. lookup_push t xs c e
    ]) h

-- and where the entry has another key
pub lookup_kept : {K : Type 0} (t : K → Bool) (xs : List (K × Fraction)) (c : K × Fraction) → t c.0 ≡ false → lookup t (xs ++ c ∷ []) ≡ lookup t xs
lookup_kept t [] c h = rw h refl
lookup_kept t (x ∷ xs) c h = ap (λ r. cond (t x.0) (Some x.1) r) (lookup_kept t xs c h)

-- what holds of all keys holds of that of an entry
pub key_at : {K : Type 0} (P : K → Type 0) (xs : List (K × Fraction)) (i : ℕ) (c : K × Fraction) → AllByRecursion P (keys_of xs) → slice_get xs i ≡ Some c → P c.0
key_at P [] i c h e = absurd (cc)
key_at P (x ∷ xs) zero c h e = let same : x ≡ c = cc in subst (λ y. P y.0) same h.0
key_at P (x ∷ xs) (suc i) c h e = key_at P xs i c h.1 e

-- the key of an entry is not among those before it
pub unseen : {K : Type 0} (R : K → K → Ordering) → IsTotalOrder R → (xs : List (K × Fraction)) (i : ℕ) (c : K × Fraction) → IsStrictlySortedBy R (keys_of xs) → slice_get xs i ≡ Some c → lookup (is_at (R c.0)) (take i xs) ≡ None
unseen R o [] i c s e = absurd (cc)
unseen R o (x ∷ xs) zero c s e = refl
unseen R o (x ∷ xs) (suc i) c s e =
    let less : R x.0 c.0 ≡ Less = key_at (λ y. R x.0 y ≡ Less) xs i c (sorted_head R x.0 (keys_of xs) s) e in
    let more : R c.0 x.0 ≡ Greater = o.antisymm c.0 x.0 ∙ ap ordering_reverse less in
    rw more (unseen R o xs i c (sorted_tail R x.0 (keys_of xs) s) e)

-- joining 0 to lowest terms
pub joined-zero : (minus : Bool) (a : Fraction) → IsReduced a → checked (joined minus a none) ≡ Ok a
joined-zero false a h = checked_same (sum a none) a (lowest-sum_zero a none refl (omega arith) h.positive) ∙ checked-reduced a h
joined-zero true a h = checked_same (difference a none) a (lowest-difference_zero a none refl (omega arith) h.positive) ∙ checked-reduced a h

-- where nothing is joined, nothing changes
pub JoinsAll-none : {K : Type 0} (R : K → K → Ordering) (minus : Bool) (old : List (K × Fraction)) → ((k : K) → IsReduced (value_at R old k)) → JoinsAll R minus old old []
JoinsAll-none R minus old reduced k = joined-zero minus (value_at R old k) (reduced k)

-- what a key that is not among the joined ones has
pub unjoined : {K : Type 0} (R : K → K → Ordering) (minus : Bool) (old new cs : List (K × Fraction)) (k : K) → IsReduced (value_at R old k) → JoinsAll R minus old new cs → lookup (is_at (R k)) cs ≡ None → value_at R new k ≡ value_at R old k
unjoined R minus old new cs k reduced h absent =
    let e : checked (joined minus (value_at R old k) none) ≡ Ok (value_at R new k) = rw absent at (h k) in
    let f = joined-zero minus (value_at R old k) reduced in
    cc

-- one more entry was joined, at its own key
joined_here : {K : Type 0} (R : K → K → Ordering) (minus : Bool) (old before after xs : List (K × Fraction)) (c : K × Fraction) (total : Fraction) → IsKeyOrder R
    → ((k : K) → IsReduced (value_at R old k)) → lookup (is_at (R c.0)) xs ≡ None → JoinsAll R minus old before xs
    → checked (joined minus (value_at R before c.0) c.1) ≡ Ok total → ChangesAt R before after c.0 total
    → checked (joined minus (value_at R old c.0) (value_at R (xs ++ c ∷ []) c.0)) ≡ Ok (value_at R after c.0)
joined_here R minus old before after xs c total o reduced absent h ok change =
    let level : R c.0 c.0 ≡ Equal = level_self R o c.0 in
    let same : value_at R before c.0 ≡ value_at R old c.0 = unjoined R minus old before xs c.0 (reduced c.0) h absent in
    let found : lookup (is_at (R c.0)) (xs ++ c ∷ []) ≡ Some c.1 = lookup_push (is_at (R c.0)) xs c absent ∙ ap (λ r. cond (is_eq r) (Some c.1) None) level in
    let value : value_at R after c.0 ≡ total = change c.0 ∙ ap (λ r. if is_eq r then total else value_at R before c.0) level in
    rw (value, found, ← same) ok

-- and at another key
joined_there : {K : Type 0} (R : K → K → Ordering) (minus : Bool) (old before after xs : List (K × Fraction)) (c : K × Fraction) (total : Fraction) (k : K) → IsKeyOrder R
    → is_eq (R c.0 k) ≡ false → JoinsAll R minus old before xs → ChangesAt R before after c.0 total
    → checked (joined minus (value_at R old k) (value_at R (xs ++ c ∷ []) k)) ≡ Ok (value_at R after k)
joined_there R minus old before after xs c total k o apart h change =
    let flipped : is_eq (R k c.0) ≡ false = ap is_eq (o.total.antisymm k c.0) ∙ reversed (R c.0 k) apart in
    let kept : lookup (is_at (R k)) (xs ++ c ∷ []) ≡ lookup (is_at (R k)) xs = lookup_kept (is_at (R k)) xs c flipped in
    let value : value_at R after k ≡ value_at R before k = change k ∙ ap (λ b. if b then total else value_at R before k) apart in
    rw (value, kept) (h k)
  where
    reversed : (r : Ordering) → is_eq r ≡ false → is_eq (ordering_reverse r) ≡ false
    reversed Less e = refl
    reversed Equal e = e
    reversed Greater e = refl

-- one more entry was joined
pub JoinsAll-more : {K : Type 0} (R : K → K → Ordering) (minus : Bool) (old before after xs : List (K × Fraction)) (c : K × Fraction) (total : Fraction) → IsKeyOrder R
    → ((k : K) → IsReduced (value_at R old k)) → lookup (is_at (R c.0)) xs ≡ None → JoinsAll R minus old before xs
    → checked (joined minus (value_at R before c.0) c.1) ≡ Ok total → ChangesAt R before after c.0 total
    → JoinsAll R minus old after (xs ++ c ∷ [])
JoinsAll-more {K} R minus old before after xs c total o reduced absent h ok change k =
    by_test (R c.0 k) refl
  where
    by_test : (r : Ordering) → R c.0 k ≡ r → checked (joined minus (value_at R old k) (value_at R (xs ++ c ∷ []) k)) ≡ Ok (value_at R after k)
    by_test Less e = joined_there R minus old before after xs c total k o (ap is_eq e) h change
    by_test Equal e =
        let P : K → Type 0 = λ q. checked (joined minus (value_at R old q) (value_at R (xs ++ c ∷ []) q)) ≡ Ok (value_at R after q) in
        subst P (o.exact c.0 k e) (joined_here R minus old before after xs c total o reduced absent h ok change)
    by_test Greater e = joined_there R minus old before after xs c total k o (ap is_eq e) h change

-- numbers are in such an order
pub nat_order : IsKeyOrder nat_cmp
nat_order = record { total = nat_cmp_total; exact = λ x y h. ranked x y Equal (sym h) }

-- two answers that are level together are level
then_level : (r s : Ordering) → ordering_then r s ≡ Equal → (r ≡ Equal) × (s ≡ Equal)
then_level Less s h = absurd (cc)
then_level Equal s h = (refl, h)
then_level Greater s h = absurd (cc)

pair_level : (a b : ℕ × ℕ) → pair_cmp a b ≡ Equal → a ≡ b
pair_level a b h =
    let parts = then_level (nat_cmp a.0 b.0) (nat_cmp a.1 b.1) h in
    let first : a.0 ≡ b.0 = ranked a.0 b.0 Equal (sym parts.0) in
    let second : a.1 ≡ b.1 = ranked a.1 b.1 Equal (sym parts.1) in
    λ i. (first i, second i)

-- and so are pairs of them
pub pair_order : IsKeyOrder pair_cmp
pair_order = record {
  total = then_total (on_total (λ (p : ℕ × ℕ). p.0) nat_cmp_total) (on_total (λ (p : ℕ × ℕ). p.1) nat_cmp_total);
  exact = pair_level;
}

-- an entry in order is found under its key
pub found : {K : Type 0} (R : K → K → Ordering) → IsKeyOrder R → (xs : List (K × Fraction)) (i : ℕ) (c : K × Fraction) → IsStrictlySortedBy R (keys_of xs) → slice_get xs i ≡ Some c → lookup (is_at (R c.0)) xs ≡ Some c.1
found R o [] i c s e = absurd (cc)
found R o (x ∷ xs) zero c s e =
    let same : x ≡ c = cc in
    subst (λ y. lookup (is_at (R y.0)) (x ∷ xs) ≡ Some y.1) same (ap (λ r. cond (is_eq r) (Some x.1) (lookup (is_at (R x.0)) xs)) (level_self R o x.0))
found R o (x ∷ xs) (suc i) c s e =
    let less : R x.0 c.0 ≡ Less = key_at (λ y. R x.0 y ≡ Less) xs i c (sorted_head R x.0 (keys_of xs) s) e in
    let more : R c.0 x.0 ≡ Greater = o.total.antisymm c.0 x.0 ∙ ap ordering_reverse less in
    rw more (found R o xs i c (sorted_tail R x.0 (keys_of xs) s) e)

-- the first entries of a list and one more
pub entries_more : {E K : Type 0} (f : E → K × Fraction) (es : List E) (i : ℕ) (e : E) → i < length es → e ≡ get_or es i e → map f (take (i + 1) es) ≡ map f (take i es) ++ f e ∷ []
entries_more f es i e h is = rw (add-one, take-suc es i e h, ← is) (map-append f (take i es) (e ∷ []))

-- an entry of a list by its place
pub entry_at : {E K : Type 0} (f : E → K × Fraction) (es : List E) (i : ℕ) (e : E) → i < length es → e ≡ get_or es i e → slice_get (map f es) i ≡ Some (f e)
entry_at f [] i e h is = absurd (omega arith)
entry_at f (x ∷ xs) zero e h is = ap (λ y. Some (f y)) (sym is)
entry_at f (x ∷ xs) (suc i) e h is = entry_at f xs i e (omega arith) is

-- one more entry of a list was joined
pub entry_joined : {E K : Type 0} (R : K → K → Ordering) (f : E → K × Fraction) (minus : Bool) (old before after : List (K × Fraction)) (es : List E) (i : ℕ) (e : E) (total : Fraction) → IsKeyOrder R
    → IsRising R (map f es) → AreReduced R old → i < length es → e ≡ get_or es i e → JoinsAll R minus old before (map f (take i es))
    → checked (joined minus (value_at R before (f e).0) (f e).1) ≡ Ok total → ChangesAt R before after (f e).0 total
    → JoinsAll R minus old after (map f (take (i + 1) es))
entry_joined R f minus old before after es i e total o rising reduced h is joins ok change =
    let absent : lookup (is_at (R (f e).0)) (map f (take i es)) ≡ None = rw (← take-map f i es) (unseen R o.total (map f es) i (f e) rising (entry_at f es i e h is)) in
    rw (entries_more f es i e h is) (JoinsAll-more R minus old before after (map f (take i es)) (f e) total o reduced absent joins ok change)

-- an entry of a list could not be joined
pub entry_failed : {E K : Type 0} (R : K → K → Ordering) (f : E → K × Fraction) (minus : Bool) (old before : List (K × Fraction)) (es : List E) (i : ℕ) (e : E) (fault : NumErr) → IsKeyOrder R
    → IsRising R (map f es) → AreReduced R old → i < length es → e ≡ get_or es i e → JoinsAll R minus old before (map f (take i es))
    → checked (joined minus (value_at R before (f e).0) (f e).1) ≡ Err fault → SomeFails R minus old (map f es) fault
entry_failed R f minus old before es i e fault o rising reduced h is joins err =
    let there = entry_at f es i e h is in
    let absent : lookup (is_at (R (f e).0)) (map f (take i es)) ≡ None = rw (← take-map f i es) (unseen R o.total (map f es) i (f e) rising there) in
    let same : value_at R before (f e).0 ≡ value_at R old (f e).0 = unjoined R minus old before (map f (take i es)) (f e).0 (reduced (f e).0) joins absent in
    let here : value_at R (map f es) (f e).0 ≡ (f e).1 = ap (λ r. unwrap_or r none) (found R o (map f es) i (f e) rising there) in
    (i, (f e), there, rw (here, ← same) err)
