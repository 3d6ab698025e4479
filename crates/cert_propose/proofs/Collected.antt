-- Lists of elements that are all there.
use Rattle.cert_propose.proofs.Common
use Common.{[], ℕ, ℤ, ◌++◌, ◌+◌, ◌<◌, ◌∙◌, ◌∷◌, ◌≡◌, ap, arith, collected, get_or, IsSquare, length}
use Common.{length-map-range_with_len, List, map, map-range_with_len_more, None, Option}
use Common.{option_and_then, option_map, pos, range_with_len, refl, Some, subst, suc, sym, table}
use Common.{table_by, tabulate, vector_by, zero}

-- one more at the end
snoc : {X : Type 0} (os : List (Option X)) (o : Option X) (xs : List X) (x : X) → collected os ≡ Some xs → o ≡ Some x → collected (os ++ o ∷ []) ≡ Some (xs ++ x ∷ [])
snoc [] o xs x h e = let same : xs ≡ [] = cc in rw (e, same) refl
snoc (None ∷ os) o xs x h e = absurd (cc)
snoc {X = X} (Some y ∷ os) o xs x h e = by (λ ys is. snoc os o ys x is e) (collected os) refl h
  where
    by : ((ys : List X) → collected os ≡ Some ys → collected (os ++ o ∷ []) ≡ Some (ys ++ x ∷ [])) → (c : Option (List X)) → collected os ≡ c → option_map (λ ys. y ∷ ys) c ≡ Some xs
        → option_map (λ ys. y ∷ ys) (collected (os ++ o ∷ [])) ≡ Some (xs ++ x ∷ [])
    by more None is k = absurd (cc)
    by more (Some ys) is k =
        let same : xs ≡ y ∷ ys = cc in
        let rest = more ys is in
        rw (rest, same) refl

pub collected-more : {X : Type 0} (n : ℕ) (f : ℕ → Option X) (xs : List X) (x : X) → collected (tabulate n f) ≡ Some xs → f n ≡ Some x → collected (tabulate (n + 1) f) ≡ Some (xs ++ x ∷ [])
collected-more n f xs x h e = ap collected (map-range_with_len_more f 0 n n (omega arith)) ∙ snoc (tabulate n f) (f n) xs x h e

-- one that is missing
missing : {X : Type 0} (a n k : ℕ) (f : ℕ → Option X) → k < n → f (a + k) ≡ None → collected (map f (range_with_len a n)) ≡ None
missing a zero k f h e = absurd (omega arith)
missing a (suc n) zero f h e = let here : f a ≡ None = subst (λ (i : ℕ). f i ≡ None) (omega arith) e in rw here refl
missing {X = X} a (suc n) (suc k) f h e =
    let there : f (a + 1 + k) ≡ None = subst (λ (i : ℕ). f i ≡ None) (omega arith) e in
    by (f a) (missing (a + 1) n k f (omega arith) there)
  where
    by : (o : Option X) → collected (map f (range_with_len (a + 1) n)) ≡ None → collected (o ∷ map f (range_with_len (a + 1) n)) ≡ None
    by None rest = refl
    by (Some y) rest = rw rest refl

pub collected-stop : {X : Type 0} (n k : ℕ) (f : ℕ → Option X) → k < n → f k ≡ None → collected (tabulate n f) ≡ None
collected-stop n k f h e = missing 0 n k f h (subst (λ (i : ℕ). f i ≡ None) (omega arith) e)

-- as many as there were
length-of : {X : Type 0} (os : List (Option X)) (xs : List X) → collected os ≡ Some xs → length xs ≡ length os
length-of [] xs h = let same : xs ≡ [] = cc in rw same refl
length-of (None ∷ os) xs h = absurd (cc)
length-of {X = X} (Some y ∷ os) xs h = by (λ ys is. length-of os ys is) (collected os) refl h
  where
    by : ((ys : List X) → collected os ≡ Some ys → length ys ≡ length os) → (c : Option (List X)) → collected os ≡ c → option_map (λ ys. y ∷ ys) c ≡ Some xs → length xs ≡ suc (length os)
    by more None is k = absurd (cc)
    by more (Some ys) is k = let same : xs ≡ y ∷ ys = cc in rw same (ap suc (more ys is))

pub collected-length : {X : Type 0} (n : ℕ) (f : ℕ → Option X) (xs : List X) → collected (tabulate n f) ≡ Some xs → length xs ≡ n
collected-length n f xs h = length-of (tabulate n f) xs h ∙ length-map-range_with_len f 0 n

-- each of them
from : {X : Type 0} (a : ℕ) (f : ℕ → Option X) (xs : List X) (d : X) → ((k : ℕ) → k < length xs → f (a + k) ≡ Some (get_or xs k d)) → collected (map f (range_with_len a (length xs))) ≡ Some xs
from a f [] d h = refl
from a f (x ∷ xs) d h =
    let here : f a ≡ Some x = subst (λ (i : ℕ). f i ≡ Some x) (omega arith) (h 0 (omega arith)) in
    let rest = from (a + 1) f xs d (λ k l. subst (λ (i : ℕ). f i ≡ Some (get_or xs k d)) (omega arith) (h (suc k) (omega arith))) in
    rw (here, rest) refl

pub collected-is : {X : Type 0} (n : ℕ) (f : ℕ → Option X) (xs : List X) (d : X) → length xs ≡ n → ((k : ℕ) → k < n → f k ≡ Some (get_or xs k d)) → collected (tabulate n f) ≡ Some xs
collected-is n f xs d size h =
    let all = from 0 f xs d (λ k l. subst (λ (i : ℕ). f i ≡ Some (get_or xs k d)) (omega arith) (h k (omega arith))) in
    ap (λ (m : ℕ). collected (tabulate m f)) (sym size) ∙ all

-- a matrix by its entries
pub table-is : (n : ℕ) (f : ℕ → ℕ → Option ℤ) (rows : List (List ℤ)) → length rows ≡ n → IsSquare rows → ((i j : ℕ) → i < n → j < n → f i j ≡ Some (table rows i j)) → table_by n f ≡ Some rows
table-is n f rows size square h =
    collected-is n (λ i. vector_by n (f i)) rows [] size (λ i l.
    collected-is n (f i) (get_or rows i []) (pos 0) (square i (omega arith) ∙ size) (λ j l'. h i j l l'))

pub table-stop : (n i : ℕ) (f : ℕ → ℕ → Option ℤ) → i < n → vector_by n (f i) ≡ None → table_by n f ≡ None
table-stop n i f h e = collected-stop n i (λ i. vector_by n (f i)) h e

-- each place of the list
at : {X : Type 0} (a n k : ℕ) (f : ℕ → Option X) (xs : List X) (d : X) → collected (map f (range_with_len a n)) ≡ Some xs → k < n → f (a + k) ≡ Some (get_or xs k d)
at a zero k f xs d h l = absurd (omega arith)
at {X = X} a (suc n) k f xs d h l = by (f a) refl (collected (map f (range_with_len (a + 1) n))) refl h (λ ys j is l'. at (a + 1) n j f ys d is l') k l
  where
    by : (o : Option X) → f a ≡ o → (c : Option (List X)) → collected (map f (range_with_len (a + 1) n)) ≡ c → option_and_then (λ y. option_map (λ ys. y ∷ ys) c) o ≡ Some xs
        → ((ys : List X) (j : ℕ) → collected (map f (range_with_len (a + 1) n)) ≡ Some ys → j < n → f (a + 1 + j) ≡ Some (get_or ys j d))
        → (k : ℕ) → k < suc n → f (a + k) ≡ Some (get_or xs k d)
    by None e c is g more k l = absurd (cc)
    by (Some y) e None is g more k l = absurd (cc)
    by (Some y) e (Some ys) is g more zero l =
        let same : xs ≡ y ∷ ys = cc in
        rw same (subst (λ (i : ℕ). f i ≡ Some y) (omega arith) e)
    by (Some y) e (Some ys) is g more (suc j) l =
        let same : xs ≡ y ∷ ys = cc in
        rw same (subst (λ (i : ℕ). f i ≡ Some (get_or ys j d)) (omega arith) (more ys j is (omega arith)))

pub collected-at : {X : Type 0} (n k : ℕ) (f : ℕ → Option X) (xs : List X) (d : X) → collected (tabulate n f) ≡ Some xs → k < n → f k ≡ Some (get_or xs k d)
collected-at n k f xs d h l = subst (λ (i : ℕ). f i ≡ Some (get_or xs k d)) (omega arith) (at 0 n k f xs d h l)
