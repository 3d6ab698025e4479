-- Coefficients that are kept, since they are not 0.
use Rattle.mu_affine.proofs.Common
use Common.{[], ℕ, ℤ, ◌&&◌, ◌++◌, ◌+◌, ◌<◌, ◌^◌, ◌∙◌, ◌∷◌, ◌≡◌, ◌≤◌, and_from, ap, arith, Bool}
use Common.{Entry, entry_of, ExactEntry, ExactProduct, exceeds, false, filter, FitsSigned, get_or}
use Common.{if◌then◌else◌, ints, is_some_number, length, List, list_all, map, map-append, not, of_z}
use Common.{pos, Product, refl, rounded, rounded_entries, rounded_products, sym, take, take_all}
use Common.{take_more, to_z, to_z-of_z, true, unsigned_abs, w128, w64}
use Rattle.std.proofs.lemmas.List.Elements.{filter-append}
use Rattle.std.proofs.lemmas.List.Folds.{list_all_at, list_all_more}
use Rattle.mu_num.proofs.SizeTests.{passes-within}
use Rattle.mu_affine.specs.Rounded.{product_of}

-- what is made of the elements of a list, without those whose coefficient is 0
abbrev pub kept : {X Y : Type 0} → (X → Y) → (Y → ℤ) → List X → List Y
kept make coef xs = filter (λ y. is_some_number (coef y)) (map make xs)

-- one more element
pub kept_more : {X Y : Type 0} (make : X → Y) (coef : Y → ℤ) (xs : List X) (i : ℕ) (d : X) → i < length xs →
    kept make coef (take (i + 1) xs) ≡ kept make coef (take i xs) ++ (if is_some_number (coef (make (get_or xs i d))) then make (get_or xs i d) ∷ [] else [])
kept_more make coef xs i d h =
    ap (kept make coef) (take_more xs i d h)
    ∙ ap (filter (λ y. is_some_number (coef y))) (map-append make (take i xs) (get_or xs i d ∷ []))
    ∙ filter-append (λ y. is_some_number (coef y)) (map make (take i xs)) (make (get_or xs i d) ∷ [])

-- 0 passes no limit
zero_small : (z : ℤ) → is_some_number z ≡ false → not (exceeds 44 z) ≡ true
zero_small z e = let zero : z ≡ pos 0 = grind (arith, ints) in ap (λ y. not (exceeds 44 y)) zero

-- those that are kept are small where all are
pub kept_small : {X Y : Type 0} (make : X → Y) (coef : Y → ℤ) (xs : List X) →
    list_all (λ y. not (exceeds 44 (coef y))) (kept make coef xs) ≡ list_all (λ x. not (exceeds 44 (coef (make x)))) xs
kept_small make coef [] = refl
kept_small make coef (x ∷ xs) = by_case (is_some_number (coef (make x))) refl (kept_small make coef xs)
  where
    by_case : (b : Bool) → is_some_number (coef (make x)) ≡ b →
        list_all (λ y. not (exceeds 44 (coef y))) (kept make coef xs) ≡ list_all (λ x. not (exceeds 44 (coef (make x)))) xs →
        list_all (λ y. not (exceeds 44 (coef y))) (if b then make x ∷ kept make coef xs else kept make coef xs) ≡ (not (exceeds 44 (coef (make x))) && list_all (λ x. not (exceeds 44 (coef (make x)))) xs)
    by_case true e rest = ap (λ b. not (exceeds 44 (coef (make x))) && b) rest
    by_case false e rest = rest ∙ ap (λ b. b && list_all (λ x. not (exceeds 44 (coef (make x)))) xs) (sym (zero_small (coef (make x)) e))

-- a number that passes the limit is kept, so not all are small
pub kept_large : {X Y : Type 0} (make : X → Y) (coef : Y → ℤ) (xs : List X) (i : ℕ) (x : X) → i < length xs → x ≡ get_or xs i x → exceeds 44 (coef (make x)) ≡ true →
    list_all (λ y. not (exceeds 44 (coef y))) (kept make coef xs) ≡ false
kept_large make coef xs i x h at large =
    kept_small make coef xs
    ∙ list_all_at (λ x. not (exceeds 44 (coef (make x)))) xs i x h (ap (λ z. not (exceeds 44 (coef (make z)))) (sym at) ∙ ap not large)

-- a turn of a loop
pub kept_turn : {X Y : Type 0} (make : X → Y) (coef : Y → ℤ) (xs : List X) (i : ℕ) (x : X) (before after : List Y) → i < length xs → x ≡ get_or xs i x →
    before ≡ kept make coef (take i xs) → after ≡ before ++ (if is_some_number (coef (make x)) then make x ∷ [] else []) → after ≡ kept make coef (take (i + 1) xs)
kept_turn make coef xs i x before after h at so_far is =
    is ∙ ap (λ ys. ys ++ (if is_some_number (coef (make x)) then make x ∷ [] else [])) so_far
    ∙ ap (λ z. kept make coef (take i xs) ++ (if is_some_number (coef (make z)) then make z ∷ [] else [])) at
    ∙ sym (kept_more make coef xs i x h)

pub small_turn : {X Y : Type 0} (make : X → Y) (coef : Y → ℤ) (xs : List X) (i : ℕ) (x : X) → i < length xs → x ≡ get_or xs i x →
    list_all (λ x. not (exceeds 44 (coef (make x)))) (take i xs) ≡ true → exceeds 44 (coef (make x)) ≡ false → list_all (λ x. not (exceeds 44 (coef (make x)))) (take (i + 1) xs) ≡ true
small_turn make coef xs i x h at before small =
    list_all_more (λ x. not (exceeds 44 (coef (make x)))) xs i x h
    ∙ and_from (list_all (λ x. not (exceeds 44 (coef (make x)))) (take i xs)) (not (exceeds 44 (coef (make (get_or xs i x))))) before
    (ap (λ z. not (exceeds 44 (coef (make z)))) (sym at) ∙ ap not small)

-- the end of a loop
pub kept_end : {X Y : Type 0} (make : X → Y) (coef : Y → ℤ) (xs : List X) (i : ℕ) (all : List Y) → length xs ≤ i → all ≡ kept make coef (take i xs) →
    list_all (λ x. not (exceeds 44 (coef (make x)))) (take i xs) ≡ true → (all ≡ kept make coef xs) × (list_all (λ y. not (exceeds 44 (coef y))) all ≡ true)
kept_end make coef xs i all h so_far small =
    let whole = so_far ∙ ap (kept make coef) (take_all i xs h) in
    (whole, ap (list_all (λ y. not (exceeds 44 (coef y)))) whole ∙ kept_small make coef xs ∙ ap (list_all (λ x. not (exceeds 44 (coef (make x))))) (sym (take_all i xs h)) ∙ small)

-- the bits of a small number represent this number
pub cast_small : (z : ℤ) → exceeds 44 z ≡ false → to_z w64 (of_z w64 (to_z w128 (of_z w128 z))) ≡ z
cast_small z e =
    let small : unsigned_abs z ≤ 2 ^ 44 = passes-within 44 z e in
    let wide : FitsSigned w128 z = omega (arith, ints) in
    let narrow : FitsSigned w64 z = omega (arith, ints) in
    ap (λ y. to_z w64 (of_z w64 y)) (to_z-of_z w128 z wide) ∙ to_z-of_z w64 z narrow

-- so does a level
pub cast_level : (z : ℤ) → exceeds 43 z ≡ false → to_z w64 (of_z w64 (to_z w128 (of_z w128 z))) ≡ z
cast_level z e =
    let small : unsigned_abs z ≤ 2 ^ 43 = passes-within 43 z e in
    let wide : FitsSigned w128 z = omega (arith, ints) in
    let narrow : FitsSigned w64 z = omega (arith, ints) in
    ap (λ y. to_z w64 (of_z w64 y)) (to_z-of_z w128 z wide) ∙ to_z-of_z w64 z narrow

-- an entry of a small coefficient
pub entry_turn : (p : ℕ) (es : List ExactEntry) (i : ℕ) (x : ExactEntry) (before after : List Entry) (z : ℤ) → i < length es → x ≡ get_or es i x → before ≡ rounded_entries p (take i es) →
    z ≡ rounded p x.coef → after ≡ before ++ (if is_some_number z then record { var = x.var; coef = z } ∷ [] else []) → after ≡ rounded_entries p (take (i + 1) es)
entry_turn p es i x before after z h at so_far value is =
    kept_turn (entry_of p) (λ (e : Entry). e.coef) es i x before after h at so_far
    (is ∙ ap (λ z. before ++ (if is_some_number z then record { var = x.var; coef = z } ∷ [] else [])) value)

-- a product of a small coefficient
pub product_turn : (p : ℕ) (es : List ExactProduct) (i : ℕ) (x : ExactProduct) (before after : List Product) (z : ℤ) → i < length es → x ≡ get_or es i x → before ≡ rounded_products p (take i es) →
    z ≡ rounded p x.coef → after ≡ before ++ (if is_some_number z then record { state = x.state; discrete = x.discrete; coef = z } ∷ [] else []) → after ≡ rounded_products p (take (i + 1) es)
product_turn p es i x before after z h at so_far value is =
    kept_turn (product_of p) (λ (e : Product). e.coef) es i x before after h at so_far
    (is ∙ ap (λ z. before ++ (if is_some_number z then record { state = x.state; discrete = x.discrete; coef = z } ∷ [] else [])) value)
