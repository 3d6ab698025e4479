-- One turn of a loop that makes a list.
use Rattle.mu_affine.proofs.Common
use Common.{[], ℕ, ◌++◌, ◌+◌, ◌<◌, ◌∙◌, ◌∷◌, ◌≡◌, ◌≤◌, ap, arith, get_or, length, List, map}
use Common.{map-append, placed, refl, sum_by, sum_by-cons, sym, take, take_all, take_more}

-- what is made of what is made
pub map_twice : {X Y Z : Type 0} (make : X → Y) (key : Y → Z) (xs : List X) → map key (map make xs) ≡ map (λ x. key (make x)) xs
map_twice make key [] = refl
map_twice make key (x ∷ xs) = ap (λ ks. key (make x) ∷ ks) (map_twice make key xs)

pub sum_by_map : {X Y : Type 0} (make : X → Y) (count : Y → ℕ) (xs : List X) → sum_by count (map make xs) ≡ sum_by (λ x. count (make x)) xs
sum_by_map make count [] = refl
sum_by_map make count (x ∷ xs) =
    omega (arith, sum_by-cons count (make x) (map make xs), sum_by-cons (λ x. count (make x)) x xs, sum_by_map make count xs)

pub placed_map : {X Y Z : Type 0} (see : X → Y) (forms : Y → ℕ) (make : ℕ → Y → Z) (place : ℕ) (xs : List X) →
    placed forms make place (map see xs) ≡ placed (λ x. forms (see x)) (λ k x. make k (see x)) place xs
placed_map see forms make place [] = refl
placed_map see forms make place (x ∷ xs) = ap (λ zs. make place (see x) ∷ zs) (placed_map see forms make (place + forms (see x)) xs)

-- each element makes one
pub map_more : {X Y : Type 0} (make : X → Y) (xs : List X) (i : ℕ) (d : X) → i < length xs → map make (take (i + 1) xs) ≡ map make (take i xs) ++ make (get_or xs i d) ∷ []
map_more make xs i d h = ap (map make) (take_more xs i d h) ∙ map-append make (take i xs) (get_or xs i d ∷ [])

-- a turn that adds what an element makes
pub map_turn : {X Y : Type 0} (make : X → Y) (xs : List X) (i : ℕ) (x : X) (before : List Y) (y : Y) → i < length xs → x ≡ get_or xs i x →
    before ≡ map make (take i xs) → y ≡ make x → before ++ y ∷ [] ≡ map make (take (i + 1) xs)
map_turn make xs i x before y h at so_far is =
    ap (λ zs. zs ++ y ∷ []) so_far ∙ ap (λ z. map make (take i xs) ++ z ∷ []) (is ∙ ap make at) ∙ sym (map_more make xs i x h)

pub map_end : {X Y : Type 0} (make : X → Y) (xs : List X) (i : ℕ) (all : List Y) → length xs ≤ i → all ≡ map make (take i xs) → all ≡ map make xs
map_end make xs i all h so_far = so_far ∙ ap (map make) (take_all i xs h)
