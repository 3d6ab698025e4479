-- The faults of items inside loops, noted one item after the other.
use Rattle.mu_names.proofs.Common
use Common.{[], ℕ, ◌++◌, ◌+◌, ◌<◌, ◌∙◌, ◌∷◌, ◌≡◌, add-one, ap, arith, drop, drop-cons, flat_map}
use Common.{get_or, least_of, length, List, map, name_kind_in, NameErr, NameKind, Option, refl, sym}
use Common.{take}
use Rattle.std.proofs.Common.{◌-◌}
use Rattle.std.proofs.lemmas.Grind.{common_steps}
use Rattle.std.proofs.lemmas.List.Concat.{flat_map-cons}
use Rattle.mu_tree.specs.ModelTree.{Range}
use Rattle.mu_tree.specs.Nests.{NestTree, NestTrees, One, items_of}
use Rattle.mu_names.specs.Naming.{item_faults, items_faults, list_faults, range_faults, unless_loop}
use Rattle.mu_names.proofs.LeastLemmas.{noted_both, noted_first}

-- the faults from a place on
flat_from : {T : Type 0} (f : T → List NameErr) (xs : List T) (i : ℕ) (x : T)
    → i < length xs → x ≡ get_or xs i x
    → flat_map f (drop i xs) ≡ f x ++ flat_map f (drop (i + 1) xs)
flat_from {T} f xs i x h e =
    ap (flat_map f) from_place ∙ flat_map-cons f x (drop (i + 1) xs)
  where
    from_place : drop i xs ≡ x ∷ drop (i + 1) xs
    from_place = rw (add-one, drop-cons xs i x h, ← e) refl

-- the faults of an item are noted
item_noted : {T : Type 0} (f : T → List NameErr) (xs : List T) (i : ℕ) (x : T)
    (l0 l1 whole : Option NameErr) → i < length xs → x ≡ get_or xs i x → l1 ≡ least_of l0 (f x)
    → least_of l0 (flat_map f (drop i xs)) ≡ whole
    → least_of l1 (flat_map f (drop (i + 1) xs)) ≡ whole
item_noted {T} f xs i x l0 l1 whole h e noted before =
    noted_first l0 l1 (f x) (flat_map f (drop (i + 1) xs)) (flat_map f (drop i xs)) noted
    (flat_from f xs i x h e)
    ∙ before

-- the faults of an item that is no loop are noted
pub one_noted : {T Tree L : Type 0} (tree : T → Tree) (item : Tree → NestTree L)
    (f : List (List ℕ) → T → List NameErr) (xs : List T) (i : ℕ) (x y : T)
    (now first : List (List ℕ)) (l0 l1 whole : Option NameErr)
    → i < length xs → x ≡ get_or xs i x → (y ≡ x) × ((l : L) × (item (tree x) ≡ One l))
    → now ≡ first → l1 ≡ least_of l0 (unless_loop (item (tree y)) (f now y))
    → least_of l0 (flat_map (f first) (drop i xs)) ≡ whole
    → least_of l1 (flat_map (f first) (drop (i + 1) xs)) ≡ whole
one_noted {T} {Tree} {L} tree item f xs i x y now first l0 l1 whole h e view same noted before =
    item_noted (f first) xs i x l0 l1 whole h e
    (noted ∙ ap (λ z. least_of l0 (unless_loop (item (tree z)) (f now z))) view.0
    ∙ ap (λ n. least_of l0 (unless_loop n (f now x))) view.1.1
    ∙ ap (λ ls. least_of l0 (f ls x)) same)
    before

-- the faults of a loop are noted: those of its range, and then those of its body
pub loop_noted : {T : Type 0} (declared : List ℕ → NameKind)
    (f : List (List ℕ) → T → List NameErr) (xs body : List T) (i : ℕ) (x : T) (r : Range)
    (seen inner first : List (List ℕ)) (l0 l1 l2 whole : Option NameErr)
    → i < length xs → x ≡ get_or xs i x
    → f first x
    ≡ range_faults (name_kind_in first declared) r ++ flat_map (f (first ++ r.var ∷ [])) body
    → seen ≡ first → inner ≡ first ++ r.var ∷ []
    → l1 ≡ least_of l0 (range_faults (name_kind_in seen declared) r)
    → l2 ≡ least_of l1 (flat_map (f inner) body)
    → least_of l0 (flat_map (f first) (drop i xs)) ≡ whole
    → least_of l2 (flat_map (f first) (drop (i + 1) xs)) ≡ whole
loop_noted {T} declared f xs body i x r seen inner first l0 l1 l2 whole h e law same entered head
    rest before =
    item_noted (f first) xs i x l0 l2 whole h e
    (noted_both l0 l1 l2 (range_faults (name_kind_in first declared) r)
    (flat_map (f (first ++ r.var ∷ [])) body) (f first x)
    (head ∙ ap (λ ls. least_of l0 (range_faults (name_kind_in ls declared) r)) same)
    (rest ∙ ap (λ ls. least_of l1 (flat_map (f ls) body)) entered) law)
    before

-- the loop variables after a loop
pub left : (now inner outer gone : List (List ℕ)) (var : List ℕ) → inner ≡ now ++ var ∷ []
    → outer ≡ inner → gone ≡ take (length outer - 1) outer → gone ≡ now
left now inner outer gone var entered same leaves =
    leaves ∙ ap (λ xs. take (length xs - 1) xs) (same ∙ entered) ∙ take_before now var
  where
    take_before : (xs : List (List ℕ)) (x : List ℕ)
        → take (length (xs ++ x ∷ []) - 1) (xs ++ x ∷ []) ≡ xs
    take_before xs x = grind (arith, common_steps)

-- the faults of a list of items as those of their trees
pub named : {T Tree L : Type 0} (one : (List ℕ → NameKind) → List (List ℕ) → L → List NameErr)
    (tree : T → Tree) (item : Tree → NestTree L) (d e : List ℕ → NameKind)
    (ls ms : List (List ℕ)) (xs ys : List T) (trees : NestTrees L)
    → d ≡ e → ls ≡ ms → xs ≡ ys → trees ≡ items_of (map item (map tree ys))
    → flat_map (λ x. item_faults one d ls (item (tree x))) xs ≡ items_faults one e ms trees
named {T} {Tree} {L} one tree item d e ls ms xs ys trees p q r is =
    rw (p, q, r)
    (sym (list_faults one tree item e ms ys) ∙ ap (items_faults one e ms) (sym is))
