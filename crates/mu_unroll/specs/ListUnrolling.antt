-- Unrolling of lists of items, and of loops over them.
use Rattle.std.specs.Prelude.{◌≡◌, List, [], ◌∷◌, Ok, map, refl}
use Rattle.std.proofs.Common.{◌∙◌, ap}
use Rattle.std.proofs.Math.Path.{fun_ext}
use Rattle.std.specs.Prelude.{ℕ}
use Rattle.mu_tree.specs.ModelTree.{Range}
use Rattle.mu_tree.specs.Nests.{Each, NestTree, One, items_of}
use Rattle.mu_unroll.specs.declared.environment.LoopVar.{LoopVar}
use Rattle.mu_unroll.specs.declared.environment.NameDenotation.{NameDenotation}
use Rattle.mu_unroll.specs.ConstantValues.{bind_result}
use Rattle.mu_unroll.specs.Unrolling.{Progress, Step, inside, looped, unrolled_item, unrolled_items}
use Rattle.mu_unroll.specs.VariablePlaces.{meant_in}

-- the items of a list in order
abbrev pub in_order : {T X : Type 0} → (T → Step X) → List T → Step X
in_order one [] declared loops p = Ok p
in_order one (x ∷ xs) declared loops p =
    bind_result (one x declared loops p) (λ q. in_order one xs declared loops q)

-- the rounds of a loop
abbrev pub in_rounds : {T X : Type 0} → (T → Step X) → Range → List T → Step X
in_rounds one range body declared loops p =
    looped (meant_in loops declared) range
    (λ i q. in_order one body declared (inside loops range.var i) q) p

-- nothing, if the item is a loop
abbrev pub unless_loop : {L X : Type 0} → NestTree L → Step X → Step X
unless_loop (One l) step declared loops p = step declared loops p
unless_loop (Each range body) step declared loops p = Ok p

-- a list of items is unrolled in order
pub items_in_order : {T Tree L X : Type 0} (one : L → Step X) (tree : T → Tree)
    (item : Tree → NestTree L) (xs : List T) (declared : List ℕ → NameDenotation)
    (loops : List LoopVar) (p : Progress X)
    → unrolled_items one (items_of (map item (map tree xs))) declared loops p
    ≡ in_order (λ x. unrolled_item one (item (tree x))) xs declared loops p
items_in_order {T} {Tree} {L} {X} one tree item [] declared loops p = refl
items_in_order {T} {Tree} {L} {X} one tree item (x ∷ xs) declared loops p =
    ap (bind_result (unrolled_item one (item (tree x)) declared loops p))
    (fun_ext (λ q. items_in_order one tree item xs declared loops q))

-- a loop is unrolled in rounds
pub loop_in_rounds : {T Tree L X : Type 0} (one : L → Step X) (tree : T → Tree)
    (each : Range → List Tree → Tree) (item : Tree → NestTree L)
    (each_item : (r : Range) (ts : List Tree) → item (each r ts) ≡ Each r (items_of (map item ts)))
    (x : T) (r : Range) (body : List T) → tree x ≡ each r (map tree body)
    → (declared : List ℕ → NameDenotation) (loops : List LoopVar) (p : Progress X)
    → unrolled_item one (item (tree x)) declared loops p
    ≡ in_rounds (λ y. unrolled_item one (item (tree y))) r body declared loops p
loop_in_rounds {T} {Tree} {L} {X} one tree each item each_item x r body is declared loops p =
    ap (λ t. unrolled_item one t declared loops p) (ap item is ∙ each_item r (map tree body))
    ∙ ap (λ once. looped (meant_in loops declared) r once p)
    (fun_ext (λ i. fun_ext
    (λ q. items_in_order one tree item body declared (inside loops r.var i) q)))
