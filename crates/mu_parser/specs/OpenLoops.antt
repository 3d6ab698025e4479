-- The open loops, innermost first, after an item is added, and after the innermost loop ends.
use Rattle.std.specs.Prelude.{List, [], ◌∷◌, ◌++◌, Option, None, Some}
use Rattle.mu_tree.specs.ModelTree.{Range}
use Rattle.mu_grammar.specs.States.{Loop}
use Rattle.mu_grammar.specs.BodyMachine.{with_item}

-- the items outside all loops and the open loops, after an item is added
abbrev pub put : {A : Type 0} → List A → List (Loop A) → A → List A × List (Loop A)
put items [] v = (items ++ v ∷ [], [])
put items (l ∷ ls) v = (items, with_item l v ∷ ls)

-- the loops around the innermost one, and the innermost one as an item
abbrev pub closed : {A : Type 0} → (Range → List A → A) → List (Loop A) → List (Loop A) × Option A
closed each [] = ([], None)
closed each (l ∷ ls) = (ls, Some (each l.range l.items))
