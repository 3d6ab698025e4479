-- The grammar of for loops, generic in the item kind: equations, clauses or statements.
-- Each relation relates a token list, the tokens after the parsed part, and the parsed tree.
-- d is the current nesting depth (brackets, loops, clauses); limit is the greatest allowed depth.
use Rattle.std.specs.Prelude.{ℕ, suc, ◌<◌, List, ◌∷◌}
use Rattle.mu_lexer.specs.declared.token.Word.TheVariants as words
use Rattle.mu_lexer.specs.declared.token.Mark.TheVariants as marks
use Rattle.mu_tree.specs.Expression.{Expression}
use Rattle.mu_tree.specs.ModelTree.{Range, range}
use Rattle.mu_grammar.specs.Grammar.{Symbol, name, word, mark, IsSum}

-- the loop variable and its range, after the word for
pub data IsRange (limit : ℕ) : ℕ → List Symbol → List Symbol → Range → Type 0 where
  in_range : {d at i j k : ℕ} {n : List ℕ} {ts mid rest : List Symbol} {from to : Expression} → IsSum limit d ts (mark marks.Colon j ∷ mid) from → IsSum limit d mid (word words.Loop k ∷ rest) to → IsRange limit d (name n at ∷ word words.In i ∷ ts) rest (range n at from to)

-- the tree constructors of one kind of items
pub record Kind (T Ts : Type 0) : Type 0 where
  pub each : Range → Ts → T
  pub none : Ts
  pub then : T → Ts → Ts

mutual
  -- an item: a loop, or an item that is not a loop
  pub data IsItem {T Ts : Type 0} (limit : ℕ) (kind : Kind T Ts) (IsBare : ℕ → List Symbol → List Symbol → T → Type 0) : ℕ → List Symbol → List Symbol → T → Type 0 where
    bare : {d : ℕ} {ts rest : List Symbol} {v : T} → IsBare d ts rest v → IsItem limit kind IsBare d ts rest v
    loop : {d h i j k : ℕ} {r : Range} {ts mid rest : List Symbol} {vs : Ts} → d < limit → IsRange limit (suc d) ts mid r → AreItems limit kind IsBare (suc d) mid (word words.End i ∷ word words.For j ∷ mark marks.Semicolon k ∷ rest) vs → IsItem limit kind IsBare d (word words.For h ∷ ts) rest (kind.each r vs)

  -- items in order
  pub data AreItems {T Ts : Type 0} (limit : ℕ) (kind : Kind T Ts) (IsBare : ℕ → List Symbol → List Symbol → T → Type 0) : ℕ → List Symbol → List Symbol → Ts → Type 0 where
    no_items : {d : ℕ} {ts : List Symbol} → AreItems limit kind IsBare d ts ts kind.none
    item_then : {d : ℕ} {v : T} {vs : Ts} {ts mid rest : List Symbol} → IsItem limit kind IsBare d ts mid v → AreItems limit kind IsBare d mid rest vs → AreItems limit kind IsBare d ts rest (kind.then v vs)
