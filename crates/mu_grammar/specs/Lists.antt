-- Repetition of grammar parts: lists, comma-separated lists, bracketed lists, optional strings.
-- s is the state before the parts and t the state after them; the second token list is the rest.
use Rattle.std.specs.Prelude.{ℕ, List, [], ◌∷◌}
use Rattle.mu_lexer.specs.declared.token.Mark.TheVariants as marks
use Rattle.mu_grammar.specs.Grammar.{Symbol, quoted, mark}

-- zero or more parts
pub data Runs {S : Type 0} (One : S → List Symbol → List Symbol → S → Type 0) : S → List Symbol → List Symbol → S → Type 0 where
  no_more : {s : S} {ts : List Symbol} → Runs One s ts ts s
  one_more : {s t u : S} {ts mid rest : List Symbol} → One s ts mid t → Runs One t mid rest u → Runs One s ts rest u

-- one or more parts, separated by commas
pub data Commas {S : Type 0} (One : S → List Symbol → List Symbol → S → Type 0) : S → List Symbol → List Symbol → S → Type 0 where
  last_one : {s t : S} {ts rest : List Symbol} → One s ts rest t → Commas One s ts rest t
  one_then : {s t u : S} {ts mid rest : List Symbol} {at : ℕ} → One s ts (mark marks.Comma at ∷ mid) t → Commas One t mid rest u → Commas One s ts rest u

-- round brackets around zero or more parts, separated by commas
pub data InRound {S : Type 0} (One : S → List Symbol → List Symbol → S → Type 0) : S → List Symbol → List Symbol → S → Type 0 where
  nothing_inside : {s : S} {i j : ℕ} {rest : List Symbol} → InRound One s (mark marks.OpenRound i ∷ mark marks.CloseRound j ∷ rest) rest s
  some_inside : {s t : S} {i j : ℕ} {ts rest : List Symbol} → Commas One s ts (mark marks.CloseRound j ∷ rest) t → InRound One s (mark marks.OpenRound i ∷ ts) rest t

-- zero or more parts, as a list of their trees
pub data Listed {T : Type 0} (One : List Symbol → List Symbol → T → Type 0) : List Symbol → List Symbol → List T → Type 0 where
  listed_end : {ts : List Symbol} → Listed One ts ts []
  listed_then : {ts mid rest : List Symbol} {v : T} {vs : List T} → One ts mid v → Listed One mid rest vs → Listed One ts rest (v ∷ vs)

-- an optional string
pub data MaybeString : List Symbol → List Symbol → Type 0 where
  no_string : {ts : List Symbol} → MaybeString ts ts
  a_string : {at : ℕ} {ts : List Symbol} → MaybeString (quoted at ∷ ts) ts
