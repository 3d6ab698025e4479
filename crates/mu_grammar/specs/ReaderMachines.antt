-- Deterministic state machines that parse tokens, generic in the tree type.
use Rattle.std.specs.Prelude.{ℕ, Bool, true, false, List, [], ◌∷◌, nat_lt}
use Rattle.mu_grammar.specs.Grammar.{Symbol}

-- The effect of a token: continue, continue one level deeper than this depth, finish with the tree,
-- or reject the token.
pub data Effect (S T : Type 0) : Type 0 where
  advances : S → Effect S T
  descends : ℕ → S → Effect S T
  finishes : T → Effect S T
  refuses : Effect S T

-- the configuration of a machine: running, finished with the tree, or failed
pub data Next (S T : Type 0) : Type 0 where
  go : S → Next S T
  done : T → Next S T
  syntax : Next S T
  deep : Next S T

-- the initial state and the transition function
pub record Machine (S T : Type 0) : Type 0 where
  pub start : S
  pub turn : S → Symbol → Effect S T

-- one level deeper, if the limit allows it
abbrev pub deeper : {S T : Type 0} → Bool → S → Next S T
deeper true s = go s
deeper false s = deep

-- the configuration after an effect, where at most limit levels are allowed
abbrev pub allow : {S T : Type 0} → ℕ → Effect S T → Next S T
allow limit (advances s) = go s
allow limit (descends d s) = deeper (nat_lt d limit) s
allow limit (finishes e) = done e
allow limit refuses = syntax

-- the configuration after one more token
abbrev pub step_on : {S T : Type 0} → Machine S T → ℕ → Next S T → Symbol → Next S T
step_on m limit (go s) x = allow limit (m.turn s x)
step_on m limit (done e) x = syntax
step_on m limit syntax x = syntax
step_on m limit deep x = deep

-- the configuration after these tokens
abbrev pub after : {S T : Type 0} → Machine S T → ℕ → Next S T → List Symbol → Next S T
after m limit s [] = s
after m limit s (x ∷ ts) = after m limit (step_on m limit s x) ts
