-- Causal orders and cycles of a dependency relation.
use Rattle.std.specs.Prelude.{ℕ, ◌≢◌, ◌<◌, List, [], ◌∷◌, ◌++◌, Contains, AllPairs}

-- v is an unlisted variable, and all that it needs is listed
pub record IsReady (variable : ℕ → Type 0) (needs : ℕ → ℕ → Type 0) (listed : List ℕ) (v : ℕ) : Type 0 where
  pub there : variable v
  pub unlisted : Contains listed v → ⊥
  pub ready : (w : ℕ) → needs v w → Contains listed w

-- v is the least-numbered ready variable
pub record IsNext (variable : ℕ → Type 0) (needs : ℕ → ℕ → Type 0) (listed : List ℕ) (v : ℕ) : Type 0 where
  pub is_ready : IsReady variable needs listed v
  pub least : (w : ℕ) → w < v → IsReady variable needs listed w → ⊥

-- each number is the next variable after those listed before it
abbrev pub Follow : (ℕ → Type 0) → (ℕ → ℕ → Type 0) → List ℕ → List ℕ → Type 0
Follow variable needs listed [] = Unit {0}
Follow variable needs listed (v ∷ vs) = IsNext variable needs listed v × Follow variable needs (listed ++ v ∷ []) vs

-- a causal order: all variables, each the least-numbered one that is ready after those before it
pub record IsOrder (variable : ℕ → Type 0) (needs : ℕ → ℕ → Type 0) (vars : List ℕ) : Type 0 where
  pub each : Follow variable needs [] vars
  pub all : (v : ℕ) → variable v → Contains vars v

-- each number needs the next one, and the last one needs `end`
abbrev pub Chain : (ℕ → ℕ → Type 0) → ℕ → List ℕ → ℕ → Type 0
Chain needs v [] end = needs v end
Chain needs v (w ∷ ws) end = needs v w × Chain needs w ws end

-- a cycle: each number needs the next one, the last needs the first, the first is the least, and
-- none is repeated
abbrev pub IsCycle : (ℕ → ℕ → Type 0) → List ℕ → Type 0
IsCycle needs [] = ⊥
IsCycle needs (v ∷ vs) = Chain needs v vs v × ((w : ℕ) → Contains vs w → v < w) × AllPairs (λ a b. a ≢ b) vs
