-- Prefixes of parsable token lists and parse errors, for any grammar relation.
use Rattle.std.specs.Prelude.{◌≡◌, ◌≢◌, ℕ, ◌+◌, ◌<◌, List, ◌++◌, ◌⊎◌, length, take, Result, Ok, Err}
use Rattle.std.specs.List.{All}
use Rattle.mu_lexer.specs.declared.token.Kind.TheVariants as kinds
use Rattle.mu_lexer.specs.Spelling.{SpellsToken}
use Rattle.mu_grammar.specs.declared.parse_fault.ParseErr.{ParseErr}
use Rattle.mu_grammar.specs.declared.parse_fault.ParseErr.TheVariants as errors
use Rattle.mu_grammar.specs.Grammar.{Symbol, number, name}
use Rattle.mu_grammar.specs.ReaderMachines.{Machine, go, done, after}

-- a text exists that lexes as this token
abbrev pub IsToken : Symbol → Type 0
IsToken (number digits at) = SpellsToken kinds.Number digits
IsToken (name n at) = SpellsToken kinds.Ident n
IsToken _ = Unit {0}

-- the tokens are a prefix of tokens that parse as a tree nested at most limit levels deep
abbrev pub IsInputPrefix : {T : Type 0} → (ℕ → List Symbol → T → Type 0) → ℕ → List Symbol → Type 0
IsInputPrefix {T} Spells limit ts = (more : List Symbol) × All IsToken more × (e : T) × Spells limit (ts ++ more) e

-- t is the first token after which the input is not a prefix of any tree within the nesting limit
pub record StopsAt {T : Type 0} (Spells : ℕ → List Symbol → T → Type 0) (limit : ℕ) (ts : List Symbol) (t : ℕ) : Type 0 where
  pub within : t < length ts
  pub before : IsInputPrefix Spells limit (take t ts)
  pub there : IsInputPrefix Spells limit (take (t + 1) ts) → ⊥

-- the input stops at t, and is not a prefix of a tree under any other nesting limit
pub record StopsAtAnyDepth {T : Type 0} (Spells : ℕ → List Symbol → T → Type 0) (limit : ℕ) (ts : List Symbol) (t : ℕ) : Type 0 where
  pub stops : StopsAt Spells limit ts t
  pub deeper : (more : ℕ) → IsInputPrefix Spells more (take (t + 1) ts) → ⊥

-- the input stops at t, but is a prefix of a tree under a greater nesting limit
pub record StopsByDepth {T : Type 0} (Spells : ℕ → List Symbol → T → Type 0) (limit : ℕ) (ts : List Symbol) (t : ℕ) : Type 0 where
  pub stops : StopsAt Spells limit ts t
  pub deeper : (more : ℕ) × IsInputPrefix Spells more (take (t + 1) ts)

-- the tokens are a prefix of a tree, but do not parse themselves
pub record EndsEarly {T : Type 0} (Spells : ℕ → List Symbol → T → Type 0) (limit : ℕ) (ts : List Symbol) : Type 0 where
  pub front : IsInputPrefix Spells limit ts
  pub unfinished : (e : T) → Spells limit ts e → ⊥

-- the error describes why the tokens do not parse
abbrev pub IsFault : {T : Type 0} → (ℕ → List Symbol → T → Type 0) → ℕ → List Symbol → ParseErr → Type 0
IsFault Spells limit ts (errors.Syntax t) = StopsAtAnyDepth Spells limit ts t ⊎ ((t ≡ length ts) × EndsEarly Spells limit ts)
IsFault Spells limit ts (errors.Deep t) = StopsByDepth Spells limit ts t
IsFault Spells limit ts errors.Memory = Unit {0}

-- the result is this tree or an allocation failure
abbrev pub Gives : {C T : Type 0} → (C → T) → T → Result C ParseErr → Type 0
Gives view e (Ok found) = view found ≡ e
Gives view e (Err fault) = fault ≡ errors.Memory

-- A machine accepts exactly the token lists that parse as a tree. From each of its states some
-- tokens lead to a tree.
pub record Decides {S T : Type 0} (m : Machine S T) (Spells : ℕ → List Symbol → T → Type 0) : Type 0 where
  pub accepted : (limit : ℕ) (ts : List Symbol) (e : T) → after m limit (go m.start) ts ≡ done e → Spells limit ts e
  pub accepts : (limit : ℕ) (ts : List Symbol) (e : T) → Spells limit ts e → after m limit (go m.start) ts ≡ done e
  pub ends : (limit : ℕ) (s : S) → (more : List Symbol) × All IsToken more × (e : T) × (after m limit (go s) more ≡ done e)

-- a parse error other than an allocation failure
abbrev pub IsReason : {T : Type 0} → (ℕ → List Symbol → T → Type 0) → ℕ → List Symbol → ParseErr → Type 0
IsReason Spells limit ts fault = (fault ≢ errors.Memory) × IsFault Spells limit ts fault

-- any token list parses as a tree or has a parse error
abbrev pub ParseOrFail : {T : Type 0} → (ℕ → List Symbol → T → Type 0) → Type 0
ParseOrFail {T} Spells = (limit : ℕ) (ts : List Symbol) → ((e : T) × Spells limit ts e) ⊎ ((fault : ParseErr) × IsReason Spells limit ts fault)

-- a token list has at most one parse error, and none if it parses
pub record ParseFaultsAreUnique {T : Type 0} (Spells : ℕ → List Symbol → T → Type 0) : Type 0 where
  pub one_reason : (limit : ℕ) (ts : List Symbol) (fault other : ParseErr) → All IsToken ts → IsReason Spells limit ts fault → IsReason Spells limit ts other → fault ≡ other
  pub none_if_spelled : (limit : ℕ) (ts : List Symbol) (fault : ParseErr) (e : T) → All IsToken ts → IsReason Spells limit ts fault → Spells limit ts e → ⊥
