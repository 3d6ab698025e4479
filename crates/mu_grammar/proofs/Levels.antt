-- How many levels are open, as a sum of lengths.
use Rattle.mu_grammar.proofs.Common
use Common.{[], ℕ, ◌+◌, ◌∙◌, ◌∷◌, ◌≡◌, after_factor, after_name, after_primary, after_reference, ap}
use Common.{arith, at_bracket, at_exponent, at_name, at_operand, at_sum, at_term, bracket, depth}
use Common.{depth_at, Frame, index, inside, length, level, List, map, nested, Position, previous}
use Common.{refl, suc, sym, Use, zero}
use Rattle.std.proofs.Common.{reverse}
use Rattle.std.proofs.lemmas.List.{length-reverse}
use Rattle.mu_grammar.specs.SumMachine.{variable, behind, deeper}

behind-add : (u : Use) (d e : ℕ) → behind u (d + e) ≡ d + behind u e
behind-add (variable p) d e = refl
behind-add (previous p) d e = omega arith

deeper-add : (f : Frame) (d e : ℕ) → deeper f (d + e) ≡ d + deeper f e
deeper-add (bracket p) d e = omega arith
deeper-add (index n at u) d e = ap suc (behind-add u d e) ∙ omega arith

depth-add : (d : ℕ) (fs : List Frame) → depth d fs ≡ d + depth 0 fs
depth-add d [] = omega arith
depth-add d (f ∷ fs) = ap (deeper f) (depth-add d fs) ∙ deeper-add f d (depth 0 fs)

-- the levels that are open outside count in full
pub depth_at_add : (d : ℕ) (p : Position) (fs : List Frame) → depth_at d p fs ≡ d + depth_at 0 p fs
depth_at_add d at_sum fs = depth-add d fs
depth_at_add d (at_term terms minus at) fs = depth-add d fs
depth_at_add d (at_operand p) fs = depth-add d fs
depth_at_add d (at_bracket p) fs = ap suc (depth-add d fs) ∙ omega arith
depth_at_add d (at_name u) fs = ap (behind u) (depth-add d fs) ∙ behind-add u d (depth 0 fs)
depth_at_add d (after_name n at u) fs = ap (behind u) (depth-add d fs) ∙ behind-add u d (depth 0 fs)
depth_at_add d (after_reference r u) fs = ap (behind u) (depth-add d fs) ∙ behind-add u d (depth 0 fs)
depth_at_add d (after_primary e p) fs = depth-add d fs
depth_at_add d (at_exponent e at p) fs = depth-add d fs
depth_at_add d (after_factor f p) fs = depth-add d fs

-- brackets are counted by their places
inside_length : (d : ℕ) (places : List ℕ) → inside d places ≡ d + length places
inside_length d [] = omega arith
inside_length d (i ∷ places) = ap suc (inside_length d places) ∙ omega arith

nested_add : (d k : ℕ) → nested d k ≡ d + k
nested_add d zero = omega arith
nested_add d (suc k) = ap suc (nested_add d k) ∙ omega arith

-- each entry of a stack is a level
level_length : {A : Type 0} (d : ℕ) (xs : List A) → level d xs ≡ d + length xs
level_length d [] = omega arith
level_length d (x ∷ xs) = ap suc (level_length d xs) ∙ omega arith

-- the levels before a condition
pub levels_before : (d : ℕ) (places : List ℕ) (k : ℕ) → k ≡ length places → d + k ≡ inside d (reverse places)
levels_before d places k are = let e = length-reverse places in let f = inside_length d (reverse places) in omega arith

-- the levels in a left sum
pub levels_left : (d : ℕ) (places : List ℕ) (p : Position) (fs : List Frame) (k n : ℕ) → k ≡ length places → n ≡ depth_at 0 p fs → d + k + n ≡ depth_at (inside d (reverse places)) p fs
levels_left d places p fs k n are is = let e = levels_before d places k are in let f = depth_at_add (inside d (reverse places)) p fs in omega arith

-- the levels in a right sum
pub levels_right : (d k : ℕ) (p : Position) (fs : List Frame) (n : ℕ) → n ≡ depth_at 0 p fs → d + k + n ≡ depth_at (nested d k) p fs
levels_right d k p fs n is = let e = nested_add d k in let f = depth_at_add (nested d k) p fs in omega arith

-- the levels after a condition
pub levels_behind : (d k : ℕ) → d + k ≡ nested d k
levels_behind d k = sym (nested_add d k)

length_map : {A B : Type 0} (f : A → B) (xs : List A) → length (map f xs) ≡ length xs
length_map f [] = refl
length_map f (x ∷ xs) = ap suc (length_map f xs)

-- the levels of a stack of loops
pub levels_stacked : {A B : Type 0} (d : ℕ) (f : A → B) (xs : List A) → level d (map f (reverse xs)) ≡ d + length xs
levels_stacked d f xs = let e = level_length d (map f (reverse xs)) in let g = length_map f (reverse xs) in let h = length-reverse xs in omega arith

-- the levels of a stack
pub levels_reversed : {A : Type 0} (d : ℕ) (xs : List A) → level d (reverse xs) ≡ d + length xs
levels_reversed d xs = let e = level_length d (reverse xs) in let h = length-reverse xs in omega arith
