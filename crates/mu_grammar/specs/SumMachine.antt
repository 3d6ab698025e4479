-- The pushdown machine that parses an expression; its stack holds the enclosing expressions.
use Rattle.std.specs.Prelude.{ℕ, suc, Bool, true, false, List, [], ◌∷◌, ◌++◌, Option, Some, None}
use Rattle.mu_lexer.specs.declared.token.Word.TheVariants as words
use Rattle.mu_lexer.specs.declared.token.Mark.TheVariants as marks
use Rattle.mu_tree.specs.Expression.{Expression, Number, Variable, Now, Previous, Power, Reference, Whole, Element, Signed, Scaled}
use Rattle.mu_grammar.specs.Grammar.{Symbol, number, name, word, mark, place, sum_of, product_of, exponent_of, signed, scaled}

-- an incomplete sum: its complete terms, and the factors of its last term; an operand follows
pub record Part : Type 0 where
  pub terms : List Signed
  pub minus : Bool
  pub at : ℕ
  pub factors : List Scaled
  pub divide : Bool
  pub place : ℕ

-- the role of a reference
pub data Use : Type 0 where
  variable : Part → Use
  previous : Part → Use

-- an enclosing construct that is complete after this sum
pub data Frame : Type 0 where
  bracket : Part → Frame
  index : List ℕ → ℕ → Use → Frame

-- the position in a sum: the kind of token that may follow
pub data Position : Type 0 where
  at_sum : Position
  at_term : List Signed → Bool → ℕ → Position
  at_operand : Part → Position
  at_bracket : Part → Position
  at_name : Use → Position
  after_name : List ℕ → ℕ → Use → Position
  after_reference : Reference → Use → Position
  after_primary : Expression → Part → Position
  at_exponent : Expression → ℕ → Part → Position
  after_factor : Expression → Part → Position

-- The effect of a token: move on, open a bracket, end the sum before this token, or reject the
-- token.
pub data Move : Type 0 where
  moves : Position → List Frame → Move
  opens : Position → List Frame → Move
  ends : Expression → Move
  wrong : Move

-- the nesting depth inside this use of a reference, starting from depth d
abbrev pub behind : Use → ℕ → ℕ
behind (variable p) d = d
behind (previous p) d = suc d

-- the nesting depth inside a frame, starting from depth d
abbrev pub deeper : Frame → ℕ → ℕ
deeper (bracket p) d = suc d
deeper (index n at u) d = suc (behind u d)

-- the nesting depth inside these frames, starting from depth d
abbrev pub depth : ℕ → List Frame → ℕ
depth d [] = d
depth d (f ∷ fs) = deeper f (depth d fs)

-- the nesting depth at a position
abbrev pub depth_at : ℕ → Position → List Frame → ℕ
depth_at d (at_bracket p) fs = suc (depth d fs)
depth_at d (at_name u) fs = behind u (depth d fs)
depth_at d (after_name n at u) fs = behind u (depth d fs)
depth_at d (after_reference r u) fs = behind u (depth d fs)
depth_at d _ fs = depth d fs

-- the first part of a term, after the terms before it
abbrev pub first_part : List Signed → Bool → ℕ → ℕ → Part
first_part terms minus at place = record { terms = terms; minus = minus; at = at; factors = []; divide = false; place = place }

-- the part after an operand and an operator * or /
abbrev pub next_factor : Part → Expression → Bool → ℕ → Part
next_factor p f divide at = record { terms = p.terms; minus = p.minus; at = p.at; factors = p.factors ++ scaled p.divide p.place f ∷ []; divide = divide; place = at }

-- the last term, completed by this operand
abbrev pub last_term : Part → Expression → Signed
last_term p f = signed p.minus p.at (product_of (p.factors ++ scaled p.divide p.place f ∷ []))

-- all terms, including the last one
abbrev pub with_term : Part → Expression → List Signed
with_term p f = p.terms ++ last_term p f ∷ []

-- A sum is complete, and this token follows. If the stack is empty, the token is not part of the
-- sum.
abbrev pub after_sum : Expression → List Frame → Symbol → Move
after_sum e [] x = ends e
after_sum e (bracket p ∷ fs) (mark marks.CloseRound at) = moves (after_primary e p) fs
after_sum e (index n i u ∷ fs) (mark marks.CloseSquare at) = moves (after_reference (Element n e i) u) fs
after_sum e _ _ = wrong

-- a term is complete, and this token follows
abbrev pub follow_term : List Signed → List Frame → Symbol → Move
follow_term terms fs (mark marks.Plus at) = moves (at_term terms false at) fs
follow_term terms fs (mark marks.Minus at) = moves (at_term terms true at) fs
follow_term terms fs x = after_sum (sum_of terms) fs x

-- a factor is complete, and this token follows
abbrev pub follow_factor : Expression → Part → List Frame → Symbol → Move
follow_factor f p fs (mark marks.Times at) = moves (at_operand (next_factor p f false at)) fs
follow_factor f p fs (mark marks.Divide at) = moves (at_operand (next_factor p f true at)) fs
follow_factor f p fs x = follow_term (with_term p f) fs x

-- a primary is complete, and this token follows
abbrev pub follow_primary : Expression → Part → List Frame → Symbol → Move
follow_primary e p fs (mark marks.Caret at) = moves (at_exponent e at p) fs
follow_primary e p fs x = follow_factor e p fs x

-- a reference is complete, and this token follows
abbrev pub follow_reference : Reference → Use → List Frame → Symbol → Move
follow_reference r (variable p) fs x = follow_primary (Variable r) p fs x
follow_reference r (previous p) fs (mark marks.CloseRound at) = moves (after_primary (Previous r) p) fs
follow_reference r (previous p) fs _ = wrong

-- a name was read, and this token follows
abbrev pub follow_name : List ℕ → ℕ → Use → List Frame → Symbol → Move
follow_name n i u fs (mark marks.OpenSquare at) = opens at_sum (index n i u ∷ fs)
follow_name n i u fs x = follow_reference (Whole n i) u fs x

-- an operand begins with this token
abbrev pub operand : Part → List Frame → Symbol → Move
operand p fs (number digits at) = moves (after_primary (Number digits at) p) fs
operand p fs (name n at) = moves (after_name n at (variable p)) fs
operand p fs (word words.Time at) = moves (after_primary (Now at) p) fs
operand p fs (word words.Pre at) = opens (at_bracket p) fs
operand p fs (mark marks.OpenRound at) = opens at_sum (bracket p ∷ fs)
operand p fs _ = wrong

-- a sum begins with this token
abbrev pub begin_sum : List Frame → Symbol → Move
begin_sum fs (mark marks.Plus at) = moves (at_term [] false at) fs
begin_sum fs (mark marks.Minus at) = moves (at_term [] true at) fs
begin_sum fs x = operand (first_part [] false (place x) (place x)) fs x

-- the opening bracket of pre is required
abbrev pub begin_bracket : Part → List Frame → Symbol → Move
begin_bracket p fs (mark marks.OpenRound at) = moves (at_name (previous p)) fs
begin_bracket p fs _ = wrong

-- a reference begins with this token
abbrev pub begin_name : Use → List Frame → Symbol → Move
begin_name u fs (name n at) = moves (after_name n at u) fs
begin_name u fs _ = wrong

-- a power, if the exponent is valid
abbrev pub power : Option ℕ → Expression → ℕ → Part → List Frame → Move
power None e at p fs = wrong
power (Some exp) e at p fs = moves (after_factor (Power e exp at) p) fs

-- an exponent is required
abbrev pub follow_caret : Expression → ℕ → Part → List Frame → Symbol → Move
follow_caret e at p fs (number digits i) = power (exponent_of digits) e at p fs
follow_caret e at p fs _ = wrong

-- the transition for one token
abbrev pub step : Position → List Frame → Symbol → Move
step at_sum fs x = begin_sum fs x
step (at_term terms minus at) fs x = operand (first_part terms minus at (place x)) fs x
step (at_operand p) fs x = operand p fs x
step (at_bracket p) fs x = begin_bracket p fs x
step (at_name u) fs x = begin_name u fs x
step (after_name n at u) fs x = follow_name n at u fs x
step (after_reference r u) fs x = follow_reference r u fs x
step (after_primary e p) fs x = follow_primary e p fs x
step (at_exponent e at p) fs x = follow_caret e at p fs x
step (after_factor f p) fs x = follow_factor f p fs x
