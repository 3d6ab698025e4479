-- The state machine that parses a condition.
use Rattle.std.specs.Prelude.{ℕ, zero, suc, false, List, [], ◌∷◌, length, Option, Some, None}
use Rattle.mu_lexer.specs.declared.token.Word.TheVariants as words
use Rattle.mu_lexer.specs.declared.token.Mark.TheVariants as marks
use Rattle.mu_tree.specs.declared.tree.Rel.{Rel}
use Rattle.mu_tree.specs.Expression.{Expression}
use Rattle.mu_tree.specs.ModelTree.{Condition}
use Rattle.mu_grammar.specs.Grammar.{Symbol, word, mark}
use Rattle.mu_grammar.specs.SumMachine.{Frame, Position, at_sum, after_primary, Move, moves, opens, wrong, first_part, begin_sum, step, depth_at}
use Rattle.mu_grammar.specs.SumMachine as machine
use Rattle.mu_grammar.specs.Conditions.{relation_of, compared}

-- The position in a condition. Before it and in its left expression: the offsets of the open
-- brackets. In its right expression and after it: their number.
pub data Stage : Type 0 where
  before : List ℕ → Stage
  in_left : List ℕ → Position → List Frame → Stage
  in_right : Expression → Rel → ℕ → ℕ → Position → List Frame → Stage
  behind : Condition → ℕ → Stage

-- the effect of a token in a condition
pub data Turn : Type 0 where
  goes : Stage → Turn
  nests : Stage → Turn
  holds : Condition → Turn
  fails : Turn

-- the condition is complete inside this many brackets, and this token follows
abbrev pub complete : Condition → ℕ → Symbol → Turn
complete c (suc k) (mark marks.CloseRound at) = goes (behind c k)
complete c zero (word words.Then at) = holds c
complete c _ _ = fails

-- the relation after the left expression, if the mark is one
abbrev pub compares : Option Rel → Expression → List ℕ → ℕ → Turn
compares None e places at = fails
compares (Some rel) e places at = goes (in_right e rel at (length places) at_sum [])

-- The left expression, or a bracketed expression at its start, is complete, and this token follows.
abbrev pub after_left : Expression → List ℕ → Symbol → Turn
after_left e (i ∷ places) (mark marks.CloseRound at) = goes (in_left places (after_primary e (first_part [] false i i)) [])
after_left e places (mark m at) = compares (relation_of m) e places at
after_left e places _ = fails

-- the effect of a move in the left expression
abbrev pub left_move : List ℕ → Move → Symbol → Turn
left_move places (moves p fs) x = goes (in_left places p fs)
left_move places (opens p fs) x = nests (in_left places p fs)
left_move places (machine.ends e) x = after_left e places x
left_move places wrong x = fails

-- the effect of a move in the right expression
abbrev pub right_move : Expression → Rel → ℕ → ℕ → Move → Symbol → Turn
right_move left rel at k (moves p fs) x = goes (in_right left rel at k p fs)
right_move left rel at k (opens p fs) x = nests (in_right left rel at k p fs)
right_move left rel at k (machine.ends e) x = complete (compared left rel e at) k x
right_move left rel at k wrong x = fails

-- a condition begins with this token
abbrev pub begin_condition : List ℕ → Symbol → Turn
begin_condition places (mark marks.OpenRound at) = nests (before (at ∷ places))
begin_condition places x = left_move places (begin_sum [] x) x

-- the transition for one token
abbrev pub turn : Stage → Symbol → Turn
turn (before places) x = begin_condition places x
turn (in_left places p fs) x = left_move places (step p fs x) x
turn (in_right left rel at k p fs) x = right_move left rel at k (step p fs x) x
turn (behind c k) x = complete c k x

-- the nesting depth inside these brackets, starting from depth d
abbrev pub inside : ℕ → List ℕ → ℕ
inside d [] = d
inside d (i ∷ places) = suc (inside d places)

-- the nesting depth inside k brackets, starting from depth d
abbrev pub nested : ℕ → ℕ → ℕ
nested d zero = d
nested d (suc k) = suc (nested d k)

-- the nesting depth at a stage, starting from depth d
abbrev pub depth_of : ℕ → Stage → ℕ
depth_of d (before places) = inside d places
depth_of d (in_left places p fs) = depth_at (inside d places) p fs
depth_of d (in_right left rel at k p fs) = depth_at (nested d k) p fs
depth_of d (behind c k) = nested d k
