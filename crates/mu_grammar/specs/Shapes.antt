-- Token classes: fixed words and marks, and brackets.
use Rattle.std.specs.Prelude.{ℕ, Bool, true, false}
use Rattle.mu_lexer.specs.declared.token.Word.TheVariants as words
use Rattle.mu_lexer.specs.declared.token.Mark.{Mark}
use Rattle.mu_lexer.specs.declared.token.Mark.TheVariants as marks
use Rattle.mu_grammar.specs.declared.symbol.Fixed.{Fixed}
use Rattle.mu_grammar.specs.declared.symbol.Fixed.TheVariants as fixed
use Rattle.mu_grammar.specs.declared.symbol.Bracket.{Bracket}
use Rattle.mu_grammar.specs.declared.symbol.Bracket.TheVariants as brackets
use Rattle.mu_grammar.specs.declared.symbol.Shape.{Shape}
use Rattle.mu_grammar.specs.declared.symbol.Shape.TheVariants as shapes
use Rattle.mu_grammar.specs.Grammar.{Symbol, word, mark}

-- whether the token is this word or mark
abbrev pub is_fixed : Fixed → Symbol → Bool
is_fixed fixed.ModelWord (word words.Model at) = true
is_fixed fixed.EndWord (word words.End at) = true
is_fixed fixed.AlgorithmWord (word words.Algorithm at) = true
is_fixed fixed.InWord (word words.In at) = true
is_fixed fixed.ForWord (word words.For at) = true
is_fixed fixed.WhenWord (word words.When at) = true
is_fixed fixed.RealWord (word words.RealType at) = true
is_fixed fixed.OpenBracket (mark marks.OpenRound at) = true
is_fixed fixed.EqualSign (mark marks.Equal at) = true
is_fixed fixed.Semicolon (mark marks.Semicolon at) = true
is_fixed _ _ = false

-- the token of this word or mark
abbrev pub fixed_token : Fixed → ℕ → Symbol
fixed_token fixed.ModelWord at = word words.Model at
fixed_token fixed.EndWord at = word words.End at
fixed_token fixed.AlgorithmWord at = word words.Algorithm at
fixed_token fixed.InWord at = word words.In at
fixed_token fixed.ForWord at = word words.For at
fixed_token fixed.WhenWord at = word words.When at
fixed_token fixed.RealWord at = word words.RealType at
fixed_token fixed.OpenBracket at = mark marks.OpenRound at
fixed_token fixed.EqualSign at = mark marks.Equal at
fixed_token fixed.Semicolon at = mark marks.Semicolon at

-- the class of a token inside a skipped item
abbrev pub shape_of : Symbol → Shape
shape_of (mark marks.OpenRound at) = shapes.Opening brackets.Round
shape_of (mark marks.OpenSquare at) = shapes.Opening brackets.Square
shape_of (mark marks.OpenCurly at) = shapes.Opening brackets.Curly
shape_of (mark marks.CloseRound at) = shapes.Closing brackets.Round
shape_of (mark marks.CloseSquare at) = shapes.Closing brackets.Square
shape_of (mark marks.CloseCurly at) = shapes.Closing brackets.Curly
shape_of (mark marks.Comma at) = shapes.Comma
shape_of _ = shapes.Other

-- whether both brackets are of the same kind
abbrev pub is_same : Bracket → Bracket → Bool
is_same brackets.Round brackets.Round = true
is_same brackets.Square brackets.Square = true
is_same brackets.Curly brackets.Curly = true
is_same _ _ = false

-- the mark that closes this kind of bracket
abbrev pub closing : Bracket → Mark
closing brackets.Round = marks.CloseRound
closing brackets.Square = marks.CloseSquare
closing brackets.Curly = marks.CloseCurly
