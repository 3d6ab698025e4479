-- Tests for a closing round bracket and an opening square bracket.
use Rattle.std.specs.Prelude.{Bool, true, false}
use Rattle.mu_lexer.specs.declared.token.Mark.TheVariants as marks
use Rattle.mu_grammar.specs.Grammar.{Symbol, mark}

-- whether the token closes a list of items
abbrev pub is_close : Symbol → Bool
is_close (mark marks.CloseRound at) = true
is_close _ = false

-- whether the token opens a size
abbrev pub is_open_square : Symbol → Bool
is_open_square (mark marks.OpenSquare at) = true
is_open_square _ = false
