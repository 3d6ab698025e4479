-- The concrete syntax of tokens.
use Rattle.std.specs.Prelude.{◌≡◌, ◌≢◌, ℕ, Bool, true, false, List, [], ◌∷◌, ◌++◌, ◌==◌, ◌&&◌, ◌||◌, nat_le, if◌then◌else◌, IsTrue, codes}
use Rattle.mu_lexer.specs.declared.token.Word.TheVariants as word
use Rattle.mu_lexer.specs.declared.token.Mark.TheVariants as mark
use Rattle.mu_lexer.specs.declared.token.Kind.TheVariants as kind
use Rattle.mu_lexer.specs.declared.token.Word.{Word}
use Rattle.mu_lexer.specs.declared.token.Mark.{Mark}
use Rattle.mu_lexer.specs.declared.token.Kind.{Kind}

-- 0 to 9
abbrev pub is_digit : ℕ → Bool
is_digit c = nat_le 48 c && nat_le c 57

-- A to Z, a to z, and _
abbrev pub is_letter : ℕ → Bool
is_letter c = (nat_le 65 c && nat_le c 90) || (nat_le 97 c && nat_le c 122) || (c == 95)

-- e and E
abbrev pub is_exponent_mark : ℕ → Bool
is_exponent_mark c = (c == 101) || (c == 69)

-- + and -
abbrev pub is_sign : ℕ → Bool
is_sign c = (c == 43) || (c == 45)

-- zero or more digits
abbrev pub is_digits : List ℕ → Bool
is_digits [] = true
is_digits (c ∷ s) = if is_digit c then is_digits s else false

-- one or more digits
abbrev pub is_some_digits : List ℕ → Bool
is_some_digits [] = false
is_some_digits (c ∷ s) = if is_digit c then is_digits s else false

-- the mantissa of a number: digits; digits, a point and optional digits; or a point and digits
pub data IsMantissa : List ℕ → Type 0 where
  whole : {digits : List ℕ} → IsTrue (is_some_digits digits) → IsMantissa digits
  with_point : (before behind : List ℕ) → IsTrue (is_some_digits before) → IsTrue (is_digits behind) → IsMantissa (before ++ 46 ∷ behind)
  behind_point : {digits : List ℕ} → IsTrue (is_some_digits digits) → IsMantissa (46 ∷ digits)

-- the exponent of a number: empty; or e, an optional sign, and digits
pub data IsScale : List ℕ → Type 0 where
  no_scale : IsScale []
  plain_scale : {e : ℕ} {digits : List ℕ} → IsTrue (is_exponent_mark e) → IsTrue (is_some_digits digits) → IsScale (e ∷ digits)
  signed_scale : {e sign : ℕ} {digits : List ℕ} → IsTrue (is_exponent_mark e) → IsTrue (is_sign sign) → IsTrue (is_some_digits digits) → IsScale (e ∷ sign ∷ digits)

-- a number: a mantissa and an exponent
abbrev pub IsNumber : List ℕ → Type 0
IsNumber text = (mantissa scale : List ℕ) × (text ≡ mantissa ++ scale) × IsMantissa mantissa × IsScale scale

-- the rest of a string after its first quotation mark; a backslash escapes the next byte
abbrev pub is_quoted : List ℕ → Bool
is_quoted [] = false
is_quoted (c ∷ []) = c == 34
is_quoted (c ∷ d ∷ s) = if c == 92 then is_quoted s else (if c == 34 then false else is_quoted (d ∷ s))

-- a string in quotation marks
abbrev pub is_string : List ℕ → Bool
is_string [] = false
is_string (c ∷ s) = (c == 34) && is_quoted s

-- zero or more letters and digits
abbrev pub is_name_rest : List ℕ → Bool
is_name_rest [] = true
is_name_rest (c ∷ s) = if is_letter c || is_digit c then is_name_rest s else false

-- a letter, followed by letters and digits
abbrev pub is_name : List ℕ → Bool
is_name [] = false
is_name (c ∷ s) = if is_letter c then is_name_rest s else false

-- the text of a word
abbrev pub word_text : Word → List ℕ
word_text word.Model = codes "model"
word_text word.End = codes "end"
word_text word.Import = codes "import"
word_text word.Parameter = codes "parameter"
word_text word.Constant = codes "constant"
word_text word.Discrete = codes "discrete"
word_text word.RealType = codes "Real"
word_text word.IntegerType = codes "Integer"
word_text word.Each = codes "each"
word_text word.Annotation = codes "annotation"
word_text word.Equation = codes "equation"
word_text word.Algorithm = codes "algorithm"
word_text word.Initial = codes "initial"
word_text word.Der = codes "der"
word_text word.When = codes "when"
word_text word.Elsewhen = codes "elsewhen"
word_text word.Then = codes "then"
word_text word.For = codes "for"
word_text word.In = codes "in"
word_text word.Loop = codes "loop"
word_text word.Time = codes "time"
word_text word.Pre = codes "pre"
word_text word.Reinit = codes "reinit"
word_text word.And = codes "and"
word_text word.Or = codes "or"
word_text word.Not = codes "not"
word_text word.If = codes "if"
word_text word.Else = codes "else"
word_text word.Elseif = codes "elseif"
word_text word.While = codes "while"
word_text word.Class = codes "class"
word_text word.Function = codes "function"
word_text word.Record = codes "record"
word_text word.Block = codes "block"
word_text word.Package = codes "package"
word_text word.Type = codes "type"
word_text word.Extends = codes "extends"
word_text word.Connect = codes "connect"
word_text word.True = codes "true"
word_text word.False = codes "false"

-- the text of a mark
abbrev pub mark_text : Mark → List ℕ
mark_text mark.OpenRound = codes "("
mark_text mark.CloseRound = codes ")"
mark_text mark.OpenSquare = codes "["
mark_text mark.CloseSquare = codes "]"
mark_text mark.OpenCurly = codes "{"
mark_text mark.CloseCurly = codes "}"
mark_text mark.Comma = codes ","
mark_text mark.Semicolon = codes ";"
mark_text mark.Colon = codes ":"
mark_text mark.Assign = codes ":="
mark_text mark.Equal = codes "="
mark_text mark.Plus = codes "+"
mark_text mark.Minus = codes "-"
mark_text mark.Times = codes "*"
mark_text mark.Divide = codes "/"
mark_text mark.Caret = codes "^"
mark_text mark.Less = codes "<"
mark_text mark.LessEqual = codes "<="
mark_text mark.Greater = codes ">"
mark_text mark.GreaterEqual = codes ">="
mark_text mark.EqualEqual = codes "=="
mark_text mark.NotEqual = codes "<>"
mark_text mark.Dot = codes "."

-- the text is a token of this kind
abbrev pub SpellsToken : Kind → List ℕ → Type 0
SpellsToken kind.Number text = IsNumber text
SpellsToken kind.Str text = IsTrue (is_string text)
SpellsToken kind.Ident text = IsTrue (is_name text) × ((w : Word) → text ≢ word_text w)
SpellsToken (kind.Word w) text = text ≡ word_text w
SpellsToken (kind.Mark m) text = text ≡ mark_text m
