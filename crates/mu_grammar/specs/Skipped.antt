-- Skipped input: import lines, and bracketed items that the grammar does not interpret.
use Rattle.std.specs.Prelude.{◌≡◌, ℕ, suc, ◌<◌, Bool, true, false, List, ◌∷◌, Option, Some, None}
use Rattle.std.specs.Str.{bytes_eq}
use Rattle.mu_lexer.specs.declared.token.Mark.{Mark}
use Rattle.mu_lexer.specs.declared.token.Mark.TheVariants as marks
use Rattle.mu_grammar.specs.Grammar.{Symbol, name, mark}

-- whether the token is the identifier with this text
abbrev pub is_named : List ℕ → Symbol → Bool
is_named text (name n at) = bytes_eq n text
is_named text _ = false

-- the mark that closes this one, if this one opens a bracket
abbrev pub closer : Mark → Option Mark
closer marks.OpenRound = Some marks.CloseRound
closer marks.OpenSquare = Some marks.CloseSquare
closer marks.OpenCurly = Some marks.CloseCurly
closer _ = None

-- whether the token may occur in a skipped item: no bracket, and a comma only inside the item's
-- brackets
abbrev pub is_plain_token : Bool → Symbol → Bool
is_plain_token inside (mark marks.OpenRound at) = false
is_plain_token inside (mark marks.CloseRound at) = false
is_plain_token inside (mark marks.OpenSquare at) = false
is_plain_token inside (mark marks.CloseSquare at) = false
is_plain_token inside (mark marks.OpenCurly at) = false
is_plain_token inside (mark marks.CloseCurly at) = false
is_plain_token inside (mark marks.Comma at) = inside
is_plain_token inside _ = true

-- tokens with balanced brackets; commas outside these brackets are allowed only if inside is true
pub data Balanced (limit : ℕ) : Bool → ℕ → List Symbol → List Symbol → Type 0 where
  balanced_end : {inside : Bool} {d : ℕ} {ts : List Symbol} → Balanced limit inside d ts ts
  balanced_token : {inside : Bool} {d : ℕ} {x : Symbol} {ts rest : List Symbol} → is_plain_token inside x ≡ true → Balanced limit inside d ts rest → Balanced limit inside d (x ∷ ts) rest
  balanced_nested : {inside : Bool} {d i j : ℕ} {m n : Mark} {ts mid rest : List Symbol} → closer m ≡ Some n → d < limit → Balanced limit true (suc d) ts (mark n j ∷ mid) → Balanced limit inside d mid rest → Balanced limit inside d (mark m i ∷ ts) rest

-- a skipped item: one or more tokens, of which the first satisfies may_begin
pub data IsSkipped (limit : ℕ) (may_begin : Symbol → Bool) : ℕ → List Symbol → List Symbol → Type 0 where
  skipped : {d : ℕ} {x : Symbol} {ts rest : List Symbol} → may_begin x ≡ true → is_plain_token false x ≡ true → Balanced limit false d ts rest → IsSkipped limit may_begin d (x ∷ ts) rest
  skipped_nested : {d i j : ℕ} {m n : Mark} {ts mid rest : List Symbol} → closer m ≡ Some n → d < limit → Balanced limit true (suc d) ts (mark n j ∷ mid) → Balanced limit false d mid rest → IsSkipped limit may_begin d (mark m i ∷ ts) rest

-- whether the token is not a semicolon
abbrev pub is_imported : Symbol → Bool
is_imported (mark marks.Semicolon at) = false
is_imported _ = true

-- the tokens of an import line after its first word; they are skipped
pub data IsImported : List Symbol → List Symbol → Type 0 where
  import_end : {at : ℕ} {rest : List Symbol} → IsImported (mark marks.Semicolon at ∷ rest) rest
  import_token : {x : Symbol} {ts rest : List Symbol} → is_imported x ≡ true → IsImported ts rest → IsImported (x ∷ ts) rest
