-- Canonical tokens one after another, and the source that has them.
use Rattle.mu_grammar.proofs.Common
use Common.{[], ℕ, ◌++◌, ◌+◌, ◌-◌, ◌∙◌, ◌∷◌, ◌≡◌, All, All-cons, All-nil, ap, append_assoc, arith}
use Common.{Bool, bytes_eq, codes, drop, false, if◌then◌else◌, length, List, map, Mark, mark}
use Common.{mark_text, name, number, refl, SpellsToken, subst, sym, Symbol, symbol_of, symbol_with}
use Common.{symbols, take, Texts, true, Word, word}
use Rattle.std.proofs.Common.{length-append}
use Rattle.std.proofs.Math.Seq.{take-append_seam, drop-append_seam}
use Rattle.mu_lexer.specs.declared.token.Kind.{Kind}
use Rattle.mu_lexer.specs.Tokens.{is_blank, AreTokens}
use Rattle.mu_lexer.specs.Spelling.{word_text}
use Rattle.mu_lexer.specs.Spaced.{Piece, IsSpelled, spaced_text, spaced_tokens}
use Rattle.mu_lexer.proofs.SpacedTexts.{spaced_read}
use Rattle.mu_tree.specs.Canonical.{joined, byte_behind}
use Rattle.mu_lexer.specs.declared.token.Kind.TheVariants as kinds

-- the place after a text and the byte that follows it
abbrev pub past : ℕ → List ℕ → ℕ
past at t = at + length t + 1

-- the second list of tokens begins with these texts, laid from the first place to the second one, and goes on with the third
pub data Laid : ℕ → ℕ → Texts → List Symbol → List Symbol → Type 0 where
  laid_end : {at : ℕ} {rest : List Symbol} → Laid at at [] rest rest
  laid_then : {at end : ℕ} (k : Kind) {t : List ℕ} {ts : Texts} {cs rest : List Symbol} → SpellsToken k t → Laid (past at t) end ts cs rest → Laid at end (t ∷ ts) (symbol_with k t at ∷ cs) rest

-- a mark before what is laid
pub lay_mark : {at end : ℕ} {ts : Texts} {cs rest : List Symbol} (m : Mark) → Laid (past at (mark_text m)) end ts cs rest → Laid at end (mark_text m ∷ ts) (mark m at ∷ cs) rest
lay_mark m laid = laid_then (kinds.Mark m) refl laid

-- a word before what is laid
pub lay_word : {at end : ℕ} {ts : Texts} {cs rest : List Symbol} (w : Word) → Laid (past at (word_text w)) end ts cs rest → Laid at end (word_text w ∷ ts) (word w at ∷ cs) rest
lay_word w laid = laid_then (kinds.Word w) refl laid

-- an identifier before what is laid
pub lay_name : {at end : ℕ} {n : List ℕ} {ts : Texts} {cs rest : List Symbol} → SpellsToken kinds.Ident n → Laid (past at n) end ts cs rest → Laid at end (n ∷ ts) (name n at ∷ cs) rest
lay_name is laid = laid_then kinds.Ident is laid

-- a number before what is laid
pub lay_number : {at end : ℕ} {n : List ℕ} {ts : Texts} {cs rest : List Symbol} → SpellsToken kinds.Number n → Laid (past at n) end ts cs rest → Laid at end (n ∷ ts) (number n at ∷ cs) rest
lay_number is laid = laid_then kinds.Number is laid

-- texts one after another
pub lay_both : {at mid end : ℕ} {ts us : Texts} {cs ms rest : List Symbol} → Laid at mid ts cs ms → Laid mid end us ms rest → Laid at end (ts ++ us) cs rest
lay_both laid_end second = second
lay_both (laid_then k is first) second = laid_then k is (lay_both first second)

-- one part of a grammar that parses again from canonical texts that begin at a place, before what follows them; the parsed value is the same
pub record Again {V B : Type 0} (say : V → B) (R : List Symbol → List Symbol → V → Type 0) (text : Texts) (v : V) (at : ℕ) (after : ℕ → List Symbol) : Type 0 where
  pub end : ℕ
  pub found : List Symbol
  pub value : V
  pub laid : Laid at end text found (after end)
  pub spelled : R found (after end) value
  pub same : say value ≡ say v

-- it parses again from each place on and before any following text
abbrev pub Repeats : {V B : Type 0} → (V → B) → (List Symbol → List Symbol → V → Type 0) → Texts → V → Type 0
Repeats {V} {B} say R text v = (at : ℕ) (after : ℕ → List Symbol) → Again say R text v at after

-- the text parses by another rule
pub by_rule : {V B : Type 0} {say : V → B} {R S : List Symbol → List Symbol → V → Type 0} {text : Texts} {v : V} → ((ts rest : List Symbol) (w : V) → R ts rest w → S ts rest w) → Repeats say R text v → Repeats say S text v
by_rule rule again = λ at after. (let a = again at after in record { end = a.end; found = a.found; value = a.value; laid = a.laid; spelled = rule a.found (after a.end) a.value a.spelled; same = a.same })

-- the byte after a text is a blank
byte_behind-blank : (t : List ℕ) → is_blank (byte_behind t) ≡ true
byte_behind-blank t = go (bytes_eq t (codes ";"))
  where
    go : (b : Bool) → is_blank (if b then 10 else 32) ≡ true
    go true = refl
    go false = refl

-- the source of laid texts, with its tokens
pub record Source (at : ℕ) (ts : Texts) (cs : List Symbol) : Type 0 where
  pub pieces : List Piece
  pub spelled : All IsSpelled pieces
  pub text : joined ts ≡ spaced_text pieces
  pub symbols : (front : List ℕ) → length front ≡ at → map (symbol_of (front ++ joined ts)) (spaced_tokens at pieces) ≡ cs

-- the text of a token in its source
text_there : (front t more : List ℕ) (at : ℕ) → length front ≡ at → take (at + length t - at) (drop at (front ++ t ++ more)) ≡ t
text_there front t more at is =
    let n : at + length t - at ≡ length t = omega arith in
    ap (λ i. take i (drop at (front ++ t ++ more))) n ∙ ap (λ i. take (length t) (drop i (front ++ t ++ more))) (sym is) ∙ ap (λ s. take (length t) (drop (length front) s)) (append_assoc front t more)
    ∙ ap (take (length t)) (drop-append_seam front (t ++ more)) ∙ take-append_seam t more

-- each layout is that of a source
pub source_of : {at end : ℕ} {ts : Texts} {cs rest : List Symbol} → rest ≡ [] → Laid at end ts cs rest → Source at ts cs
source_of none laid_end = record { pieces = []; spelled = All-nil IsSpelled; text = refl; symbols = λ front is. sym none }
source_of {at = at} none (laid_then k {t = t} {ts = ts} {cs = cs} is laid) =
    let more = source_of none laid in
    let p : Piece = record { kind = k; text = t; blank = byte_behind t } in
    record {
      pieces = p ∷ more.pieces;
      spelled = All-cons IsSpelled p more.pieces (record { text = is; blank = byte_behind-blank t }) more.spelled;
      text = ap (λ s. (t ++ byte_behind t ∷ []) ++ s) more.text;
      symbols = λ front here. (
          let first : symbol_of (front ++ joined (t ∷ ts)) (record { kind = k; start = at; end = at + length t }) ≡ symbol_with k t at =
          ap (λ s. symbol_with k (take (at + length t - at) (drop at s)) at) (ap (λ s. front ++ s) (append_assoc t (byte_behind t ∷ []) (joined ts)) ∙ sym (append_assoc front t (byte_behind t ∷ joined ts)))
          ∙ ap (λ s. symbol_with k s at) (text_there front t (byte_behind t ∷ joined ts) at here) in
          let length_is : length (front ++ t ++ byte_behind t ∷ []) ≡ past at t = length-append (front ++ t) (byte_behind t ∷ []) ∙ ap (λ n. n + 1) (length-append front t ∙ ap (λ n. n + length t) here) in
          let rest : map (symbol_of (front ++ joined (t ∷ ts))) (spaced_tokens (past at t) more.pieces) ≡ cs =
          ap (λ s. map (symbol_of s) (spaced_tokens (past at t) more.pieces)) (sym (append_assoc front (t ++ byte_behind t ∷ []) (joined ts)) ∙ ap (λ s. s ++ joined ts) (sym (append_assoc front t (byte_behind t ∷ []))))
          ∙ more.symbols (front ++ t ++ byte_behind t ∷ []) length_is in
          ap (λ x. x ∷ map (symbol_of (front ++ joined (t ∷ ts))) (spaced_tokens (past at t) more.pieces)) first ∙ ap (λ xs. symbol_with k t at ∷ xs) rest);
    }

-- texts laid from the beginning are the tokens of their source
pub laid_source : {end : ℕ} {ts : Texts} {cs : List Symbol} → Laid 0 end ts cs [] → (tokens : List _) × AreTokens (joined ts) tokens × (symbols (joined ts) tokens ≡ cs)
laid_source {ts = ts} laid =
    let s = source_of refl laid in
    (spaced_tokens 0 s.pieces, subst (λ source. AreTokens source (spaced_tokens 0 s.pieces)) (sym s.text) (spaced_read s.pieces s.spelled), s.symbols [] refl)
