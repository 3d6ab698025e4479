-- The tokens of a source are tokens of the grammar.
use Rattle.mu_grammar.proofs.Common
use Common.{ℕ, ◌+◌, ◌-◌, ◌∙◌, ◌≡◌, All, All-cons, All-nil, ap, arith, drop, IsToken, List, refl}
use Common.{SpellsToken, subst, symbol_of, symbol_with, symbols, take, Token}
use Rattle.std.proofs.lemmas.List.{drop-drop}
use Rattle.mu_lexer.specs.Tokens.{Reads, stay as at_end, blank as over_space}
use Rattle.mu_lexer.specs.Tokens.{comment as over_remark, token as over_word}
use Rattle.mu_lexer.specs.declared.token.Kind.{Kind}
use Rattle.mu_grammar.specs.SourceTokens.{TokensAreTokens}
use Rattle.mu_lexer.specs.declared.token.Kind.TheVariants as kind

-- the tokens of a source are tokens
is_token : (k : Kind) (text : List ℕ) (at : ℕ) → SpellsToken k text → IsToken (symbol_with k text at)
is_token kind.Number text at h = h
is_token kind.Str text at h = tt
is_token kind.Ident text at h = h
is_token (kind.Word w) text at h = tt
is_token (kind.Mark m) text at h = tt

same_text : (at n : ℕ) (s d : List ℕ) → s ≡ d → take n s ≡ take (at + n - at) d
same_text at n s d e = let size : at + n - at ≡ n = omega arith in rw (size, e) refl

read_tokens : (bytes : List ℕ) {end : ℕ} {rest : List ℕ} {at : ℕ} {s : List ℕ} {ts : List Token} → Reads end rest at s ts → s ≡ drop at bytes → All IsToken (symbols bytes ts)
read_tokens bytes at_end e = All-nil IsToken
read_tokens bytes {at = at} (over_space stands reads) e = read_tokens bytes reads (ap (drop 1) e ∙ drop-drop 1 at bytes)
read_tokens bytes {at = at} (over_remark {n = n} stands reads) e = read_tokens bytes reads (ap (drop n) e ∙ drop-drop n at bytes)
read_tokens bytes {at = at} {s = s} (over_word {n = n} {k = k} {ts = ts} stands reads) e =
    All-cons IsToken (symbol_of bytes (record { kind = k; start = at; end = at + n })) (symbols bytes ts)
    (subst (λ (text : List ℕ). IsToken (symbol_with k text at)) (same_text at n s (drop at bytes) e) (is_token k (take n s) at stands.1.spelled))
    (read_tokens bytes reads (ap (drop n) e ∙ drop-drop n at bytes))

pub are_tokens : TokensAreTokens
are_tokens bytes tokens reads = read_tokens bytes reads refl
