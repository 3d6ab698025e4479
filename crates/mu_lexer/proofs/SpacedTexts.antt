-- Texts of tokens that are each followed by a blank are read as these tokens.
use Rattle.mu_lexer.proofs.Common
use Common.{[], ℕ, ◌&&◌, ◌++◌, ◌+◌, ◌==◌, ◌||◌, ◌∙◌, ◌∷◌, ◌≡◌, ◌≤◌, All, ap, append_assoc}
use Common.{AreTokens, arith, begins_comment, begins_slash, BeginsWith, blank, Bool, ending}
use Common.{eqb-true, false, is_blank, Kind, kind_from, kind_of, length, List, Mark, named, next}
use Common.{None, Option, option_and_then, Phase, Reads, refl, run, Some, SpellsToken, stay, subst}
use Common.{sym, take, token, true}
use Rattle.std.proofs.Common.{length-append, zero-add}
use Rattle.std.proofs.lemmas.List.Elements.{All-head, All-tail}
use Rattle.std.proofs.Math.Seq.{take-append_seam, drop-append_seam, get_or-append_seam}
use Rattle.mu_lexer.specs.Automaton.{after_mark}
use Rattle.mu_lexer.specs.Spaced.{Piece, IsSpelled, spaced_text, spaced_tokens}
use Rattle.mu_lexer.proofs.TokenKinds.{spelled_kind}
use Rattle.mu_lexer.proofs.Runs.{run-take_more, stuck}
use Rattle.mu_lexer.specs.declared.token.Mark.TheVariants as mark
use Rattle.mu_lexer.specs.declared.lexer.Phase.TheVariants as phase
use Rattle.mu_lexer.specs.declared.token.Kind.TheVariants as kind
use Rattle.mu_lexer.specs.declared.lexer.NextItem.TheVariants as standing

-- what holds of the four blanks holds of each blank
at_blank : (P : ℕ → Type 0) → P 32 → P 9 → P 13 → P 10 → (c : ℕ) → is_blank c ≡ true → P c
at_blank P space tab return feed c is = go (c == 32) (c == 9) (c == 13) (c == 10) refl refl refl refl is
  where
    go : (b d e f : Bool) → (c == 32) ≡ b → (c == 9) ≡ d → (c == 13) ≡ e → (c == 10) ≡ f → (b || d || e || f) ≡ true → P c
    go true d e f one two three four is = subst P (sym (eqb-true c 32 one)) space
    go false true e f one two three four is = subst P (sym (eqb-true c 9 two)) tab
    go false false true f one two three four is = subst P (sym (eqb-true c 13 three)) return
    go false false false true one two three four is = subst P (sym (eqb-true c 10 four)) feed
    go false false false false one two three four is = cc

-- no mark goes on with a blank
after_mark-blank : (m : Mark) (c : ℕ) → is_blank c ≡ true → after_mark m c ≡ None
after_mark-blank mark.Dot c is = at_blank (λ c. after_mark mark.Dot c ≡ None) refl refl refl refl c is
after_mark-blank mark.Colon c is = at_blank (λ c. after_mark mark.Colon c ≡ None) refl refl refl refl c is
after_mark-blank mark.Equal c is = at_blank (λ c. after_mark mark.Equal c ≡ None) refl refl refl refl c is
after_mark-blank mark.Less c is = at_blank (λ c. after_mark mark.Less c ≡ None) refl refl refl refl c is
after_mark-blank mark.Greater c is = at_blank (λ c. after_mark mark.Greater c ≡ None) refl refl refl refl c is
after_mark-blank _ c is = refl

-- where a token may end, it does not go on with a blank
next-blank : (q : Phase) (k : Kind) (c : ℕ) → ending q ≡ Some k → is_blank c ≡ true → next q c ≡ None
next-blank phase.Whole k c ends is = at_blank (λ c. next phase.Whole c ≡ None) refl refl refl refl c is
next-blank phase.Fraction k c ends is = at_blank (λ c. next phase.Fraction c ≡ None) refl refl refl refl c is
next-blank phase.Digits k c ends is = at_blank (λ c. next phase.Digits c ≡ None) refl refl refl refl c is
next-blank phase.Name k c ends is = at_blank (λ c. next phase.Name c ≡ None) refl refl refl refl c is
next-blank phase.Closed k c ends is = refl
next-blank (phase.Mark m) k c ends is = after_mark-blank m c is
next-blank _ k c ends is = cc

-- a text that is a kind of token leaves the automaton where a token may end
record Ended (text : List ℕ) : Type 0 where
  last : Phase
  found : Kind
  ran : run phase.Start text ≡ Some last
  ends : ending last ≡ Some found

ended : (text : List ℕ) (k : Kind) → kind_of text ≡ Some k → Ended text
ended text k is = outer (kind_from phase.Start text) refl is
  where
    inner : (o : Option Phase) (j : Kind) → run phase.Start text ≡ o → option_and_then ending o ≡ Some j → Ended text
    inner None j ran is = cc
    inner (Some q) j ran is = record { last = q; found = j; ran = ran; ends = is }

    outer : (o : Option Kind) → kind_from phase.Start text ≡ o → named text o ≡ Some k → Ended text
    outer None read is = cc
    outer (Some j) read is = inner (run phase.Start text) j refl read

-- a second byte that is no slash or star begins no comment
no_slash_before : (c d e : ℕ) (s : List ℕ) → (e == d) ≡ false → begins_slash d (c ∷ e ∷ s) ≡ false
no_slash_before c d e s other = go (c == 47) (e == d) other
  where
    go : (b f : Bool) → f ≡ false → (b && f) ≡ false
    go true f is = is
    go false f is = refl

-- no token of two bytes or more begins with a slash
slash_alone : (c e : ℕ) (t : List ℕ) (k : Kind) → kind_of (c ∷ e ∷ t) ≡ Some k → (c == 47) ≡ false
slash_alone c e t k is = go (c == 47) refl
  where
    go : (b : Bool) → (c == 47) ≡ b → b ≡ false
    go true slash = absurd (let none : kind_of (c ∷ e ∷ t) ≡ None = subst (λ x. kind_of (x ∷ e ∷ t) ≡ None) (sym (eqb-true c 47 slash)) refl in cc)
    go false slash = refl

-- a token and a blank begin no comment
no_comment : (text : List ℕ) (k : Kind) (c : ℕ) (more : List ℕ) → kind_of text ≡ Some k → is_blank c ≡ true → begins_comment (text ++ c ∷ more) ≡ false
no_comment [] k c more is behind = cc
no_comment (d ∷ []) k c more is behind =
    let line = no_slash_before d 47 c more (at_blank (λ c. (c == 47) ≡ false) refl refl refl refl c behind) in
    let block = no_slash_before d 42 c more (at_blank (λ c. (c == 42) ≡ false) refl refl refl refl c behind) in
    ap (λ b. b || begins_slash 42 (d ∷ c ∷ more)) line ∙ block
no_comment (d ∷ e ∷ text) k c more is behind =
    ap (λ b. (b && (e == 47)) || (b && (e == 42))) (slash_alone d e text k is)

-- the text begins with a token that is followed by a blank
pub stands_before_blank : (text : List ℕ) (k : Kind) (c : ℕ) (more : List ℕ) → SpellsToken k text → is_blank c ≡ true → BeginsWith (text ++ c ∷ more) (standing.Token k (length text))
stands_before_blank text k c more spelled behind =
    let s : List ℕ = text ++ c ∷ more in
    let is : kind_of text ≡ Some k = spelled_kind k text spelled in
    let end = ended text k is in
    let front : take (length text) s ≡ text = take-append_seam text (c ∷ more) in
    let within : length text + 1 ≤ length s = omega (arith, length-append text (c ∷ more)) in
    let ran : run phase.Start (take (length text) s) ≡ Some end.last = ap (run phase.Start) front ∙ end.ran in
    let stopped : run phase.Start (take (length text + 1) s) ≡ None =
    run-take_more s (length text) end.last ran (omega arith) ∙ ap (next end.last) (get_or-append_seam text c more 0) ∙ next-blank end.last end.found c end.ends behind in (
      no_comment text k c more is behind,
      record {
        within = omega arith;
        spelled = subst (SpellsToken k) (sym front) spelled;
        longest = λ j m above below other. (
            let none : kind_of (take m s) ≡ None = ap (named (take m s)) (stuck s (length text + 1) m stopped (omega arith)) in
            let some : kind_of (take m s) ≡ Some j = spelled_kind j (take m s) other in
            cc);
      },
    )

-- one piece before what is read already
read_piece : (p : Piece) (end at : ℕ) (more : List ℕ) (ts : List _) → IsSpelled p → Reads end [] (at + length p.text + 1) more ts →
    Reads end [] at (p.text ++ p.blank ∷ more) (record { kind = p.kind; start = at; end = at + length p.text } ∷ ts)
read_piece p end at more ts is reads =
    token (stands_before_blank p.text p.kind p.blank more is.text is.blank)
    (subst (λ s. Reads end [] (at + length p.text) s ts) (sym (drop-append_seam p.text (p.blank ∷ more))) (blank is.blank reads))

-- pieces are read as their tokens
pub pieces_read : (ps : List Piece) (at : ℕ) → All IsSpelled ps → Reads (at + length (spaced_text ps)) [] at (spaced_text ps) (spaced_tokens at ps)
pieces_read [] at all = subst (λ e. Reads e [] at [] []) (let e : at ≡ at + 0 = omega arith in e) stay
pieces_read (p ∷ ps) at all =
    let rest = pieces_read ps (at + length p.text + 1) (All-tail IsSpelled p ps all) in
    let joined : (p.text ++ p.blank ∷ []) ++ spaced_text ps ≡ p.text ++ p.blank ∷ spaced_text ps = append_assoc p.text (p.blank ∷ []) (spaced_text ps) in
    let same : at + length p.text + 1 + length (spaced_text ps) ≡ at + length (spaced_text (p ∷ ps)) =
    (let a : length (p.text ++ p.blank ∷ spaced_text ps) ≡ length p.text + length (p.blank ∷ spaced_text ps) = length-append p.text (p.blank ∷ spaced_text ps) in let b : length (spaced_text (p ∷ ps)) ≡ length (p.text ++ p.blank ∷ spaced_text ps) = ap length joined in omega arith) in
    subst (λ s. Reads (at + length (spaced_text (p ∷ ps))) [] at s (spaced_tokens at (p ∷ ps))) (sym joined)
    (subst (λ e. Reads e [] at (p.text ++ p.blank ∷ spaced_text ps) (spaced_tokens at (p ∷ ps))) same
    (read_piece p (at + length p.text + 1 + length (spaced_text ps)) at (spaced_text ps) (spaced_tokens (at + length p.text + 1) ps) (All-head IsSpelled p ps all) rest))

-- they are the tokens of the whole source
pub spaced_read : (ps : List Piece) → All IsSpelled ps → AreTokens (spaced_text ps) (spaced_tokens 0 ps)
spaced_read ps all = subst (λ e. Reads e [] 0 (spaced_text ps) (spaced_tokens 0 ps)) (zero-add (length (spaced_text ps))) (pieces_read ps 0 all)
