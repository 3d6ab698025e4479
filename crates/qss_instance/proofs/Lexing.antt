-- The tokens of a source whose items have known lengths, by evaluation.
use Rattle.std.proofs.Common.{◌≡◌, ℕ, zero, suc, ◌+◌, ◌-◌, ◌≤◌, Bool, true, false, List, [], ◌∷◌}
use Rattle.std.proofs.Common.{◌++◌, length, take, drop, refl, ap, sym, ◌∙◌, subst, Option, Some}
use Rattle.std.proofs.Common.{None, if◌then◌else◌, arith, length-drop}
use Rattle.std.specs.Option.{option_and_then}
use Rattle.std.specs.Prelude.{nat_lt}
use borrow.Author.Tests.{ltb-true}
use Rattle.std.proofs.Math.Seq.{take-add}
use Rattle.mu_lexer.specs.declared.token.Kind.{Kind}
use Rattle.mu_lexer.specs.declared.token.Token.{Token}
use Rattle.mu_lexer.specs.declared.lexer.Phase.{Phase}
use Rattle.mu_lexer.specs.Automaton.{next, ending, run, kind_from, named, kind_of}
use Rattle.mu_lexer.specs.Tokens.{begins_blank, begins_comment, IsLongest, Reads, stay, blank}
use Rattle.mu_lexer.specs.Tokens.{token}
use Rattle.mu_lexer.proofs.TokenKinds.{spelled_kind, kind_spelled}
use Rattle.mu_lexer.specs.declared.lexer.Phase.TheVariants as phase
use Rattle.mu_lexer.specs.declared.lexer.NextItem.TheVariants as standing

-- one more token, if the automaton stops behind it
abbrev pub with_token : ℕ → ℕ → Option Kind → Option Phase → Option (List Token) → Option
    (List Token)
with_token at n (Some k) None (Some ts) = Some (record { kind = k; start = at; end = at + n } ∷ ts)
with_token at n (Some k) None None = None
with_token at n (Some k) (Some p) ts = None
with_token at n None p ts = None

-- the tokens of a text from an offset, if its items have these lengths; 0 stands for a blank
abbrev pub tokens_in : List ℕ → ℕ → List ℕ → Option (List Token)
tokens_in [] at [] = Some []
tokens_in [] at (c ∷ s) = None
tokens_in (zero ∷ items) at s = if begins_blank s then tokens_in items (at + 1) (drop 1 s) else None
tokens_in (suc n ∷ items) at s =
    if begins_comment s then None
    else (if nat_lt n (length s) then with_token at (suc n) (kind_of (take (suc n) s))
    (run phase.Start (take (suc n + 1) s)) (tokens_in items (at + suc n) (drop (suc n) s)) else
    None)

-- a text in two parts
run-append : (p : Phase) (xs ys : List ℕ) → run p (xs ++ ys) ≡ option_and_then (λ q. run q ys)
    (run p xs)
run-append p [] ys = refl
run-append p (c ∷ xs) ys = go (λ q. run-append q xs ys) (next p c)
  where
    go : ((q : Phase) → run q (xs ++ ys) ≡ option_and_then (λ r. run r ys) (run q xs)) →
        (o : Option Phase) → option_and_then (λ q. run q (xs ++ ys)) o ≡ option_and_then
        (λ q. run q ys) (option_and_then (λ q. run q xs) o)
    go again None = refl
    go again (Some q) = again q

-- if the automaton stops in a prefix, no longer prefix is a token
stuck : (s : List ℕ) (i m : ℕ) → run phase.Start (take i s) ≡ None → i ≤ m → kind_from phase.Start
    (take m s) ≡ None
stuck s i m ran h =
    let e : i + (m - i) ≡ m = omega arith in
    ap (λ n. kind_from phase.Start (take n s)) (sym e) ∙ ap (kind_from phase.Start)
    (take-add i (m - i) s)
    ∙ ap (option_and_then ending) (run-append phase.Start (take i s) (take (m - i) (drop i s)) ∙ ap
    (option_and_then (λ q. run q (take (m - i) (drop i s)))) ran)

longest : (s : List ℕ) (k : Kind) (n : ℕ) → n ≤ length s → kind_of (take n s) ≡ Some k → run
    phase.Start (take (n + 1) s) ≡ None → IsLongest s k n
longest s k n within is stopped = record {
  within = within;
  spelled = kind_spelled k (take n s) is;
  longest = λ j m above below spelled. (
      let none : kind_of (take m s) ≡ None = ap (named (take m s))
      (stuck s (n + 1) m stopped (omega arith)) in
      let some : kind_of (take m s) ≡ Some j = spelled_kind j (take m s) spelled in
      cc);
}

-- a blank before these tokens
read_blank : (items : List ℕ) (at : ℕ) (s : List ℕ) (ts : List Token) →
    ((us : List Token) → tokens_in items (at + 1) (drop 1 s) ≡ Some us → Reads
    (at + 1 + length (drop 1 s)) [] (at + 1) (drop 1 s) us)
    → (b : Bool) → begins_blank s ≡ b → (if b then tokens_in items (at + 1) (drop 1 s) else None)
    ≡ Some ts → Reads (at + length s) [] at s ts
read_blank items at [] ts rest true e is = cc
read_blank items at (c ∷ s) ts rest true e is =
    let end : at + 1 + length s ≡ at + length (c ∷ s) = omega arith in
    subst (λ i. Reads i [] at (c ∷ s) ts) end (blank e (rest ts is))
read_blank items at s ts rest false e is = cc

-- a token before these tokens
read_token : (at n : ℕ) (s : List ℕ) (ts : List Token) → n ≤ length s → begins_comment s ≡ false →
    (k : Option Kind) (p : Option Phase) (us : Option (List Token)) → kind_of (take n s) ≡ k → run
    phase.Start (take (n + 1) s) ≡ p
    → ((vs : List Token) → us ≡ Some vs → Reads (at + n + length (drop n s)) [] (at + n) (drop n s)
    vs) → with_token at n k p us ≡ Some ts → Reads (at + length s) [] at s ts
read_token at n s ts within e (Some k) None (Some us) a b rest is =
    let end : at + n + length (drop n s) ≡ at + length s = omega (arith, length-drop n s) in
    let here = token (e, longest s k n within a b)
    (subst (λ i. Reads i [] (at + n) (drop n s) us) end (rest us refl)) in
    let same : record { kind = k; start = at; end = at + n } ∷ us ≡ ts = cc in
    subst (λ vs. Reads (at + length s) [] at s vs) same here
read_token at n s ts within e (Some k) None None a b rest is = cc
read_token at n s ts within e (Some k) (Some p) us a b rest is = cc
read_token at n s ts within e None p us a b rest is = cc

-- the same, with the tests on the text
read_tested : (at n : ℕ) (items : List ℕ) (s : List ℕ) (ts : List Token) →
    ((us : List Token) → tokens_in items (at + suc n) (drop (suc n) s) ≡ Some us → Reads
    (at + suc n + length (drop (suc n) s)) [] (at + suc n) (drop (suc n) s) us)
    → (b d : Bool) → begins_comment s ≡ b → nat_lt n (length s) ≡ d
    → (if b then None else (if d then with_token at (suc n) (kind_of (take (suc n) s))
    (run phase.Start (take (suc n + 1) s)) (tokens_in items (at + suc n) (drop (suc n) s)) else
    None)) ≡ Some ts
    → Reads (at + length s) [] at s ts
read_tested at n items s ts rest true d e f is = cc
read_tested at n items s ts rest false false e f is = cc
read_tested at n items s ts rest false true e f is =
    let within : suc n ≤ length s = ltb-true n (length s) f in
    read_token at (suc n) s ts within e (kind_of (take (suc n) s))
    (run phase.Start (take (suc n + 1) s)) (tokens_in items (at + suc n) (drop (suc n) s)) refl
    refl rest is

-- these are the tokens
pub read_in : (items : List ℕ) (at : ℕ) (s : List ℕ) (ts : List Token) → tokens_in items at s ≡ Some
    ts → Reads (at + length s) [] at s ts
read_in [] at [] ts is =
    let same : [] ≡ ts = cc in
    let end : at ≡ at + 0 = omega arith in
    subst (λ i. Reads i [] at [] ts) end (subst (λ us. Reads at [] at [] us) same stay)
read_in [] at (c ∷ s) ts is = cc
read_in (zero ∷ items) at s ts is = read_blank items at s ts (read_in items (at + 1) (drop 1 s))
    (begins_blank s) refl is
read_in (suc n ∷ items) at s ts is = read_tested at n items s ts
    (read_in items (at + suc n) (drop (suc n) s)) (begins_comment s) (nat_lt n (length s)) refl refl
    is
