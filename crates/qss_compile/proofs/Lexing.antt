-- Each source has tokens, or one first fault.
use Rattle.qss_compile.proofs.Common
use Common.{[], ℕ, ◌++◌, ◌+◌, ◌<◌, ◌∙◌, ◌∷◌, ◌≡◌, ◌≢◌, ◌≤◌, ◌⊎◌, ap, AreTokens, arith, Bool, drop}
use Common.{false, inl, inr, IsFirstFault, length, LexErr, List, None, Option, refl, Some, subst}
use Common.{suc, take, Token, true, zero}
use Rattle.std.proofs.Common.{length-drop}
use Rattle.mu_lexer.specs.Automaton.{kind_from, BestUpTo, better, named, word_among, kind_named}
use Rattle.mu_lexer.specs.Tokens.{begins_blank, begins_quote, begins_comment, comment_length}
use Rattle.mu_lexer.specs.Tokens.{BeginsWith, StopsReading}
use Rattle.mu_lexer.specs.declared.lexer.NextItem.{NextItem}
use Rattle.mu_lexer.specs.declared.token.Kind.{Kind}
use Rattle.mu_lexer.specs.declared.token.TheConstants.{WORDS}
use Rattle.mu_lexer.proofs.Places.{found_longest, found_none, size_within}
use Rattle.mu_lexer.proofs.Progress.{Progress, start, over_blank, over_comment, over_token}
use Rattle.mu_lexer.proofs.Progress.{finished, fault_here, no_tokens, no_error, only_error}
use Rattle.mu_lexer.proofs.Progress.{error_at}
use Rattle.mu_lexer.specs.declared.lexer.NextItem.TheVariants as standing
use Rattle.mu_lexer.specs.declared.lexer.Phase.TheVariants as phase
use Rattle.mu_lexer.specs.declared.token.Kind.TheVariants as kind

-- a prefix has this length or is shorter
at_most : (i m : ℕ) → m ≤ i + 1 → (m ≤ i) ⊎ (m ≡ i + 1)
at_most i m h = grind arith

next_best : (s : List ℕ) (i : ℕ) (best : Option (Kind × ℕ)) (o : Option Kind) → kind_from phase.Start (take (i + 1) s) ≡ o → BestUpTo s i best → BestUpTo s (i + 1) (better best o (i + 1))
next_best s i best (Some k) is before = record { within = omega arith; is_token = is; longest = λ m above h. absurd (omega arith) }
next_best s i None None is before = λ m h. elim (at_most i m h) [ inl lower ↦ before m lower | inr here ↦ ap (λ n. kind_from phase.Start (take n s)) here ∙ is ]
next_best s i (Some found) None is before = record {
  within = omega arith;
  is_token = before.is_token;
  longest = λ m above h. elim (at_most i m h) [ inl lower ↦ before.longest m above lower | inr here ↦ ap (λ n. kind_from phase.Start (take n s)) here ∙ is ];
}

no_front : (s : List ℕ) (m : ℕ) → m ≤ 0 → kind_from phase.Start (take m s) ≡ None
no_front s zero h = refl
no_front s (suc m) h = absurd (omega arith)

-- among the prefixes up to a length, there is a longest token, or no token
best_front : (s : List ℕ) (i : ℕ) → (best : Option (Kind × ℕ)) × BestUpTo s i best
best_front s zero = (None, no_front s)
best_front s (suc i) =
    let before = best_front s i in
    let o = kind_from phase.Start (take (i + 1) s) in
    (better before.0 o (i + 1), subst (λ (n : ℕ). BestUpTo s n (better before.0 o (i + 1))) (one_more i) (next_best s i before.0 o refl before.1))
  where
    one_more : (n : ℕ) → n + 1 ≡ suc n
    one_more n = omega arith

-- the kind of a name is a word or an identifier
named_some : (text : List ℕ) (j : Kind) → (k : Kind) × (named text (Some j) ≡ Some k)
named_some text kind.Number = (kind.Number, refl)
named_some text kind.Str = (kind.Str, refl)
named_some text kind.Ident = (kind_named (word_among WORDS text), refl)
named_some text (kind.Word w) = (kind.Word w, refl)
named_some text (kind.Mark m) = (kind.Mark m, refl)

-- something stands at each place before the end
no_comment_at : (s : List ℕ) → s ≢ [] → begins_blank s ≡ false → begins_comment s ≡ false → (b : Bool) → begins_quote s ≡ b → (best : Option (Kind × ℕ)) → BestUpTo s (length s) best → (p : NextItem) × BeginsWith s p
no_comment_at s some plain none b quote (Some found) best =
    let k = named_some (take found.1 s) found.0 in (standing.Token k.0 found.1, (none, found_longest s found.0 k.0 found.1 k.1 best))
no_comment_at s some plain none true quote None best = (standing.OpenString, (quote, found_none s best))
no_comment_at s some plain none false quote None best = (standing.NoToken, (some, plain, none, quote, found_none s best))

comment_at : (s : List ℕ) → begins_comment s ≡ true → (o : Option ℕ) → comment_length s ≡ o → (p : NextItem) × BeginsWith s p
comment_at s begins None is = (standing.OpenComment, (begins, is))
comment_at s begins (Some n) is = (standing.Comment n, is)

by_comment : (s : List ℕ) → s ≢ [] → begins_blank s ≡ false → (b : Bool) → begins_comment s ≡ b → (p : NextItem) × BeginsWith s p
by_comment s some plain true begins = comment_at s begins (comment_length s) refl
by_comment s some plain false none = let best = best_front s (length s) in no_comment_at s some plain none (begins_quote s) refl best.0 best.1

by_blank : (s : List ℕ) → s ≢ [] → (b : Bool) → begins_blank s ≡ b → (p : NextItem) × BeginsWith s p
by_blank s some true blank = (standing.Blank, blank)
by_blank s some false plain = by_comment s some plain (begins_comment s) refl

stands_at : (s : List ℕ) → s ≢ [] → (p : NextItem) × BeginsWith s p
stands_at s some = by_blank s some (begins_blank s) refl

-- the source has tokens and no fault, or one first fault and no tokens
abbrev pub Lexed : List ℕ → Type 0
Lexed bytes =
    ((tokens : List Token) × AreTokens bytes tokens × ((e : LexErr) → IsFirstFault bytes e → ⊥))
    ⊎ ((fault : LexErr) × IsFirstFault bytes fault × ((e : LexErr) → IsFirstFault bytes e → fault ≡ e) × ((ts : List Token) → AreTokens bytes ts → ⊥))

not_empty : {A : Type 0} (s : List A) → 0 < length s → s ≢ []
not_empty [] h e = absurd (omega arith)
not_empty (x ∷ s) h e = cc

ended : (bytes : List ℕ) (at : ℕ) (tokens : List Token) → Progress bytes at tokens → length bytes ≤ at → Lexed bytes
ended bytes at tokens so_far h = inl (tokens, finished bytes at tokens so_far h, no_error bytes at tokens so_far h)

faulty : (bytes : List ℕ) (at : ℕ) (tokens : List Token) (p : NextItem) → StopsReading p → Progress bytes at tokens → BeginsWith (drop at bytes) p → IsFirstFault bytes (error_at p at) → Lexed bytes
faulty bytes at tokens p stops so_far is first =
    inr (error_at p at, first, only_error bytes at tokens p so_far stops is, λ ts all. no_tokens bytes at tokens ts p so_far stops is all)

order : (a b : ℕ) → (b ≤ a) ⊎ (a < b)
order a b = grind arith

-- lexing from a place with at most `left` bytes left reaches the end or a fault
lexed_from : (left : ℕ) (bytes : List ℕ) (at : ℕ) (tokens : List Token) → length bytes ≤ at + left → Progress bytes at tokens → Lexed bytes
lexed_from zero bytes at tokens h so_far = ended bytes at tokens so_far (omega arith)
lexed_from (suc left) bytes at tokens h so_far = by (λ next more. lexed_from left bytes next more) (order at (length bytes))
  where
    on : ((next : ℕ) (more : List Token) → length bytes ≤ next + left → Progress bytes next more → Lexed bytes) → (p : NextItem) → BeginsWith (drop at bytes) p → Lexed bytes
    on go_on standing.Blank is = go_on (at + 1) tokens (omega arith) (over_blank bytes at tokens so_far is)
    on go_on (standing.Comment n) is =
        let some = (size_within (drop at bytes) (standing.Comment n) is).0 in
        go_on (at + n) tokens (omega arith) (over_comment bytes at n tokens so_far is)
    on go_on (standing.Token k n) is =
        let some = (size_within (drop at bytes) (standing.Token k n) is).0 in
        go_on (at + n) (tokens ++ record { kind = k; start = at; end = at + n } ∷ []) (omega arith) (over_token bytes at n k tokens so_far is)
    on go_on standing.OpenComment is = faulty bytes at tokens standing.OpenComment tt so_far is (fault_here bytes at tokens standing.OpenComment so_far is)
    on go_on standing.OpenString is = faulty bytes at tokens standing.OpenString tt so_far is (fault_here bytes at tokens standing.OpenString so_far is)
    on go_on standing.NoToken is = faulty bytes at tokens standing.NoToken tt so_far is (fault_here bytes at tokens standing.NoToken so_far is)

    by : ((next : ℕ) (more : List Token) → length bytes ≤ next + left → Progress bytes next more → Lexed bytes) → (length bytes ≤ at) ⊎ (at < length bytes) → Lexed bytes
    by go_on (inl end) = ended bytes at tokens so_far end
    by go_on (inr more) =
        let some : drop at bytes ≢ [] = not_empty (drop at bytes) (omega (arith, length-drop at bytes)) in
        let p = stands_at (drop at bytes) some in
        on go_on p.0 p.1

pub lexed : (bytes : List ℕ) → Lexed bytes
lexed bytes = lexed_from (length bytes) bytes 0 [] (omega arith) (start bytes)
