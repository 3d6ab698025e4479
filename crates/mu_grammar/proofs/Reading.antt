-- The steps of a machine's loop over the tokens, whatever the machine reads.
use Rattle.mu_grammar.proofs.Common
use Common.{[], ℕ, ◌+◌, ◌<◌, ◌∙◌, ◌∷◌, ◌≡◌, ◌≤◌, ◌⊎◌, after, ap, arith, Decides, deep, done, Err}
use Common.{get_or, go, IfOk, inl, inr, length, List, Machine, map, Next, Ok, ParseErr, refl}
use Common.{Result, step_on, subst, suc, sym, Symbol, symbol_of, symbols, syntax, take, take_all}
use Common.{Token, zero}
use Rattle.std.proofs.Common.{IfErr}
use Rattle.mu_grammar.specs.Prefixes.{IsFault, Gives}
use Rattle.mu_grammar.proofs.Fronts.{after-next, stops_for_good, stops_deep, syntax_unspelled}
use Rattle.mu_grammar.proofs.Fronts.{deep_unspelled, ends_early}
use Rattle.mu_lexer.specs.declared.token.Kind.TheVariants as kinds
use Rattle.mu_grammar.specs.declared.parse_fault.ParseErr.TheVariants as errors

-- a token for places past the end
abbrev pub blank : Token
blank = record { kind = kinds.Number; start = 0; end = 0 }

get_or_map : {A B : Type 0} (f : A → B) (xs : List A) (i : ℕ) (d : A) (y : B) → i < length xs → get_or (map f xs) i y ≡ f (get_or xs i d)
get_or_map f [] i d y h = absurd (omega arith)
get_or_map f (x ∷ xs) zero d y h = refl
get_or_map f (x ∷ xs) (suc i) d y h = get_or_map f xs i d y (omega arith)

length_map : {A B : Type 0} (f : A → B) (xs : List A) → length (map f xs) ≡ length xs
length_map f [] = refl
length_map f (x ∷ xs) = ap suc (length_map f xs)

-- the result is the tree that the tokens parse as, or the reason why they do not parse
pub record Answers {C T : Type 0} (view : C → T) (Spells : ℕ → List Symbol → T → Type 0) (limit : ℕ) (ts : List Symbol) (result : Result C ParseErr) : Type 0 where
  pub spelled : IfOk result (λ c. Spells limit ts (view c))
  pub only : (e : T) → Spells limit ts e → Gives view e result
  pub fault : IfErr result (IsFault Spells limit ts)

module _ {S T : Type 0} (m : Machine S T) (Spells : ℕ → List Symbol → T → Type 0) (r : Decides m Spells) (C : Type 0) (view : C → T) (limit : ℕ) (source : List ℕ) (tokens : List Token) where
  -- the state of the machine after i tokens
  abbrev pub At : ℕ → Next S T → Type 0
  At i s = after m limit (go m.start) (take i (symbols source tokens)) ≡ s

  within_symbols : (i : ℕ) → i < length tokens → i < length (symbols source tokens)
  within_symbols i h = let e = length_map (symbol_of source) tokens in omega arith

  -- one more token
  pub advanced : (i : ℕ) (q : S) (n : Next S T) → i < length tokens → At i (go q) → n ≡ step_on m limit (go q) (symbol_of source (get_or tokens i blank)) → At (i + 1) n
  advanced i q n within so_far is =
      after-next m limit (go m.start) (symbols source tokens) i (symbol_of source (get_or tokens i blank)) (within_symbols i within) (get_or_map (symbol_of source) tokens i blank (symbol_of source (get_or tokens i blank)) within)
      ∙ ap (λ s. step_on m limit s (symbol_of source (get_or tokens i blank))) so_far ∙ sym is

  -- the token is wrong
  pub wrong_here : (i : ℕ) (q : S) → i < length tokens → At i (go q) → syntax ≡ step_on m limit (go q) (symbol_of source (get_or tokens i blank)) → Answers view Spells limit (symbols source tokens) (Err (errors.Syntax i))
  wrong_here i q within so_far is =
      let there = advanced i q syntax within so_far is in
      record {
        spelled = tt;
        only = λ e spells. absurd (syntax_unspelled m Spells r limit (symbols source tokens) (i + 1) e there spells);
        fault = inl (stops_for_good m Spells r limit (symbols source tokens) i (within_symbols i within) (inl (q, so_far)) there);
      }

  -- the token is too deep
  pub deep_here : (i : ℕ) (q : S) → i < length tokens → At i (go q) → deep ≡ step_on m limit (go q) (symbol_of source (get_or tokens i blank)) → Answers view Spells limit (symbols source tokens) (Err (errors.Deep i))
  deep_here i q within so_far is =
      let there = advanced i q deep within so_far is in
      record {
        spelled = tt;
        only = λ e spells. absurd (deep_unspelled m Spells r limit (symbols source tokens) (i + 1) e there spells);
        fault = stops_deep m Spells r limit (symbols source tokens) i q (symbol_of source (get_or tokens i blank)) (within_symbols i within) (get_or_map (symbol_of source) tokens i blank (symbol_of source (get_or tokens i blank)) within) so_far (sym is);
      }

  -- all tokens are read
  all_read : (i : ℕ) (s : Next S T) → length tokens ≤ i → At i s → after m limit (go m.start) (symbols source tokens) ≡ s
  all_read i s h so_far = ap (after m limit (go m.start)) (sym (take_all i (symbols source tokens) (let e = length_map (symbol_of source) tokens in omega arith))) ∙ so_far

  -- the tokens end too early
  pub cut_here : (i : ℕ) (q : S) → length tokens ≤ i → At i (go q) → Answers view Spells limit (symbols source tokens) (Err (errors.Syntax (length tokens)))
  cut_here i q h so_far =
      let early = ends_early m Spells r limit (symbols source tokens) q (all_read i (go q) h so_far) in
      record {
        spelled = tt;
        only = λ e spells. absurd (early.unfinished e spells);
        fault = inr (sym (length_map (symbol_of source) tokens), early);
      }

  -- the machine has the whole tree before the last token
  past_here : (i : ℕ) (e : T) → i < length tokens → At i (done e) → Answers view Spells limit (symbols source tokens) (Err (errors.Syntax i))
  past_here i e within so_far =
      let there : At (i + 1) syntax =
      after-next m limit (go m.start) (symbols source tokens) i (symbol_of source (get_or tokens i blank)) (within_symbols i within) (get_or_map (symbol_of source) tokens i blank (symbol_of source (get_or tokens i blank)) within)
      ∙ ap (λ s. step_on m limit s (symbol_of source (get_or tokens i blank))) so_far in
      record {
        spelled = tt;
        only = λ f spells. absurd (syntax_unspelled m Spells r limit (symbols source tokens) (i + 1) f there spells);
        fault = inl (stops_for_good m Spells r limit (symbols source tokens) i (within_symbols i within) (inr (e, so_far)) there);
      }

  -- the machine has the whole tree, and with it the answer if all tokens are read
  pub finishes_here : (i : ℕ) (tree : C) (result : Result C ParseErr) → At i (done (view tree)) → (i < length tokens → result ≡ Err (errors.Syntax i)) → (length tokens ≤ i → result ≡ Ok tree) → Answers view Spells limit (symbols source tokens) result
  finishes_here i tree result so_far past end = by (order i (length tokens))
    where
      order : (a b : ℕ) → (a < b) ⊎ (b ≤ a)
      order a b = grind arith

      by : (i < length tokens) ⊎ (length tokens ≤ i) → Answers view Spells limit (symbols source tokens) result
      by (inl h) = subst (Answers view Spells limit (symbols source tokens)) (sym (past h)) (past_here i (view tree) h so_far)
      by (inr h) =
          let read = all_read i (done (view tree)) h so_far in
          subst (Answers view Spells limit (symbols source tokens)) (sym (end h)) (record {
            spelled = r.accepted limit (symbols source tokens) (view tree) read;
            only = λ e spells. (let a = r.accepts limit (symbols source tokens) e spells in cc);
            fault = tt;
          })
