-- Any tokens parse as a tree or have one fault.
use Rattle.mu_grammar.proofs.Common
use Common.{[], ℕ, ◌++◌, ◌+◌, ◌<◌, ◌∙◌, ◌∷◌, ◌≡◌, ◌≤◌, ◌⊎◌, after, All, ap, append-nil}
use Common.{append_assoc, arith, Decides, deep, done, drop, get_or, go, inl, inr, IsInputPrefix}
use Common.{IsToken, length, List, Machine, Next, ParseErr, refl, step_on, StopsAtAnyDepth}
use Common.{StopsByDepth, subst, suc, sym, Symbol, syntax, take, take-append-drop, take_all, zero}
use Rattle.std.proofs.lemmas.List.{take-take}
use Rattle.std.proofs.lemmas.List.Elements.{All-append, All-drop, All-take}
use Rattle.mu_grammar.specs.Prefixes.{StopsAt, IsReason, ParseOrFail, ParseFaultsAreUnique}
use Rattle.mu_grammar.proofs.Fronts.{after-next, stops_for_good, stops_deep, ends_early}
use Rattle.mu_grammar.specs.declared.parse_fault.ParseErr.TheVariants as errors

neither : (a b : ℕ) → (a < b → ⊥) → (b < a → ⊥) → a ≡ b
neither a b less more = grind arith

-- the n-th element of a list that is long enough
at : {A : Type 0} (xs : List A) (n : ℕ) → n < length xs → (x : A) × (get_or xs n x ≡ x)
at [] n h = absurd (omega arith)
at (x ∷ xs) zero h = (x, refl)
at (x ∷ xs) (suc n) h = at xs n (omega arith)

module _ {S T : Type 0} (m : Machine S T) (Spells : ℕ → List Symbol → T → Type 0) (r : Decides m Spells) (limit : ℕ) (ts : List Symbol) where
  -- the state of the machine after n tokens, or why the tokens are not an input prefix
  data Reached (n : ℕ) : Type 0 where
    going : (q : S) → after m limit (go m.start) (take n ts) ≡ go q → Reached n
    whole : (e : T) → after m limit (go m.start) (take n ts) ≡ done e → Reached n
    stopped : (fault : ParseErr) → IsReason Spells limit ts fault → Reached n

  -- the state after one more token
  one_more : (n : ℕ) → n < length ts → Reached n → Reached (n + 1)
  one_more n h (stopped fault is) = stopped fault is
  one_more n h (whole e is) =
      let x = at ts n h in
      let there : after m limit (go m.start) (take (n + 1) ts) ≡ syntax = after-next m limit (go m.start) ts n x.0 h x.1 ∙ ap (λ s. step_on m limit s x.0) is in
      stopped (errors.Syntax n) ((λ e. cc), inl (stops_for_good m Spells r limit ts n h (inr (e, is)) there))
  one_more n h (going q is) = by (step_on m limit (go q) x.0) refl
    where
      x : (y : Symbol) × (get_or ts n y ≡ y)
      x = at ts n h

      there : after m limit (go m.start) (take (n + 1) ts) ≡ step_on m limit (go q) x.0
      there = after-next m limit (go m.start) ts n x.0 h x.1 ∙ ap (λ s. step_on m limit s x.0) is

      by : (next : Next S T) → step_on m limit (go q) x.0 ≡ next → Reached (n + 1)
      by (go p) next = going p (there ∙ next)
      by (done e) next = whole e (there ∙ next)
      by syntax next = stopped (errors.Syntax n) ((λ e. cc), inl (stops_for_good m Spells r limit ts n h (inl (q, is)) (there ∙ next)))
      by deep next = stopped (errors.Deep n) ((λ e. cc), stops_deep m Spells r limit ts n q x.0 h x.1 is next)

  reached : (n : ℕ) → n ≤ length ts → Reached n
  reached zero h = going m.start refl
  reached (suc n) h = subst Reached {x = n + 1} {y = suc n} (omega arith) (one_more n (omega arith) (reached n (omega arith)))

  all_read : (s : Next S T) → after m limit (go m.start) (take (length ts) ts) ≡ s → after m limit (go m.start) ts ≡ s
  all_read s is = ap (after m limit (go m.start)) (sym (take_all (length ts) ts (omega arith))) ∙ is

  verdict : Reached (length ts) → ((e : T) × Spells limit ts e) ⊎ ((fault : ParseErr) × IsReason Spells limit ts fault)
  verdict (going q is) = inr (errors.Syntax (length ts), ((λ e. cc), inr (refl, ends_early m Spells r limit ts q (all_read (go q) is))))
  verdict (whole e is) = inl (e, r.accepted limit ts e (all_read (done e) is))
  verdict (stopped fault is) = inr (fault, is)

-- any tokens parse as a tree or have a fault
pub judged : {S T : Type 0} (m : Machine S T) (Spells : ℕ → List Symbol → T → Type 0) → Decides m Spells → ParseOrFail Spells
judged m Spells r limit ts = verdict m Spells r limit ts (reached m Spells r limit ts (length ts) (omega arith))

module _ {T : Type 0} (Spells : ℕ → List Symbol → T → Type 0) (limit : ℕ) where
  -- a prefix of an input prefix is an input prefix
  front_of_front : (ts us : List Symbol) → All IsToken us → IsInputPrefix Spells limit (ts ++ us) → IsInputPrefix Spells limit ts
  front_of_front ts us tokens front =
      (us ++ front.0, All-append IsToken us front.0 tokens front.1, front.2, subst (λ l. Spells limit l front.2) (append_assoc ts us front.0) front.3)

  -- the first tokens of an input prefix are an input prefix
  fewer : (ts : List Symbol) (n k : ℕ) → n ≤ k → All IsToken ts → IsInputPrefix Spells limit (take k ts) → IsInputPrefix Spells limit (take n ts)
  fewer ts n k h tokens front =
      subst (IsInputPrefix Spells limit) (take-take n k ts h)
      (front_of_front (take n (take k ts)) (drop n (take k ts)) (All-drop IsToken n (take k ts) (All-take IsToken k ts tokens))
      (subst (IsInputPrefix Spells limit) (sym (take-append-drop n (take k ts))) front))

  whole_front : (ts : List Symbol) (e : T) → Spells limit ts e → IsInputPrefix Spells limit ts
  whole_front ts e spells = ([], λ k d h. absurd (omega arith), e, subst (λ l. Spells limit l e) (sym (append-nil ts)) spells)

  -- if parsing stops at a token, the tokens are not an input prefix, and do not parse
  no_front : (ts : List Symbol) (t : ℕ) → All IsToken ts → StopsAt Spells limit ts t → IsInputPrefix Spells limit ts → ⊥
  no_front ts t tokens stops front =
      stops.there (fewer ts (t + 1) (length ts) (let h = stops.within in omega arith) tokens (subst (IsInputPrefix Spells limit) (sym (take_all (length ts) ts (omega arith))) front))

  not_later : (ts : List Symbol) (s t : ℕ) → All IsToken ts → StopsAt Spells limit ts s → StopsAt Spells limit ts t → s < t → ⊥
  not_later ts s t tokens one other h = one.there (fewer ts (s + 1) t (omega arith) tokens other.before)

  -- parsing stops at exactly one token
  stops_once : (ts : List Symbol) (s t : ℕ) → All IsToken ts → StopsAt Spells limit ts s → StopsAt Spells limit ts t → s ≡ t
  stops_once ts s t tokens one other = neither s t (not_later ts s t tokens one other) (not_later ts t s tokens other one)

  -- parsing does not stop both at every depth limit and because of the depth limit
  not_both : (ts : List Symbol) (s t : ℕ) → All IsToken ts → StopsAtAnyDepth Spells limit ts s → StopsByDepth Spells limit ts t → ⊥
  not_both ts s t tokens one other =
      one.deeper other.deeper.0 (subst (λ n. IsInputPrefix Spells other.deeper.0 (take (n + 1) ts)) (sym (stops_once ts s t tokens one.stops other.stops)) other.deeper.1)

  -- there is at most one fault
  one_fault : (ts : List Symbol) (fault other : ParseErr) → All IsToken ts → IsReason Spells limit ts fault → IsReason Spells limit ts other → fault ≡ other
  one_fault ts errors.Memory other tokens one two = absurd (one.0 refl)
  one_fault ts fault errors.Memory tokens one two = absurd (two.0 refl)
  one_fault ts (errors.Deep s) (errors.Deep t) tokens (_, one) (_, two) = ap errors.Deep (stops_once ts s t tokens one.stops two.stops)
  one_fault ts (errors.Deep s) (errors.Syntax t) tokens (_, one) (_, inl two) = absurd (not_both ts t s tokens two one)
  one_fault ts (errors.Deep s) (errors.Syntax t) tokens (_, one) (_, inr two) = absurd (no_front ts s tokens one.stops two.1.front)
  one_fault ts (errors.Syntax s) (errors.Deep t) tokens (_, inl one) (_, two) = absurd (not_both ts s t tokens one two)
  one_fault ts (errors.Syntax s) (errors.Deep t) tokens (_, inr one) (_, two) = absurd (no_front ts t tokens two.stops one.1.front)
  one_fault ts (errors.Syntax s) (errors.Syntax t) tokens (_, inl one) (_, inl two) = ap errors.Syntax (stops_once ts s t tokens one.stops two.stops)
  one_fault ts (errors.Syntax s) (errors.Syntax t) tokens (_, inl one) (_, inr two) = absurd (no_front ts s tokens one.stops two.1.front)
  one_fault ts (errors.Syntax s) (errors.Syntax t) tokens (_, inr one) (_, inl two) = absurd (no_front ts t tokens two.stops one.1.front)
  one_fault ts (errors.Syntax s) (errors.Syntax t) tokens (_, inr one) (_, inr two) = ap errors.Syntax (one.0 ∙ sym two.0)

  -- tokens that parse as a tree have no fault
  no_fault : (ts : List Symbol) (fault : ParseErr) (e : T) → All IsToken ts → IsReason Spells limit ts fault → Spells limit ts e → ⊥
  no_fault ts errors.Memory e tokens one spells = one.0 refl
  no_fault ts (errors.Deep t) e tokens (_, one) spells = no_front ts t tokens one.stops (whole_front ts e spells)
  no_fault ts (errors.Syntax t) e tokens (_, inl one) spells = no_front ts t tokens one.stops (whole_front ts e spells)
  no_fault ts (errors.Syntax t) e tokens (_, inr one) spells = one.1.unfinished e spells

pub judged_once : {T : Type 0} (Spells : ℕ → List Symbol → T → Type 0) → ParseFaultsAreUnique Spells
judged_once Spells = record {
  one_reason = λ limit ts fault other. one_fault Spells limit ts fault other;
  none_if_spelled = λ limit ts fault e. no_fault Spells limit ts fault e;
}
