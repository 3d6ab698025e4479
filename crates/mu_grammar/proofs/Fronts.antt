-- A machine of any grammar stops at the first token after which the tokens are not an input prefix.
use Rattle.mu_grammar.proofs.Common
use Common.{[], ℕ, ◌++◌, ◌+◌, ◌<◌, ◌∙◌, ◌∷◌, ◌≡◌, ◌≤◌, ◌⊎◌, advances, after, All-nil, allow, ap}
use Common.{append-nil, arith, Bool, Decides, deep, deeper, descends, done, drop, Effect, false}
use Common.{finishes, get_or, go, inl, inr, IsInputPrefix, IsToken, length, List, Machine, nat_lt}
use Common.{Next, refl, refuses, step_on, StopsAtAnyDepth, StopsByDepth, subst, sym, Symbol, syntax}
use Common.{take, take-append-drop, true}
use Rattle.std.proofs.lemmas.List.{take_more}
use Rattle.mu_grammar.specs.Prefixes.{EndsEarly}

-- with more levels allowed, a machine goes the same way, unless it was too deep
pub data Wider {S T : Type 0} : Next S T → Next S T → Type 0 where
  same : {s : Next S T} → Wider s s
  wider : {s : Next S T} → Wider deep s

wider_syntax : {S T : Type 0} {s s' : Next S T} → Wider s s' → s ≡ syntax → s' ≡ syntax
wider_syntax same is = is
wider_syntax wider is = cc

wider_go : {S T : Type 0} {s s' : Next S T} (q : S) → Wider s s' → s ≡ go q → s' ≡ go q
wider_go q same is = is
wider_go q wider is = cc

wider_done : {S T : Type 0} {s s' : Next S T} (e : T) → Wider s s' → s ≡ done e → s' ≡ done e
wider_done e same is = is
wider_done e wider is = cc

step_wider : {S T : Type 0} (l k : ℕ) (move : Effect S T) → l ≤ k → Wider (allow l move) (allow k move)
step_wider l k (advances s) h = same
step_wider l k (finishes e) h = same
step_wider l k refuses h = same
step_wider {S = S} {T = T} l k (descends d s) h = by (nat_lt d l) (nat_lt d k) refl refl
  where
    by : (b c : Bool) → nat_lt d l ≡ b → nat_lt d k ≡ c → Wider {S = S} {T = T} (deeper b s) (deeper c s)
    by false c first second = wider
    by true true first second = same
    by true false first second = absurd (over first second)
      where
        over : nat_lt d l ≡ true → nat_lt d k ≡ false → ⊥
        over first second = grind arith

module _ {S T : Type 0} (m : Machine S T) where
  -- once wrong, always wrong
  pub after-syntax : (limit : ℕ) (ts : List Symbol) → after m limit syntax ts ≡ syntax
  after-syntax limit [] = refl
  after-syntax limit (x ∷ ts) = after-syntax limit ts

  pub after-deep : (limit : ℕ) (ts : List Symbol) → after m limit deep ts ≡ deep
  after-deep limit [] = refl
  after-deep limit (x ∷ ts) = after-deep limit ts

  -- tokens in two parts
  pub after-append : (limit : ℕ) (s : Next S T) (ts us : List Symbol) → after m limit s (ts ++ us) ≡ after m limit (after m limit s ts) us
  after-append limit s [] us = refl
  after-append limit s (x ∷ ts) us = after-append limit (step_on m limit s x) ts us

  -- one more token
  pub after-next : (limit : ℕ) (s : Next S T) (ts : List Symbol) (t : ℕ) (x : Symbol) → t < length ts → get_or ts t x ≡ x → after m limit s (take (t + 1) ts) ≡ step_on m limit (after m limit s (take t ts)) x
  after-next limit s ts t x within is =
      ap (after m limit s) (take_more ts t x within) ∙ after-append limit s (take t ts) (get_or ts t x ∷ []) ∙ ap (λ y. step_on m limit (after m limit s (take t ts)) y) is

  wider_after : (l k : ℕ) (ts : List Symbol) (s s' : Next S T) → l ≤ k → Wider s s' → Wider (after m l s ts) (after m k s' ts)
  wider_after l k [] s s' h w = w
  wider_after l k (x ∷ ts) (go s) s' h same = wider_after l k ts (allow l (m.turn s x)) (allow k (m.turn s x)) h (step_wider l k (m.turn s x) h)
  wider_after l k (x ∷ ts) (done e) s' h same = wider_after l k ts syntax syntax h same
  wider_after l k (x ∷ ts) syntax s' h same = wider_after l k ts syntax syntax h same
  wider_after l k (x ∷ ts) deep s' h same = wider_after l k ts deep deep h same
  wider_after l k (x ∷ ts) deep s' h wider = wider_after l k ts deep (step_on m k s' x) h wider

module _ {S T : Type 0} (m : Machine S T) (Spells : ℕ → List Symbol → T → Type 0) (r : Decides m Spells) where
  -- the machine is still going, or has the whole tree
  abbrev pub Running : Next S T → Type 0
  Running s = ((q : S) × (s ≡ go q)) ⊎ ((e : T) × (s ≡ done e))

  -- tokens that the machine has not rejected are an input prefix
  pub going_front : (limit : ℕ) (ts : List Symbol) (q : S) → after m limit (go m.start) ts ≡ go q → IsInputPrefix Spells limit ts
  going_front limit ts q is =
      let rest = r.ends limit q in
      (rest.0, rest.1, rest.2, r.accepted limit (ts ++ rest.0) rest.2 (after-append m limit (go m.start) ts rest.0 ∙ ap (λ s. after m limit s rest.0) is ∙ rest.3))

  done_front : (limit : ℕ) (ts : List Symbol) (e : T) → after m limit (go m.start) ts ≡ done e → IsInputPrefix Spells limit ts
  done_front limit ts e is = ([], All-nil IsToken, e, r.accepted limit (ts ++ []) e (ap (after m limit (go m.start)) (append-nil ts) ∙ is))

  running_front : (limit : ℕ) (ts : List Symbol) → Running (after m limit (go m.start) ts) → IsInputPrefix Spells limit ts
  running_front limit ts (inl going) = going_front limit ts going.0 going.1
  running_front limit ts (inr ended) = done_front limit ts ended.0 ended.1

  -- tokens that the machine has rejected are not an input prefix
  refused_syntax : (limit : ℕ) (ts : List Symbol) → after m limit (go m.start) ts ≡ syntax → IsInputPrefix Spells limit ts → ⊥
  refused_syntax limit ts is front =
      let a = r.accepts limit (ts ++ front.0) front.2 front.3 in
      let b : after m limit (go m.start) (ts ++ front.0) ≡ syntax = after-append m limit (go m.start) ts front.0 ∙ ap (λ s. after m limit s front.0) is ∙ after-syntax m limit front.0 in
      cc

  refused_deep : (limit : ℕ) (ts : List Symbol) → after m limit (go m.start) ts ≡ deep → IsInputPrefix Spells limit ts → ⊥
  refused_deep limit ts is front =
      let a = r.accepts limit (ts ++ front.0) front.2 front.3 in
      let b : after m limit (go m.start) (ts ++ front.0) ≡ deep = after-append m limit (go m.start) ts front.0 ∙ ap (λ s. after m limit s front.0) is ∙ after-deep m limit front.0 in
      cc

  -- if the machine has rejected the tokens, they do not parse
  pub syntax_unspelled : (limit : ℕ) (ts : List Symbol) (t : ℕ) (e : T) → after m limit (go m.start) (take t ts) ≡ syntax → Spells limit ts e → ⊥
  syntax_unspelled limit ts t e is spells =
      let a = r.accepts limit ts e spells in
      let b : after m limit (go m.start) ts ≡ syntax = ap (after m limit (go m.start)) (sym (take-append-drop t ts)) ∙ after-append m limit (go m.start) (take t ts) (drop t ts) ∙ ap (λ s. after m limit s (drop t ts)) is ∙ after-syntax m limit (drop t ts) in
      cc

  pub deep_unspelled : (limit : ℕ) (ts : List Symbol) (t : ℕ) (e : T) → after m limit (go m.start) (take t ts) ≡ deep → Spells limit ts e → ⊥
  deep_unspelled limit ts t e is spells =
      let a = r.accepts limit ts e spells in
      let b : after m limit (go m.start) ts ≡ deep = ap (after m limit (go m.start)) (sym (take-append-drop t ts)) ∙ after-append m limit (go m.start) (take t ts) (drop t ts) ∙ ap (λ s. after m limit s (drop t ts)) is ∙ after-deep m limit (drop t ts) in
      cc

  -- an input prefix at a depth limit is an input prefix at each higher limit
  pub front_wider : (l k : ℕ) (ts : List Symbol) → l ≤ k → IsInputPrefix Spells l ts → IsInputPrefix Spells k ts
  front_wider l k ts h front =
      (front.0, front.1, front.2, r.accepted k (ts ++ front.0) front.2 (wider_done front.2 (wider_after m l k (ts ++ front.0) (go m.start) (go m.start) h same) (r.accepts l (ts ++ front.0) front.2 front.3)))

  -- a syntax fault is one at each limit
  pub syntax_for_good : (l k : ℕ) (ts : List Symbol) → after m l (go m.start) ts ≡ syntax → IsInputPrefix Spells k ts → ⊥
  syntax_for_good l k ts is front = by (order l k)
    where
      order : (a b : ℕ) → (a ≤ b) ⊎ (b ≤ a)
      order a b = grind arith

      by : (l ≤ k) ⊎ (k ≤ l) → ⊥
      by (inl h) = refused_syntax k ts (wider_syntax (wider_after m l k ts (go m.start) (go m.start) h same) is) front
      by (inr h) = refused_syntax l ts is (front_wider k l ts h front)

  -- tokens that are too deep at a limit are an input prefix at a higher limit
  pub deep_front : (l : ℕ) (ts : List Symbol) (q : S) (x : Symbol) → after m l (go m.start) ts ≡ go q → allow l (m.turn q x) ≡ deep → (k : ℕ) × IsInputPrefix Spells k (ts ++ x ∷ [])
  deep_front l ts q x is stops = by (m.turn q x) refl stops
    where
      enough : (d : ℕ) → nat_lt d (l + d + 1) ≡ true
      enough d = grind arith

      by : (move : Effect S T) → m.turn q x ≡ move → allow l move ≡ deep → (k : ℕ) × IsInputPrefix Spells k (ts ++ x ∷ [])
      by (advances p) move stops = cc
      by (finishes e) move stops = cc
      by refuses move stops = cc
      by (descends d p) move stops = (
        l + d + 1,
        going_front (l + d + 1) (ts ++ x ∷ []) p (
            after-append m (l + d + 1) (go m.start) ts (x ∷ [])
            ∙ ap (λ s. step_on m (l + d + 1) s x) (wider_go q (wider_after m l (l + d + 1) ts (go m.start) (go m.start) (omega arith) same) is)
            ∙ ap (allow (l + d + 1)) move
            ∙ ap (λ b. deeper b p) (enough d)),
      )

  -- the machine stops at every depth limit
  pub stops_for_good : (limit : ℕ) (ts : List Symbol) (t : ℕ) → t < length ts → Running (after m limit (go m.start) (take t ts)) → after m limit (go m.start) (take (t + 1) ts) ≡ syntax → StopsAtAnyDepth Spells limit ts t
  stops_for_good limit ts t within running stopped = record {
    stops = record { within = within; before = running_front limit (take t ts) running; there = refused_syntax limit (take (t + 1) ts) stopped };
    deeper = λ more. syntax_for_good limit more (take (t + 1) ts) stopped;
  }

  -- the machine stops because of the depth limit
  pub stops_deep : (limit : ℕ) (ts : List Symbol) (t : ℕ) (q : S) (x : Symbol) → t < length ts → get_or ts t x ≡ x → after m limit (go m.start) (take t ts) ≡ go q → step_on m limit (go q) x ≡ deep → StopsByDepth Spells limit ts t
  stops_deep limit ts t q x within is going stopped =
      let there : after m limit (go m.start) (take (t + 1) ts) ≡ deep = after-next m limit (go m.start) ts t x within is ∙ ap (λ s. step_on m limit s x) going ∙ stopped in
      let found = deep_front limit (take t ts) q x going stopped in
      record {
        stops = record { within = within; before = going_front limit (take t ts) q going; there = refused_deep limit (take (t + 1) ts) there };
        deeper = (found.0, subst (IsInputPrefix Spells found.0) (sym (take_more ts t x within ∙ ap (λ y. take t ts ++ y ∷ []) is)) found.1);
      }

  -- the tokens end before the tree does
  pub ends_early : (limit : ℕ) (ts : List Symbol) (q : S) → after m limit (go m.start) ts ≡ go q → EndsEarly Spells limit ts
  ends_early limit ts q going = record {
    front = going_front limit ts q going;
    unfinished = λ e spells. (let a = r.accepts limit ts e spells in cc);
  }

  -- tokens parse as at most one tree
  pub unique : (limit : ℕ) (ts : List Symbol) (e f : T) → Spells limit ts e → Spells limit ts f → e ≡ f
  unique limit ts e f first second =
      let a = r.accepts limit ts e first in
      let b = r.accepts limit ts f second in
      cc
