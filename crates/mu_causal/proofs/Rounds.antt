-- Walks along needs.
use Rattle.mu_causal.proofs.Common
use Common.{[], ℕ, ◌++◌, ◌+◌, ◌<◌, ◌∙◌, ◌∷◌, ◌≡◌, ◌≢◌, ◌≤◌, append-nil, arith, Bool, cases_eq}
use Common.{cases_lt, Chain, Contains, Contains-append_cases, Contains-append_left}
use Common.{Contains-append_right, Contains-get_or, Contains-push, drop, false, get_or}
use Common.{get_or-set_at, get_or-set_other, get_or_default, inl, inr, IsCycle, IsMarked, IsTurned}
use Common.{IsUnmarked, length, length-take-le, List, refl, set, subst, suc, sym, take, true, zero}
use Rattle.std.proofs.Common.{◌-◌, length-drop, length-append}
use Rattle.std.specs.Prelude.{AllPairs}
use Rattle.std.proofs.lemmas.List.{take-append-drop, get_or-take, get_or-drop, get_or_append_left}
use Rattle.std.proofs.lemmas.List.{get_or-append_right}
use Rattle.std.proofs.lemmas.List.Quantifiers.{all_pairs_push}
use Rattle.std.proofs.lemmas.Grind.{common_steps}
use Rattle.mu_causal.proofs.Listing.{not_both}

-- each number of the walk needs the next one, and the last one needs v
abbrev pub Leads : (ℕ → ℕ → Type 0) → List ℕ → ℕ → Type 0
Leads needs [] v = Unit {0}
Leads needs (p ∷ ps) v = Chain needs p ps v

-- each number needs the next one, and the last one needs the first
abbrev pub IsRound : (ℕ → ℕ → Type 0) → List ℕ → Type 0
IsRound needs [] = ⊥
IsRound needs (v ∷ vs) = Chain needs v vs v

-- no number is repeated
abbrev pub AreDistinct : List ℕ → Type 0
AreDistinct xs = AllPairs (λ a b. a ≢ b) xs

-- two chains that meet are one
Chain-append : (needs : ℕ → ℕ → Type 0) (v : ℕ) (vs : List ℕ) (w : ℕ) (ws : List ℕ) (end : ℕ) → Chain needs v vs w → Chain needs w ws end → Chain needs v (vs ++ w ∷ ws) end
Chain-append needs v [] w ws end a b = (a, b)
Chain-append needs v (x ∷ xs) w ws end a b = (a.0, Chain-append needs x xs w ws end a.1 b)

-- and one chain is two
Chain-before : (needs : ℕ → ℕ → Type 0) (v : ℕ) (vs : List ℕ) (w : ℕ) (ws : List ℕ) (end : ℕ) → Chain needs v (vs ++ w ∷ ws) end → Chain needs v vs w
Chain-before needs v [] w ws end c = c.0
Chain-before needs v (x ∷ xs) w ws end c = (c.0, Chain-before needs x xs w ws end c.1)

Chain-after : (needs : ℕ → ℕ → Type 0) (v : ℕ) (vs : List ℕ) (w : ℕ) (ws : List ℕ) (end : ℕ) → Chain needs v (vs ++ w ∷ ws) end → Chain needs w ws end
Chain-after needs v [] w ws end c = c.1
Chain-after needs v (x ∷ xs) w ws end c = Chain-after needs x xs w ws end c.1

-- one more step
pub Leads-push : (needs : ℕ → ℕ → Type 0) (path : List ℕ) (v w : ℕ) → Leads needs path v → needs v w → Leads needs (path ++ v ∷ []) w
Leads-push needs [] v w l n = n
Leads-push needs (p ∷ ps) v w l n = Chain-append needs p ps v [] w l n

-- a walk that leads back to its beginning is a round
pub round_from : (needs : ℕ → ℕ → Type 0) (path : List ℕ) (v from : ℕ) → Leads needs path v → from < length path → get_or path from 0 ≡ v → IsRound needs (drop from path)
round_from needs [] v from l h e = absurd (omega arith)
round_from needs (p ∷ ps) v zero l h e = subst (Chain needs p ps) (sym e) l
round_from needs (p ∷ []) v (suc from) l h e = absurd (omega arith)
round_from needs (p ∷ q ∷ qs) v (suc from) l h e = round_from needs (q ∷ qs) v from l.1 (omega arith) e

-- a round begun at another place
round_turned : (needs : ℕ → ℕ → Type 0) (before after : List ℕ) → 0 < length after → IsRound needs (before ++ after) → IsRound needs (after ++ before)
round_turned needs before [] h r = absurd (omega arith)
round_turned needs [] (b ∷ bs) h r = subst (λ (xs : List ℕ). Chain needs b xs b) (sym (append-nil bs)) r
round_turned needs (a ∷ as') (b ∷ bs) h r =
    Chain-append needs b bs a as' b (Chain-after needs a as' b bs a r) (Chain-before needs a as' b bs a r)

-- the rest of a list without repetitions has none
distinct_rest : (x : ℕ) (xs : List ℕ) → AreDistinct (x ∷ xs) → AreDistinct xs
distinct_rest x xs d i j e lt h = d (suc i) (suc j) e (omega arith) (omega arith)

-- a round without repetitions whose first number is its least is a cycle
cycle_if : (needs : ℕ → ℕ → Type 0) (vars : List ℕ) → IsRound needs vars → AreDistinct vars → ((w : ℕ) → Contains vars w → get_or vars 0 0 ≤ w) → IsCycle needs vars
cycle_if needs [] r d h = r
cycle_if needs (v ∷ vs) r d h = (
  r,
  λ w c.
      let found : get_or vs c.0 0 ≡ w = get_or_default vs c.0 0 w c.1 ∙ c.2 in
      let differs : v ≢ get_or vs c.0 0 = d 0 (suc c.0) 0 (omega arith) (omega (arith, c.1)) in
      let other : v ≢ w = λ e. differs (e ∙ sym found) in
      let low : v ≤ w = h w (suc c.0, omega (arith, c.1), c.2) in
      omega arith,
  distinct_rest v vs d,
)

-- the first number of what is left
first_left : (round : List ℕ) (place : ℕ) → place < length round → get_or (drop place round ++ take place round) 0 0 ≡ get_or round place 0
first_left round place h = grind (arith, common_steps)

-- what is in the turned round is in the round
in_round : (round : List ℕ) (place w : ℕ) → Contains (drop place round ++ take place round) w → Contains round w
in_round round place w c =
    let swapped : Contains (take place round ++ drop place round) w = elim (Contains-append_cases (drop place round) (take place round) w c) [
      | inl d ↦ Contains-append_right (take place round) (drop place round) w d
      | inr t ↦ Contains-append_left (take place round) (drop place round) w t
    ] in
    subst (λ (xs : List ℕ). Contains xs w) (take-append-drop place round) swapped

-- a number of the turned round, in its first part
turned_low : (xs : List ℕ) (p i e : ℕ) → i < length (drop p xs) → get_or (drop p xs ++ take p xs) i e ≡ get_or xs (p + i) e
turned_low xs p i e h = get_or_append_left (drop p xs) (take p xs) e i h ∙ get_or-drop p xs i e

-- and in its second part
turned_high : (xs : List ℕ) (p i e : ℕ) → length (drop p xs) ≤ i → i - length (drop p xs) < p → get_or (drop p xs ++ take p xs) i e ≡ get_or xs (i - length (drop p xs)) e
turned_high xs p i e h lt = get_or-append_right (drop p xs) (take p xs) (length (drop p xs)) i e refl h ∙ get_or-take p xs (i - length (drop p xs)) e lt

-- the turned round has no repetitions
distinct_turned : (xs : List ℕ) (p : ℕ) → p < length xs → AreDistinct xs → AreDistinct (drop p xs ++ take p xs)
distinct_turned xs p h d i j e lt there =
    let left : length (drop p xs) + p ≡ length xs = omega (arith, length-drop p xs) in
    let both : length (drop p xs ++ take p xs) ≡ length xs = omega (arith, length-append (drop p xs) (take p xs), length-take-le p xs (omega arith)) in
    elim (cases_lt j (length (drop p xs))) [
      | inl low ↦
          let first = turned_low xs p i e (omega arith) in
          let second = turned_low xs p j e low in
          λ same. d (p + i) (p + j) e (omega arith) (omega arith) (sym first ∙ same ∙ second)
      | inr high ↦ elim (cases_lt i (length (drop p xs))) [
        | inl low ↦
            let first = turned_low xs p i e low in
            let second = turned_high xs p j e high (omega arith) in
            λ same. d (j - length (drop p xs)) (p + i) e (omega arith) (omega arith) (sym second ∙ sym same ∙ first)
        | inr also ↦
            let first = turned_high xs p i e also (omega arith) in
            let second = turned_high xs p j e high (omega arith) in
            λ same. d (i - length (drop p xs)) (j - length (drop p xs)) e (omega arith) (omega arith) (sym first ∙ same ∙ second)
      ]
    ]

-- the numbers from a place on have no repetitions
pub distinct_drop : (xs : List ℕ) (from : ℕ) → AreDistinct xs → AreDistinct (drop from xs)
distinct_drop xs from d i j e lt there =
    let short : from + j < length xs = omega (arith, length-drop from xs) in
    λ same. d (from + i) (from + j) e (omega arith) short (sym (get_or-drop from xs i e) ∙ same ∙ get_or-drop from xs j e)

-- a new number at the end makes no repetition
pub distinct_push : (seen : List Bool) (xs : List ℕ) (v : ℕ) → AreDistinct xs → ((w : ℕ) → Contains xs w → IsMarked seen w) → IsUnmarked seen v → AreDistinct (xs ++ v ∷ [])
distinct_push seen xs v d marked u = all_pairs_push (λ a b. a ≢ b) xs v d (λ k e lt. λ same. not_both seen v (subst (IsMarked seen) same (marked (get_or xs k e) (Contains-get_or xs k e lt))) u)

-- the turned round is a cycle that begins with its least number
pub cycle_from_round : (needs : ℕ → ℕ → Type 0) (round turned : List ℕ) → IsRound needs round → AreDistinct round → IsTurned round turned → IsCycle needs turned
cycle_from_round needs round turned r d t =
    let left : 0 < length (drop t.place round) = omega (arith, length-drop t.place round, t.inside) in
    let again : IsRound needs (take t.place round ++ drop t.place round) = rw take-append-drop r in
    rw t.value (cycle_if needs (drop t.place round ++ take t.place round) (round_turned needs (take t.place round) (drop t.place round) left again)
    (distinct_turned round t.place t.inside d)
    (λ w c.
    let d : Contains round w = in_round round t.place w c in
    let found : get_or round d.0 0 ≡ w = get_or_default round d.0 0 w d.1 ∙ d.2 in
    rw (first_left round t.place t.inside) (subst (λ x. get_or round t.place 0 ≤ x) found (t.least d.0 d.1))))

-- each seen number is on the path, also one step later
pub on_path_push : (seen : List Bool) (path : List ℕ) (v : ℕ) → ((w : ℕ) → IsMarked seen w → Contains path w) → (w : ℕ) → IsMarked (set seen v true) w → Contains (path ++ v ∷ []) w
on_path_push seen path v h w m = elim (cases_eq w v) [
  | inl e ↦ subst (Contains (path ++ v ∷ [])) (sym e) (Contains-push path v)
  | inr ne ↦ Contains-append_left path (v ∷ []) w (h w (sym (get_or-set_other seen v w true false ne) ∙ m))
]

-- the one element of a list
contains_one : (v w : ℕ) → Contains (v ∷ []) w → w ≡ v
contains_one v w (zero, lt, e) = sym e
contains_one v w (suc k, lt, e) = absurd (omega arith)

-- each number on the path is seen
pub seen_push : (seen : List Bool) (path : List ℕ) (v : ℕ) → v < length seen → ((w : ℕ) → Contains path w → IsMarked seen w) → (w : ℕ) → Contains (path ++ v ∷ []) w → IsMarked (set seen v true) w
seen_push seen path v h all w c = elim (Contains-append_cases path (v ∷ []) w c) [
  | inl old ↦ elim (cases_eq w v) [ inl e ↦ get_or-set_at seen v w true false e h | inr ne ↦ get_or-set_other seen v w true false ne ∙ all w old ]
  | inr new ↦ get_or-set_at seen v w true false (contains_one v w new) h
]
