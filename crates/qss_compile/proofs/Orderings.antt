-- If variables and their dependencies are decidable, there is an order or a cycle.
use Rattle.qss_compile.proofs.Common
use Common.{[], ℕ, ◌++◌, ◌<◌, ◌∙◌, ◌∷◌, ◌≡◌, ◌≤◌, ◌⊎◌, arith, Bool, cases_Bool, cases_lt, Contains}
use Common.{drop, false, get_or, inl, inr, IsCycle, IsOrder, length, List, refl, subst, suc, take}
use Common.{true, zero}
use Rattle.std.proofs.Common.{set}
use Rattle.std.proofs.lemmas.List.{get_or_default}
use Rattle.std.proofs.Math.ListN.{length-set}
use Rattle.mu_causal.specs.Causality.{IsReady, IsNext, Follow}
use Rattle.mu_causal.specs.VisitMarks.{IsMarked, IsUnmarked}
use Rattle.mu_causal.proofs.Listing.{unmarked_count, unmarked_count-set, not_both, Follow-push}
use Rattle.mu_causal.proofs.Rounds.{Leads, IsRound, AreDistinct, Leads-push, round_from}
use Rattle.mu_causal.proofs.Rounds.{distinct_drop, distinct_push, cycle_from_round, on_path_push}
use Rattle.mu_causal.proofs.Rounds.{seen_push}

-- it holds or it does not
abbrev pub IsDecided : Type 0 → Type 0
IsDecided P = P ⊎ (P → ⊥)

-- the least number below k of which it holds, where there is one
pub record IsLeastOf (P : ℕ → Type 0) (k v : ℕ) : Type 0 where
  pub below : v < k
  pub holds : P v
  pub least : (w : ℕ) → w < v → P w → ⊥

pub least_below : (P : ℕ → Type 0) → ((v : ℕ) → IsDecided (P v)) → (k : ℕ) → ((v : ℕ) × IsLeastOf P k v) ⊎ ((v : ℕ) → v < k → P v → ⊥)
least_below P decides zero = inr (λ v lt p. omega (arith, lt))
least_below P decides (suc k) = by (least_below P decides k) (decides k)
  where
    higher : (v : ℕ) → IsLeastOf P k v → IsLeastOf P (suc k) v
    higher v l = let lt = l.below in record { below = omega (arith, lt); holds = l.holds; least = l.least }

    none : ((v : ℕ) → v < k → P v → ⊥) → (P k → ⊥) → (v : ℕ) → v < suc k → P v → ⊥
    none before last v lt p = elim (cases_lt v k) [
      | inl less ↦ before v less p
      | inr more ↦ let same : v ≡ k = omega (arith, lt, more) in last (subst P same p)
    ]

    by : ((v : ℕ) × IsLeastOf P k v) ⊎ ((v : ℕ) → v < k → P v → ⊥) → IsDecided (P k) → ((v : ℕ) × IsLeastOf P (suc k) v) ⊎ ((v : ℕ) → v < suc k → P v → ⊥)
    by (inl found) last = inl (found.0, higher found.0 found.1)
    by (inr before) (inl here) = inl (k, record { below = omega arith; holds = here; least = before })
    by (inr before) (inr last) = inr (none before last)

-- the place of the least of some numbers
least_place : (xs : List ℕ) → 0 < length xs → (p : ℕ) × (p < length xs) × ((k : ℕ) → k < length xs → get_or xs p 0 ≤ get_or xs k 0)
least_place [] h = absurd (omega (arith, h))
least_place (x ∷ []) h = (0, omega arith, λ k lt. one k lt)
  where
    one : (k : ℕ) → k < length (x ∷ []) → get_or (x ∷ []) 0 0 ≤ get_or (x ∷ []) k 0
    one zero lt = omega arith
    one (suc k) lt = absurd (omega (arith, lt))
least_place (x ∷ y ∷ ys) h = by (least_place (y ∷ ys) (omega arith))
  where
    by : ((p : ℕ) × (p < length (y ∷ ys)) × ((k : ℕ) → k < length (y ∷ ys) → get_or (y ∷ ys) p 0 ≤ get_or (y ∷ ys) k 0)) → (p : ℕ) × (p < length (x ∷ y ∷ ys)) × ((k : ℕ) → k < length (x ∷ y ∷ ys) → get_or (x ∷ y ∷ ys) p 0 ≤ get_or (x ∷ y ∷ ys) k 0)
    by (p, inside, low) = elim (cases_lt x (get_or (y ∷ ys) p 0)) [
      | inl less ↦ (0, omega arith, first (omega (arith, less)))
      | inr more ↦ (suc p, omega (arith, inside), later (omega (arith, more)))
    ]
      where
        first : x ≤ get_or (y ∷ ys) p 0 → (k : ℕ) → k < length (x ∷ y ∷ ys) → x ≤ get_or (x ∷ y ∷ ys) k 0
        first h zero lt = omega arith
        first h (suc k) lt = let l = low k (omega (arith, lt)) in omega (arith, h, l)

        later : get_or (y ∷ ys) p 0 ≤ x → (k : ℕ) → k < length (x ∷ y ∷ ys) → get_or (y ∷ ys) p 0 ≤ get_or (x ∷ y ∷ ys) k 0
        later h zero lt = h
        later h (suc k) lt = low k (omega (arith, lt))

-- a round without repetitions makes a cycle
cycle_of_round : (needs : ℕ → ℕ → Type 0) (round : List ℕ) → IsRound needs round → AreDistinct round → (vars : List ℕ) × IsCycle needs vars
cycle_of_round needs [] r d = absurd r
cycle_of_round needs (v ∷ vs) r d =
    let place = least_place (v ∷ vs) (omega arith) in
    let turned : List ℕ = drop place.0 (v ∷ vs) ++ take place.0 (v ∷ vs) in
    (turned, cycle_from_round needs (v ∷ vs) turned r d (record { place = place.0; inside = place.1; value = refl; least = place.2 }))

-- a list of the given length without marks
abbrev no_marks : ℕ → List Bool
no_marks zero = []
no_marks (suc n) = false ∷ no_marks n

no_marks_long : (n : ℕ) → length (no_marks n) ≡ n
no_marks_long zero = refl
no_marks_long (suc n) = omega (arith, no_marks_long n)

no_marks_none : (n v : ℕ) → IsMarked (no_marks n) v → ⊥
no_marks_none zero v m = cc m
no_marks_none (suc n) zero m = cc m
no_marks_none (suc n) (suc v) m = no_marks_none n v m

-- the marked numbers are exactly the numbers of a list
record Marks (n : ℕ) (marks : List Bool) (listed : List ℕ) : Type 0 where
  long : length marks ≡ n
  listed_of : (v : ℕ) → IsMarked marks v → Contains listed v
  marked_of : (v : ℕ) → Contains listed v → IsMarked marks v

Marks-none : (n : ℕ) → Marks n (no_marks n) []
Marks-none n = record { long = no_marks_long n; listed_of = λ v m. absurd (no_marks_none n v m); marked_of = λ v c. let lt = c.1 in absurd (omega (arith, lt)) }

Marks-push : (n : ℕ) (marks : List Bool) (listed : List ℕ) (v : ℕ) → v < n → Marks n marks listed → Marks n (set marks v true) (listed ++ v ∷ [])
Marks-push n marks listed v h m = record {
  long = length-set marks v true ∙ m.long;
  listed_of = on_path_push marks listed v m.listed_of;
  marked_of = seen_push marks listed v (let e = m.long in omega (arith, h, e)) m.marked_of;
}

-- marked or not
told : (marks : List Bool) (v : ℕ) → IsMarked marks v ⊎ IsUnmarked marks v
told marks v = cases_Bool (get_or marks v false)

module _ (n : ℕ) (variable : ℕ → Type 0) (needs : ℕ → ℕ → Type 0) (bounded : (v : ℕ) → variable v → v < n) (target : (v w : ℕ) → needs v w → variable w)
    (is_variable : (v : ℕ) → IsDecided (variable v)) (does_need : (v w : ℕ) → IsDecided (needs v w)) where
  -- it needs one that is not marked
  abbrev IsBlocked : List Bool → ℕ → Type 0
  IsBlocked marks v = (w : ℕ) × needs v w × IsUnmarked marks w

  abbrev Cycle : Type 0
  Cycle = (vars : List ℕ) × IsCycle needs vars

  inside : (marks : List Bool) (listed : List ℕ) (v : ℕ) → Marks n marks listed → variable v → v < length marks
  inside marks listed v m there = let b = bounded v there in let e = m.long in omega (arith, b, e)

  -- a walk that reaches a number twice has a cycle
  come_again : (seen : List Bool) (path : List ℕ) (v : ℕ) → Marks n seen path → Leads needs path v → AreDistinct path → IsMarked seen v → Cycle
  come_again seen path v m leads distinct old =
      let c = m.listed_of v old in
      let found : get_or path c.0 0 ≡ v = get_or_default path c.0 0 v c.1 ∙ c.2 in
      cycle_of_round needs (drop c.0 path) (round_from needs path v c.0 leads c.1 found) (distinct_drop path c.0 distinct)

  -- a walk along dependencies reaches a cycle, if at most `left` numbers are not seen
  walk : (left : ℕ) (marks seen : List Bool) (path : List ℕ) (v : ℕ) → unmarked_count seen ≤ left → Marks n seen path → Leads needs path v → AreDistinct path → variable v → IsUnmarked marks v
      → ((w : ℕ) → variable w → IsUnmarked marks w → IsBlocked marks w) → Cycle
  walk zero marks seen path v few m leads distinct there unmarked blocked = by (told seen v)
    where
      by : IsMarked seen v ⊎ IsUnmarked seen v → Cycle
      by (inl old) = come_again seen path v m leads distinct old
      by (inr new) = let less = unmarked_count-set seen v (inside seen path v m there) new in absurd (omega (arith, less, few))
  walk (suc left) marks seen path v few m leads distinct there unmarked blocked = by (λ more p w fewer marked leads distinct there unmarked. walk left marks more p w fewer marked leads distinct there unmarked blocked) (told seen v)
    where
      by : ((more : List Bool) (p : List ℕ) (w : ℕ) → unmarked_count more ≤ left → Marks n more p → Leads needs p w → AreDistinct p → variable w → IsUnmarked marks w → Cycle) → IsMarked seen v ⊎ IsUnmarked seen v → Cycle
      by go_on (inl old) = come_again seen path v m leads distinct old
      by go_on (inr new) =
          let less = unmarked_count-set seen v (inside seen path v m there) new in
          let next = blocked v there unmarked in
          go_on (set seen v true) (path ++ v ∷ []) next.0 (omega (arith, less, few)) (Marks-push n seen path v (bounded v there) m) (Leads-push needs path v next.0 leads next.1)
          (distinct_push seen path v distinct m.marked_of new) (target v next.0 next.1) next.2

  -- what is needed and not marked
  abbrev IsMissing : List Bool → ℕ → ℕ → Type 0
  IsMissing marks v w = needs v w × IsUnmarked marks w

  is_missing : (marks : List Bool) (v w : ℕ) → IsDecided (IsMissing marks v w)
  is_missing marks v w = by (does_need v w) (told marks w)
    where
      by : IsDecided (needs v w) → IsMarked marks w ⊎ IsUnmarked marks w → IsDecided (IsMissing marks v w)
      by (inl n) (inl old) = inr (λ p. not_both marks w old p.1)
      by (inl n) (inr new) = inl (n, new)
      by (inr fails) t = inr (λ p. fails p.0)

  -- ready, or no variable, or listed, or blocked
  ready_or : (marks : List Bool) (listed : List ℕ) → Marks n marks listed → (v : ℕ) → IsReady variable needs listed v ⊎ ((variable v → IsUnmarked marks v → IsBlocked marks v) × (IsReady variable needs listed v → ⊥))
  ready_or marks listed m v = by (is_variable v) (told marks v) (least_below (IsMissing marks v) (is_missing marks v) n)
    where
      by : IsDecided (variable v) → IsMarked marks v ⊎ IsUnmarked marks v → ((w : ℕ) × IsLeastOf (IsMissing marks v) n w) ⊎ ((w : ℕ) → w < n → IsMissing marks v w → ⊥)
          → IsReady variable needs listed v ⊎ ((variable v → IsUnmarked marks v → IsBlocked marks v) × (IsReady variable needs listed v → ⊥))
      by (inr fails) t missing = inr (λ there. absurd (fails there), λ r. fails r.there)
      by (inl there) (inl old) missing = inr (λ _ new. absurd (not_both marks v old new), λ r. r.unlisted (m.listed_of v old))
      by (inl there) (inr new) (inl found) =
          let lack = found.1.holds in
          inr (λ _ _. (found.0, lack.0, lack.1), λ r. not_both marks found.0 (m.marked_of found.0 (r.ready found.0 lack.0)) lack.1)
      by (inl there) (inr new) (inr none) = inl (record {
        there = there;
        unlisted = λ c. not_both marks v (m.marked_of v c) new;
        ready = λ w need. elim (told marks w) [ inl old ↦ m.listed_of w old | inr lack ↦ absurd (none w (bounded w (target v w need)) (need, lack)) ];
      })

  is_ready : (marks : List Bool) (listed : List ℕ) → Marks n marks listed → (v : ℕ) → IsDecided (IsReady variable needs listed v)
  is_ready marks listed m v = elim (ready_or marks listed m v) [ inl r ↦ inl r | inr fails ↦ inr fails.1 ]

  blocked_if : (marks : List Bool) (listed : List ℕ) → Marks n marks listed → ((v : ℕ) → v < n → IsReady variable needs listed v → ⊥) → (w : ℕ) → variable w → IsUnmarked marks w → IsBlocked marks w
  blocked_if marks listed m none w there new = elim (ready_or marks listed m w) [ inl r ↦ absurd (none w (bounded w there) r) | inr fails ↦ fails.0 there new ]

  abbrev OrderOrCycle : Type 0
  OrderOrCycle = ((vars : List ℕ) × IsOrder variable needs vars) ⊎ Cycle

  -- a variable that is not marked
  abbrev IsLeft : List Bool → ℕ → Type 0
  IsLeft marks v = variable v × IsUnmarked marks v

  -- where no variable is ready, all are listed or there is a cycle
  stuck : (marks : List Bool) (listed : List ℕ) → Marks n marks listed → Follow variable needs [] listed → ((v : ℕ) → v < n → IsReady variable needs listed v → ⊥) → OrderOrCycle
  stuck marks listed m follow none = by (least_below (IsLeft marks) is_left n)
    where
      is_left : (v : ℕ) → IsDecided (IsLeft marks v)
      is_left v = left_by (is_variable v) (told marks v)
        where
          left_by : IsDecided (variable v) → IsMarked marks v ⊎ IsUnmarked marks v → IsDecided (IsLeft marks v)
          left_by (inl there) (inl old) = inr (λ p. not_both marks v old p.1)
          left_by (inl there) (inr new) = inl (there, new)
          left_by (inr fails) t = inr (λ p. fails p.0)

      by : ((v : ℕ) × IsLeastOf (IsLeft marks) n v) ⊎ ((v : ℕ) → v < n → IsLeft marks v → ⊥) → OrderOrCycle
      by (inl found) =
          let left = found.1.holds in
          inr (walk (unmarked_count (no_marks n)) marks (no_marks n) [] found.0 (omega arith) (Marks-none n) tt (λ i j d lt here. absurd (omega (arith, here))) left.0 left.1 (blocked_if marks listed m none))
      by (inr all) = inl (listed, record { each = follow; all = λ v there. elim (told marks v) [ inl old ↦ m.listed_of v old | inr new ↦ absurd (all v (bounded v there) (there, new)) ] })

  -- listing one variable after the other ends in an order or a cycle, if at most `left` are not listed
  list_on : (left : ℕ) (marks : List Bool) (listed : List ℕ) → unmarked_count marks ≤ left → Marks n marks listed → Follow variable needs [] listed → OrderOrCycle
  list_on zero marks listed few m follow = by (least_below (IsReady variable needs listed) (is_ready marks listed m) n)
    where
      by : ((v : ℕ) × IsLeastOf (IsReady variable needs listed) n v) ⊎ ((v : ℕ) → v < n → IsReady variable needs listed v → ⊥) → OrderOrCycle
      by (inl found) =
          let r = found.1.holds in
          let new : IsUnmarked marks found.0 = elim (told marks found.0) [ inl old ↦ absurd (r.unlisted (m.listed_of found.0 old)) | inr new ↦ new ] in
          let less = unmarked_count-set marks found.0 (inside marks listed found.0 m r.there) new in
          absurd (omega (arith, less, few))
      by (inr none) = stuck marks listed m follow none
  list_on (suc left) marks listed few m follow = by (λ more l fewer marked follows. list_on left more l fewer marked follows) (least_below (IsReady variable needs listed) (is_ready marks listed m) n)
    where
      by : ((more : List Bool) (l : List ℕ) → unmarked_count more ≤ left → Marks n more l → Follow variable needs [] l → OrderOrCycle)
          → ((v : ℕ) × IsLeastOf (IsReady variable needs listed) n v) ⊎ ((v : ℕ) → v < n → IsReady variable needs listed v → ⊥) → OrderOrCycle
      by go_on (inl found) =
          let r = found.1.holds in
          let new : IsUnmarked marks found.0 = elim (told marks found.0) [ inl old ↦ absurd (r.unlisted (m.listed_of found.0 old)) | inr new ↦ new ] in
          let less = unmarked_count-set marks found.0 (inside marks listed found.0 m r.there) new in
          let next : IsNext variable needs listed found.0 = record { is_ready = r; least = found.1.least } in
          go_on (set marks found.0 true) (listed ++ found.0 ∷ []) (omega (arith, less, few)) (Marks-push n marks listed found.0 found.1.below m) (Follow-push variable needs [] listed found.0 follow next)
      by go_on (inr none) = stuck marks listed m follow none

  -- there is an order or a cycle
  pub order_or_cycle : OrderOrCycle
  order_or_cycle = list_on (unmarked_count (no_marks n)) (no_marks n) [] (omega arith) (Marks-none n) tt
