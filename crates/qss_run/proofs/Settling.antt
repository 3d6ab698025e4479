-- Which conditions settle after handlers.
use Rattle.qss_run.proofs.Common
use Common.{[], ℕ, ℤ, ◌++◌, ◌+◌, ◌<◌, ◌==◌, ◌||◌, ◌∙◌, ◌∷◌, ◌≡◌, among_conditions}
use Common.{Any-from_list_any, ap, append-nil, AreArrived, Bool, cases_lt, Condition, condition_at}
use Common.{condition_reads, conditions, discrete_count, eqb-yes, false, false_from_ne_true}
use Common.{flat_map, get_or_past, inl, inr, is_listed, length, Less, List, list_any}
use Common.{list_any-append, list_any_at, Machine, pos, readers_before, readers_of}
use Common.{reading_conditions, reading_rows, refl, sym, touched_after, touched_by, touched_of}
use Common.{true}
use Rattle.qss_run.specs.DetectorUpdates.{one_reads, depends_on, settles_after}
use Rattle.std.proofs.lemmas.Grind.{flat_map-append}
use Rattle.qss_run.proofs.Arrived.{arrived_then}

in_two : (xs ys : List ℕ) (place : ℕ) → is_listed (xs ++ ys) place ≡ (is_listed xs place || is_listed ys place)
in_two xs ys place = list_any-append (λ (k : ℕ). k == place) xs ys

-- a number is in one of some lists if a test says so of each
in_lists : (f : ℕ → List ℕ) (test : ℕ → Bool) (place : ℕ) → ((x : ℕ) → is_listed (f x) place ≡ test x) → (xs : List ℕ) → is_listed (flat_map f xs) place ≡ list_any test xs
in_lists f test place same [] = refl
in_lists f test place same (x ∷ xs) =
    in_two (f x) (flat_map f xs) place ∙ ap (λ b. b || is_listed (flat_map f xs) place) (same x) ∙ ap (λ b. test x || b) (in_lists f test place same xs)

-- the conditions that one more variable touches
pub touched_more : (m : Machine) (vars : List ℕ) (var : ℕ) → touched_by m (vars ++ var ∷ []) ≡ touched_by m vars ++ touched_of m var
touched_more m vars var = flat_map-append (touched_of m) vars (var ∷ []) ∙ ap (λ more. touched_by m vars ++ more) (append-nil (touched_of m var))

module _ (m : Machine) (place : ℕ) (h : place < length (conditions m)) where
  abbrev condition : Condition
  condition = condition_at m place

  among_touched : (vars : List ℕ) → is_listed (touched_by m vars) place ≡ list_any (depends_on m condition) vars
  among_touched vars =
      in_lists (touched_of m) (depends_on m condition) place
      (λ var.
      in_two (readers_of m (reading_rows m var)) (reading_conditions m var) place
      ∙ ap (λ b. b || is_listed (reading_conditions m var) place) (in_lists (reading_conditions m) (λ j. condition_reads j condition) place (λ j. among_conditions m j place h) (reading_rows m var))
      ∙ ap (λ b. list_any (λ j. condition_reads j condition) (reading_rows m var) || b) (among_conditions m var place h)) vars

  -- the conditions that settle are those that changed and those that read what changed
  pub among_settling : (reinitialized assigned changed : List ℕ) → is_listed (touched_after m reinitialized assigned changed) place ≡ settles_after m reinitialized assigned changed place
  among_settling reinitialized assigned changed =
      let by_reinitialized : List ℕ = touched_by m reinitialized in
      let by_assigned : List ℕ = touched_by m assigned in
      let before : List ℕ = readers_before m assigned in
      let on : List ℕ → Bool = list_any (depends_on m condition) in
      let last : is_listed before place ≡ list_any (λ var. condition_reads (var + discrete_count m) condition) assigned = in_lists (λ var. reading_conditions m (var + discrete_count m)) (λ var. condition_reads (var + discrete_count m) condition) place (λ var. among_conditions m (var + discrete_count m) place h) assigned in
      let two : is_listed (changed ++ by_reinitialized) place ≡ (is_listed changed place || on reinitialized) = in_two changed by_reinitialized place ∙ ap (λ b. is_listed changed place || b) (among_touched reinitialized) in
      let three : is_listed ((changed ++ by_reinitialized) ++ by_assigned) place ≡ ((is_listed changed place || on reinitialized) || on assigned) = in_two (changed ++ by_reinitialized) by_assigned place ∙ ap (λ b. b || is_listed by_assigned place) two ∙ ap (λ b. (is_listed changed place || on reinitialized) || b) (among_touched assigned) in
      in_two ((changed ++ by_reinitialized) ++ by_assigned) before place ∙ ap (λ b. b || is_listed before place) three
      ∙ ap (λ b. ((is_listed changed place || on reinitialized) || on assigned) || b) last

-- ---- states that conditions read

-- the states that one condition reads arrive
pub arrived_of : (m : Machine) (place : ℕ) (condition : Condition) (states old new : List ℤ) → condition ≡ condition_at m place →
    AreArrived (λ j. condition_reads j condition) states old new → AreArrived (one_reads m (place ∷ [])) states old new
arrived_of m place condition states old new is are =
    let same : (j : ℕ) → condition_reads j condition ≡ one_reads m (place ∷ []) j = λ j.
    ap (condition_reads j) is ∙ sym (or_false (condition_reads j (condition_at m place))) in
    record { as_many = are.as_many; own = λ j e. are.own j (same j ∙ e); others = λ j e. are.others j (same j ∙ e) }
  where
    or_false : (b : Bool) → (b || false) ≡ b
    or_false true = refl
    or_false false = refl

pub none_arrived : (m : Machine) (states old : List ℤ) → AreArrived (one_reads m []) states old old
none_arrived m states old = record { as_many = refl; own = λ j e. absurd (cc); others = λ j e. refl }

-- and then those that more read
pub arrived_on : (m : Machine) (xs ys : List ℕ) (states a b c : List ℤ) → AreArrived (one_reads m xs) states a b → AreArrived (one_reads m ys) states b c → AreArrived (one_reads m (xs ++ ys)) states a c
arrived_on m xs ys states a b c =
    arrived_then (one_reads m xs) (one_reads m ys) (one_reads m (xs ++ ys)) states a b c (λ j. list_any-append (λ place. condition_reads j (condition_at m place)) xs ys)

-- a state that none of the conditions reads that settle
pub unread_by : (m : Machine) (reinitialized assigned changed : List ℕ) (j : ℕ) →
    ((place : ℕ) → place < length (conditions m) → settles_after m reinitialized assigned changed place ≡ true → condition_reads j (condition_at m place) ≡ false) →
    one_reads m (touched_after m reinitialized assigned changed) j ≡ false
unread_by m reinitialized assigned changed j none =
    let touched : List ℕ = touched_after m reinitialized assigned changed in
    let empty : Condition = record { form = record { entries = []; time = pos 0; gamma = pos 0 }; rel = Less } in
    false_from_ne_true (one_reads m touched j)
    (λ some.
    let found = Any-from_list_any (λ place. condition_reads j (condition_at m place)) touched some in
    let place : ℕ = found.1 in
    let among : is_listed touched place ≡ true = list_any_at (λ (k : ℕ). k == place) touched found.0 place found.2 (eqb-yes _ place found.3) in
    let reads : condition_reads j (condition_at m place) ≡ true = found.4 in
    elim (cases_lt place (length (conditions m))) [
      | inl below ↦
          let not : condition_reads j (condition_at m place) ≡ false = none place below (sym (among_settling m place below reinitialized assigned changed) ∙ among) in absurd (cc)
      | inr past ↦ let not : condition_reads j (condition_at m place) ≡ false = ap (condition_reads j) (get_or_past (conditions m) place empty past) in absurd (cc)
    ])
