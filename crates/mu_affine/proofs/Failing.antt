-- The first check that fails.
use Rattle.mu_affine.proofs.Common
use Common.{[], ℕ, ◌++◌, ◌+◌, ◌<◌, ◌∙◌, ◌∷◌, ◌≡◌, ◌≤◌, add-zero, All, All-cons, All-nil, ap, arith}
use Common.{Bool, Check, checks, drop, drop_more, false, first_failed, get_or, if◌then◌else◌, inl}
use Common.{inr, IsRefusal, length, length-take-le, List, MachineErr, map, None, Option, refl, Some}
use Common.{suc, sym, take, take_all, take_more, true}
use Rattle.std.proofs.lemmas.List.{take-append-drop}

-- where the first checks hold, the others decide
pub first_failed-after : (front back : List Check) → first_failed front ≡ None → first_failed (front ++ back) ≡ first_failed back
first_failed-after [] back e = refl
first_failed-after (c ∷ front) back e = by_case c.holds e (λ none. first_failed-after front back none)
  where
    by_case : (b : Bool) → (if b then first_failed front else Some c.fault) ≡ None → (first_failed front ≡ None → first_failed (front ++ back) ≡ first_failed back) →
        (if b then first_failed (front ++ back) else Some c.fault) ≡ first_failed back
    by_case true e rest = rest e
    by_case false e rest = absurd (cc)

-- where one of the first checks fails, the others do not count
pub first_failed-before : (front back : List Check) (fault : MachineErr) → first_failed front ≡ Some fault → first_failed (front ++ back) ≡ Some fault
first_failed-before [] back fault e = absurd (cc)
first_failed-before (c ∷ front) back fault e = by_case c.holds e (λ first. first_failed-before front back fault first)
  where
    by_case : (b : Bool) → (if b then first_failed front else Some c.fault) ≡ Some fault → (first_failed front ≡ Some fault → first_failed (front ++ back) ≡ Some fault) →
        (if b then first_failed (front ++ back) else Some c.fault) ≡ Some fault
    by_case true e rest = rest e
    by_case false e rest = e

-- the same for what is answered
pub refused_before : (front back : List Check) (fault : MachineErr) → IsRefusal front fault → IsRefusal (front ++ back) fault
refused_before front back fault (inl memory) = inl memory
refused_before front back fault (inr first) = inr (first_failed-before front back fault first)

pub refused_after : (front back : List Check) (fault : MachineErr) → first_failed front ≡ None → IsRefusal back fault → IsRefusal (front ++ back) fault
refused_after front back fault none (inl memory) = inl memory
refused_after front back fault none (inr first) = inr (first_failed-after front back none ∙ first)

-- no check fails where none of the first and none of the others does
pub none_failed : (front back : List Check) → first_failed front ≡ None → first_failed back ≡ None → first_failed (front ++ back) ≡ None
none_failed front back first others = first_failed-after front back first ∙ others

-- and the other way round
pub none_first : (front back : List Check) → first_failed (front ++ back) ≡ None → first_failed front ≡ None
none_first front back none = by_case (first_failed front) refl
  where
    by_case : (o : Option MachineErr) → first_failed front ≡ o → first_failed front ≡ None
    by_case None e = e
    by_case (Some fault) e = absurd (let other = first_failed-before front back fault e in cc)

pub none_others : (front back : List Check) → first_failed (front ++ back) ≡ None → first_failed back ≡ None
none_others front back none = sym (first_failed-after front back (none_first front back none)) ∙ none

-- ---- one check for each element

pub checks-append : {X : Type 0} (holds : X → Bool) (fault : ℕ → MachineErr) (n : ℕ) (xs ys : List X) →
    checks holds fault n (xs ++ ys) ≡ checks holds fault n xs ++ checks holds fault (n + length xs) ys
checks-append holds fault n [] ys = ap (λ k. checks holds fault k ys) (sym (add-zero n))
checks-append holds fault n (x ∷ xs) ys =
    let next : n + 1 + length xs ≡ n + suc (length xs) = omega arith in
    ap (λ cs. record { holds = holds x; fault = fault n } ∷ cs)
    (checks-append holds fault (n + 1) xs ys ∙ ap (λ k. checks holds fault (n + 1) xs ++ checks holds fault k ys) next)

-- elements that are made of others
pub checks-map : {X Y : Type 0} (make : Y → X) (holds : X → Bool) (fault : ℕ → MachineErr) (n : ℕ) (ys : List Y) →
    checks holds fault n (map make ys) ≡ checks (λ y. holds (make y)) fault n ys
checks-map make holds fault n [] = refl
checks-map make holds fault n (y ∷ ys) = ap (λ cs. record { holds = holds (make y); fault = fault n } ∷ cs) (checks-map make holds fault (n + 1) ys)

pub one_holds : (b : Bool) (fault : MachineErr) → b ≡ true → first_failed (record { holds = b; fault = fault } ∷ []) ≡ None
one_holds true fault e = refl
one_holds false fault e = absurd (cc)

pub one_fails : (b : Bool) (fault : MachineErr) (cs : List Check) → b ≡ false → first_failed (record { holds = b; fault = fault } ∷ cs) ≡ Some fault
one_fails true fault cs e = absurd (cc)
one_fails false fault cs e = refl

-- where none fails the first one holds, and none of the others fails
pub none_both : (b : Bool) (fault : MachineErr) (cs : List Check) → first_failed (record { holds = b; fault = fault } ∷ cs) ≡ None → (b ≡ true) × (first_failed cs ≡ None)
none_both true fault cs e = (refl, e)
none_both false fault cs e = absurd (cc)

-- a turn of a loop whose element passes
pub checks_more : {X : Type 0} (holds : X → Bool) (fault : ℕ → MachineErr) (n : ℕ) (xs : List X) (i : ℕ) (d : X) → i < length xs →
    first_failed (checks holds fault n (take i xs)) ≡ None → holds (get_or xs i d) ≡ true → first_failed (checks holds fault n (take (i + 1) xs)) ≡ None
checks_more holds fault n xs i d h before passed =
    ap (λ ys. first_failed (checks holds fault n ys)) (take_more xs i d h)
    ∙ ap first_failed (checks-append holds fault n (take i xs) (get_or xs i d ∷ []))
    ∙ none_failed (checks holds fault n (take i xs)) (checks holds fault (n + length (take i xs)) (get_or xs i d ∷ [])) before
    (one_holds (holds (get_or xs i d)) (fault (n + length (take i xs))) passed)

-- a turn whose element fails
pub checks_fail : {X : Type 0} (holds : X → Bool) (fault : ℕ → MachineErr) (n : ℕ) (xs : List X) (i : ℕ) (d : X) → i < length xs →
    first_failed (checks holds fault n (take i xs)) ≡ None → holds (get_or xs i d) ≡ false → first_failed (checks holds fault n xs) ≡ Some (fault (n + i))
checks_fail holds fault n xs i d h before failed =
    ap (λ ys. first_failed (checks holds fault n ys)) (sym (take-append-drop i xs) ∙ ap (λ ys. take i xs ++ ys) (drop_more xs i d h))
    ∙ ap first_failed (checks-append holds fault n (take i xs) (get_or xs i d ∷ drop (i + 1) xs))
    ∙ first_failed-after (checks holds fault n (take i xs)) (checks holds fault (n + length (take i xs)) (get_or xs i d ∷ drop (i + 1) xs)) before
    ∙ one_fails (holds (get_or xs i d)) (fault (n + length (take i xs))) (checks holds fault (n + length (take i xs) + 1) (drop (i + 1) xs)) failed
    ∙ ap (λ k. Some (fault (n + k))) (length-take-le i xs (omega arith))

-- the end of a loop
pub checks_done : {X : Type 0} (holds : X → Bool) (fault : ℕ → MachineErr) (n : ℕ) (xs : List X) (i : ℕ) → length xs ≤ i →
    first_failed (checks holds fault n (take i xs)) ≡ None → first_failed (checks holds fault n xs) ≡ None
checks_done holds fault n xs i h before = ap (λ ys. first_failed (checks holds fault n ys)) (sym (take_all i xs h)) ∙ before

-- where none fails, each element passes
pub checks_hold : {X : Type 0} (holds : X → Bool) (fault : ℕ → MachineErr) (n : ℕ) (xs : List X) →
    first_failed (checks holds fault n xs) ≡ None → All (λ x. holds x ≡ true) xs
checks_hold holds fault n [] none = All-nil (λ x. holds x ≡ true)
checks_hold holds fault n (x ∷ xs) none =
    let both = by_case (holds x) none in
    All-cons (λ x. holds x ≡ true) x xs both.0 (checks_hold holds fault (n + 1) xs both.1)
  where
    by_case : (b : Bool) → (if b then first_failed (checks holds fault (n + 1) xs) else Some (fault n)) ≡ None →
        (b ≡ true) × (first_failed (checks holds fault (n + 1) xs) ≡ None)
    by_case true e = (refl, e)
    by_case false e = absurd (cc)

-- a turn of a loop, by what it reads
module _ {X : Type 0} (holds : X → Bool) (fault : ℕ → MachineErr) (n : ℕ) (xs : List X) (i : ℕ) (x : X) (within : i < length xs) (at : x ≡ get_or xs i x)
    (before : first_failed (checks holds fault n (take i xs)) ≡ None) where
  -- the element fails
  pub fail_turn : (number : ℕ) → number ≡ n + i → holds x ≡ false → IsRefusal (checks holds fault n xs) (fault number)
  fail_turn number e failed =
      let first = checks_fail holds fault n xs i x within before (ap holds (sym at) ∙ failed) in
      inr (first ∙ ap (λ k. Some (fault k)) (sym e))

  -- the element passes
  pub pass_turn : holds x ≡ true → first_failed (checks holds fault n (take (i + 1) xs)) ≡ None
  pass_turn passed = checks_more holds fault n xs i x within before (ap holds (sym at) ∙ passed)
