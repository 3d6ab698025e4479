-- The rows of a text, with those that its form leaves out, and what the text then is.
use Rattle.cert_check.proofs.Common
use Common.{[], ℕ, ℤ, ◌*◌, ◌++◌, ◌+◌, ◌-◌, ◌<◌, ◌∙◌, ◌∷◌, ◌≡◌, ◌≤◌, ◌⊎◌, All, AllZip, ap}
use Common.{AreAllRows, AreInForm, AreReadAs, AreRecordsOf, arith, cases_lt, Certificate, drop}
use Common.{due_at, Expected, first_number, get_or, get_or-append_right, get_or-map}
use Common.{get_or_append_left, inl, inr, ints, IsReadAs, IsVector, layout, left_out, length}
use Common.{length-append, length-map, Line, line_count, lines, lines_from, List, Machine, ParsesAs}
use Common.{pos, quanta, refl, start_states, state_count, StateInfo, subst, suc, sym, take, vector}
use Common.{zero}
use Rattle.cert_check.proofs.FieldPlaces.{none, due-after-g2, length-layout}
use Rattle.cert_check.proofs.Spelt.{one-number}

-- ---- the machine's rows

starts-fit : (m : Machine) → IsVector (state_count m) (start_states m)
starts-fit m = record {
  one_each = length-map m.states (λ (s : StateInfo). s.x0);
  each = λ k d h.
      let l : k < length m.states = omega (arith, length-map m.states (λ (s : StateInfo). s.x0), h) in
      let e : StateInfo = record { name = []; x0 = pos 0; quantum = pos 0 } in
      let small = (m.has_variables.each_state k e l).start in
      rw (get_or-map (λ (s : StateInfo). s.x0) m.states k e d l) (omega (arith, small));
}

quanta-fit : (m : Machine) → IsVector (state_count m) (quanta m)
quanta-fit m = record {
  one_each = length-map m.states (λ (s : StateInfo). s.quantum);
  each = λ k d h.
      let l : k < length m.states = omega (arith, length-map m.states (λ (s : StateInfo). s.quantum), h) in
      let e : StateInfo = record { name = []; x0 = pos 0; quantum = pos 0 } in
      let state = m.has_variables.each_state k e l in
      rw (get_or-map (λ (s : StateInfo). s.quantum) m.states k e d l) (omega (arith, ints, state.quantum_low, state.quantum_high));
}

-- ---- all rows

-- the last three rows are due with a number for each state
last-due : (n i : ℕ) → i < 3 → (due_at n (3 * n + 14 + i)).count ≡ n
last-due n i h = by (cases_lt i 1) (cases_lt i 2)
  where
    at : (j : ℕ) → 3 * n + 14 + i ≡ 3 * n + 6 + j → (due_at n (3 * n + 14 + i)).count ≡ (due_at n (3 * n + 6 + j)).count
    at j e = ap (λ k. (due_at n k).count) e

    by : (i < 1) ⊎ (1 ≤ i) → (i < 2) ⊎ (2 ≤ i) → (due_at n (3 * n + 14 + i)).count ≡ n
    by (inl l) q = at 8 (omega arith) ∙ ap (λ (d : Expected). d.count) (due-after-g2 n 8)
    by (inr l) (inl q) = at 9 (omega arith) ∙ ap (λ (d : Expected). d.count) (due-after-g2 n 9)
    by (inr l) (inr q) = at 10 (omega arith) ∙ ap (λ (d : Expected). d.count) (due-after-g2 n 10)

pub completed : (n count : ℕ) (records : List (List (List ℕ))) (rows more : List (List ℤ)) → AreReadAs n count records rows → 3 * n + 14 ≤ count
    → count + length more ≡ 3 * n + 17 → All (IsVector n) more → AreAllRows n (rows ++ more)
completed n count records rows more read low size fit = record {
  as_many = omega (arith, length-append rows more, read.as_many);
  each = λ k h. by k h (cases_lt k count);
}
  where
    by : (k : ℕ) → k < 3 * n + 17 → (k < count) ⊎ (count ≤ k) → IsVector (due_at n k).count (get_or (rows ++ more) k [])
    by k h (inl l) = rw (get_or_append_left rows more [] k (omega (arith, read.as_many))) ((read.each k l).numbers)
    by k h (inr l) =
        let e : 3 * n + 14 + (k - (3 * n + 14)) ≡ k = omega arith in
        let due : (due_at n k).count ≡ n = ap (λ j. (due_at n j).count) (sym e) ∙ last-due n (k - (3 * n + 14)) (omega arith) in
        rw (due, get_or-append_right rows more count k [] read.as_many l) (fit (k - count) [] (omega arith))

-- ---- the lines

pub zip-lines : (dues : List Expected) (count j : ℕ) (records : List (List (List ℕ))) (rows : List (List ℤ)) → count ≤ length dues → length records ≡ count
    → ((k : ℕ) → k < count → IsReadAs (get_or dues k none) (get_or records k []) (get_or rows (j + k) []))
    → AllZip ParsesAs records (take count (lines_from dues j rows))
zip-lines dues zero j [] rows h size read = tt
zip-lines dues zero j (r ∷ rs) rows h size read = absurd (omega arith)
zip-lines [] (suc count) j records rows h size read = absurd (omega arith)
zip-lines (due ∷ more) (suc count) j [] rows h size read = absurd (omega arith)
zip-lines (due ∷ more) (suc count) j (r ∷ rs) rows h size read =
    let e : j + 0 ≡ j = omega arith in
    let first = rw e at (read 0 (omega arith)) in (
      (drop 1 r, first.keyword, first.spelt),
      zip-lines more count (j + 1) rs rows (omega arith) (omega arith) (λ k l.
          let f : j + suc k ≡ j + 1 + k = omega arith in
          let P : ℕ → Type 0 = λ i. IsReadAs (get_or more k none) (get_or rs k []) (get_or rows i []) in
          subst P f (read (suc k) (omega arith))),
    )

-- the first row is the form
first-row : (due : Expected) (fields : List (List ℕ)) (row : List ℤ) (z : ℤ) → due.count ≡ 1 → IsReadAs due fields row → first_number fields ≡ z → row ≡ z ∷ []
first-row due fields [] z one read e = absurd (omega (arith, read.numbers.one_each))
first-row due fields (x ∷ y ∷ rest) z one read e = absurd (omega (arith, read.numbers.one_each))
first-row due fields (x ∷ []) z one read e =
    let P : List (List ℕ) → Type 0 = λ f. first_number f ≡ z in
    let number = one-number (drop 1 fields) x read.spelt in
    let same : x ≡ z = rw number at (subst P read.keyword e) in
    ap (λ (y : ℤ). y ∷ []) same

pub in-form : (n form : ℕ) (records : List (List (List ℕ))) (rows more : List (List ℤ)) (c : Certificate) → c.n ≡ n → 1 ≤ line_count n form → line_count n form ≤ 3 * n + 17
    → AreReadAs n (line_count n form) records rows → first_number (get_or records 0 []) ≡ pos form
    → lines (vector (get_or (rows ++ more) 0 []) 0) c ≡ lines_from (layout n) 0 (rows ++ more)
    → AreInForm form records c
in-form n form records rows more c size some few read named made =
    let count = line_count n form in
    let row = first-row (due_at n 0) (get_or records 0 []) (get_or rows 0 []) (pos form) refl (read.each 0 some) named in
    let front : get_or (rows ++ more) 0 [] ≡ pos form ∷ [] = get_or_append_left rows more [] 0 (omega (arith, read.as_many)) ∙ row in
    let z : vector (get_or (rows ++ more) 0 []) 0 ≡ pos form = ap (λ (r : List ℤ). vector r 0) front in
    let is : lines (pos form) c ≡ lines_from (layout n) 0 (rows ++ more) = ap (λ y. lines y c) (sym z) ∙ made in
    let zip = zip-lines (layout n) (line_count n form) 0 records (rows ++ more) (omega (arith, length-layout n)) read.one_each
    (λ k l.
    let e : 0 + k ≡ k = omega arith in
    rw (e, get_or_append_left rows more [] k (omega (arith, read.as_many))) (read.each k l)) in
    let P : List Line → Type 0 = λ ls. AllZip ParsesAs records (take (line_count n form) ls) in
    let Q : ℕ → Type 0 = λ k. AllZip ParsesAs records (take (line_count k form) (lines (pos form) c)) in
    subst Q (sym size) (subst P (sym is) zip)

-- ---- the three forms

pub one-of-three : (form : ℕ) → 1 ≤ form → form ≤ 3 → (form ≡ 1) ⊎ (form ≡ 2) ⊎ (form ≡ 3)
one-of-three zero l h = absurd (omega arith)
one-of-three (suc zero) l h = inl refl
one-of-three (suc (suc zero)) l h = inr (inl refl)
one-of-three (suc (suc (suc k))) l h = inr (inr (omega arith))

-- how many lines a text of one of the forms has
pub line-count : (n form : ℕ) → 1 ≤ form → form ≤ 3 → (3 * n + 14 ≤ line_count n form) × (line_count n form ≤ 3 * n + 17)
line-count n form low high = by (one-of-three form low high)
  where
    by : (form ≡ 1) ⊎ (form ≡ 2) ⊎ (form ≡ 3) → (3 * n + 14 ≤ line_count n form) × (line_count n form ≤ 3 * n + 17)
    by (inl e) = rw e (omega arith, omega arith)
    by (inr (inl e)) = rw e (omega arith, omega arith)
    by (inr (inr e)) = rw e (omega arith, omega arith)

-- the rows that a form leaves out are as many as lines are missing, and fit
left-count : (m : Machine) (n form : ℕ) → 1 ≤ form → form ≤ 3 → line_count n form + length (left_out m form) ≡ 3 * n + 17
left-count m n form low high = by (one-of-three form low high)
  where
    by : (form ≡ 1) ⊎ (form ≡ 2) ⊎ (form ≡ 3) → line_count n form + length (left_out m form) ≡ 3 * n + 17
    by (inl e) = rw e (omega arith)
    by (inr (inl e)) = rw e (omega arith)
    by (inr (inr e)) = rw e (omega arith)

three-fit : (n : ℕ) (a b c : List ℤ) → IsVector n a → IsVector n b → IsVector n c → All (IsVector n) (a ∷ b ∷ c ∷ [])
three-fit n a b c fa fb fc zero d h = fa
three-fit n a b c fa fb fc (suc zero) d h = fb
three-fit n a b c fa fb fc (suc (suc zero)) d h = fc
three-fit n a b c fa fb fc (suc (suc (suc k))) d h = absurd (omega arith)

one-fit : (n : ℕ) (a : List ℤ) → IsVector n a → All (IsVector n) (a ∷ [])
one-fit n a fa zero d h = fa
one-fit n a fa (suc k) d h = absurd (omega arith)

none-fit : (n : ℕ) → All (IsVector n) []
none-fit n k d h = absurd (omega arith)

left-fit : (m : Machine) (form : ℕ) → 1 ≤ form → form ≤ 3 → All (IsVector (state_count m)) (left_out m form)
left-fit m form low high = by (one-of-three form low high)
  where
    along : (f : ℕ) → form ≡ f → All (IsVector (state_count m)) (left_out m f) → All (IsVector (state_count m)) (left_out m form)
    along f e h = let P : ℕ → Type 0 = λ k. All (IsVector (state_count m)) (left_out m k) in subst P (sym e) h

    by : (form ≡ 1) ⊎ (form ≡ 2) ⊎ (form ≡ 3) → All (IsVector (state_count m)) (left_out m form)
    by (inl e) = along 1 e (three-fit (state_count m) (start_states m) (start_states m) (quanta m) (starts-fit m) (starts-fit m) (quanta-fit m))
    by (inr (inl e)) = along 2 e (one-fit (state_count m) (quanta m) (quanta-fit m))
    by (inr (inr e)) = along 3 e (none-fit (state_count m))

pub all-rows : (m : Machine) (n form : ℕ) (records : List (List (List ℕ))) (rows : List (List ℤ)) → n ≡ state_count m → 1 ≤ form → form ≤ 3
    → AreReadAs n (line_count n form) records rows → AreAllRows n (rows ++ left_out m form)
all-rows m n form records rows size low high read =
    let fit = left-fit m form low high in
    let P : ℕ → Type 0 = λ k. All (IsVector k) (left_out m form) in
    completed n (line_count n form) records rows (left_out m form) read ((line-count n form low high).0) (left-count m n form low high) (subst P (sym size) fit)

-- what a text of a form says of the rows that it leaves out
module _ (m : Machine) (n : ℕ) (records : List (List (List ℕ))) (rows : List (List ℤ)) (c : Certificate) where
  left : (count k i : ℕ) (more : List (List ℤ)) → length rows ≡ count → k ≡ count + i → get_or (rows ++ more) k [] ≡ get_or more i []
  left count k i more size e =
      let j : k - count ≡ i = omega arith in
      get_or-append_right rows more count k [] size (omega arith) ∙ ap (λ h. get_or more h []) j

  pub first-form : AreReadAs n (line_count n 1) records rows → c.start1 ≡ get_or (rows ++ left_out m 1) (3 * n + 6 + 8) []
      → c.start2 ≡ get_or (rows ++ left_out m 1) (3 * n + 6 + 9) [] → c.q ≡ get_or (rows ++ left_out m 1) (3 * n + 6 + 10) []
      → (c.start1 ≡ start_states m) × (c.start2 ≡ start_states m) × (c.q ≡ quanta m)
  first-form read a b q = (
    a ∙ left (3 * n + 14) (3 * n + 6 + 8) 0 (left_out m 1) read.as_many (omega arith),
    b ∙ left (3 * n + 14) (3 * n + 6 + 9) 1 (left_out m 1) read.as_many (omega arith),
    q ∙ left (3 * n + 14) (3 * n + 6 + 10) 2 (left_out m 1) read.as_many (omega arith),
  )

  pub second-form : AreReadAs n (line_count n 2) records rows → c.q ≡ get_or (rows ++ left_out m 2) (3 * n + 6 + 10) [] → c.q ≡ quanta m
  second-form read q = q ∙ left (3 * n + 16) (3 * n + 6 + 10) 0 (left_out m 2) read.as_many (omega arith)

pub text-read : (m : Machine) (n form : ℕ) (records : List (List (List ℕ))) (rows : List (List ℤ)) (c : Certificate) → n ≡ state_count m → 1 ≤ form → form ≤ 3
    → AreReadAs n (line_count n form) records rows → first_number (get_or records 0 []) ≡ pos form → c.n ≡ n
    → lines (vector (get_or (rows ++ left_out m form) 0 []) 0) c ≡ lines_from (layout n) 0 (rows ++ left_out m form)
    → c.start1 ≡ get_or (rows ++ left_out m form) (3 * n + 6 + 8) [] → c.start2 ≡ get_or (rows ++ left_out m form) (3 * n + 6 + 9) []
    → c.q ≡ get_or (rows ++ left_out m form) (3 * n + 6 + 10) [] → AreRecordsOf m records c
text-read m n form records rows c size low high read named own made a b q =
    let counts = line-count n form low high in
    let form-is = in-form n form records rows (left_out m form) c own (omega (arith, counts.0)) counts.1 read named made in
    record { size = own ∙ size; spelt = by (one-of-three form low high) form-is }
  where
    by : (form ≡ 1) ⊎ (form ≡ 2) ⊎ (form ≡ 3) → AreInForm form records c
        → (AreInForm 1 records c × (c.start1 ≡ start_states m) × (c.start2 ≡ start_states m) × (c.q ≡ quanta m)) ⊎ (AreInForm 2 records c × (c.q ≡ quanta m)) ⊎ AreInForm 3 records c
    by (inl e) h =
        let own = first-form m n records rows c (rw e at read) (rw e at a) (rw e at b) (rw e at q) in
        inl (rw e at h, own.0, own.1, own.2)
    by (inr (inl e)) h = inr (inl (rw e at h, second-form m n records rows c (rw e at read) (rw e at q)))
    by (inr (inr e)) h = inr (inr (rw e at h))
