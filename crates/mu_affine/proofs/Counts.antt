-- How many coefficients a finished form has.
use Rattle.mu_affine.proofs.Common
use Common.{[], ℕ, ◌+◌, ◌<◌, ◌^◌, ◌∙◌, ◌∷◌, ◌≡◌, ◌≢◌, ◌≤◌, AffineErr, AllByRecursion, ap}
use Common.{AreFinished, arith, Bool, cases_eq, cases_lt, coefficient_count, cond, counted, Equal}
use Common.{Err, ExactForm, false, false≢true, form_meaning, Fraction, fun_ext, Greater}
use Common.{if◌then◌else◌, inl, inr, is_at, is_eq, is_nonzero, IsFinished, IsPair, keys_of, length}
use Common.{length-map, Less, List, lookup, map, named, nat_cmp, nat_lt, nat_tests, none, Ok}
use Common.{Ordering, pair_cmp, paired, Place, refl, Sizes, Some, sorted_head, sorted_tail, suc}
use Common.{sym, TooDense, true, unwrap_or, value_at, with_more, zero}
use Rattle.mu_affine.specs.AffineForm.{count_from, sum_from}
use Rattle.mu_affine.proofs.RowForms.{IsKeyOrder, nat_order, pair_order, level_self}

-- a number that counts a test
abbrev pub one_if : Bool → ℕ
one_if b = if b then 1 else 0

-- no number passes
pub count_from-none : (start count : ℕ) (test : ℕ → Bool) → ((k : ℕ) → test k ≡ false) → count_from start count test ≡ 0
unfolding count_from
count_from-none start zero test h = refl
count_from-none start (suc count) test h =
    let here : one_if (test start) ≡ 0 = ap one_if (h start) in
    omega (arith, here, count_from-none (suc start) count test h)

-- two tests that differ at a number below the range alone
count_other : (start count k : ℕ) (f g : ℕ → Bool) → k < start → ((v : ℕ) → v ≢ k → f v ≡ g v) → count_from start count f ≡ count_from start count g
unfolding count_from
count_other start zero k f g low h = refl
count_other start (suc count) k f g low h =
    let here : one_if (f start) ≡ one_if (g start) = ap one_if (h start (omega arith)) in
    let later = count_other (suc start) count k f g (omega arith) h in
    omega (arith, here, later)

-- one number more passes
count_one : (start count k : ℕ) (f g : ℕ → Bool) → start ≤ k → k < start + count → f k ≡ true → g k ≡ false → ((v : ℕ) → v ≢ k → f v ≡ g v) → count_from start count f ≡ suc (count_from start count g)
unfolding count_from
count_one start zero k f g low high here_f here_g h = absurd (omega arith)
count_one start (suc count) k f g low high here_f here_g h =
    elim (cases_eq start k) [
      | inl same ↦
          let one : one_if (f start) ≡ 1 = ap (λ v. one_if (f v)) same ∙ ap one_if here_f in
          let none_there : one_if (g start) ≡ 0 = ap (λ v. one_if (g v)) same ∙ ap one_if here_g in
          let later = count_other (suc start) count k f g (omega arith) h in
          omega (arith, one, none_there, later)
      | inr other ↦
          let here : one_if (f start) ≡ one_if (g start) = ap one_if (h start other) in
          let later = count_one (suc start) count k f g (omega arith) (omega arith) here_f here_g h in
          omega (arith, here, later)
    ]

-- no number counts
sum_from-none : (start count : ℕ) (each : ℕ → ℕ) → ((k : ℕ) → each k ≡ 0) → sum_from start count each ≡ 0
unfolding sum_from
sum_from-none start zero each h = refl
sum_from-none start (suc count) each h = omega (arith, h start, sum_from-none (suc start) count each h)

-- two sums that differ at a number below the range alone
sum_other : (start count k : ℕ) (f g : ℕ → ℕ) → k < start → ((v : ℕ) → v ≢ k → f v ≡ g v) → sum_from start count f ≡ sum_from start count g
unfolding sum_from
sum_other start zero k f g low h = refl
sum_other start (suc count) k f g low h =
    let here : f start ≡ g start = h start (omega arith) in
    omega (arith, here, sum_other (suc start) count k f g (omega arith) h)

-- one number counts one more
sum_one : (start count k : ℕ) (f g : ℕ → ℕ) → start ≤ k → k < start + count → f k ≡ suc (g k) → ((v : ℕ) → v ≢ k → f v ≡ g v) → sum_from start count f ≡ suc (sum_from start count g)
unfolding sum_from
sum_one start zero k f g low high more h = absurd (omega arith)
sum_one start (suc count) k f g low high more h =
    elim (cases_eq start k) [
      | inl same ↦
          let here : f start ≡ suc (g start) = ap f same ∙ more ∙ ap (λ v. suc (g v)) (sym same) in
          let later = sum_other (suc start) count k f g (omega arith) h in
          omega (arith, here, later)
      | inr other ↦
          let here : f start ≡ g start = h start other in
          let later = sum_one (suc start) count k f g (omega arith) (omega arith) more h in
          omega (arith, here, later)
    ]

-- the first coefficient is under its key
head_value : {K : Type 0} (R : K → K → Ordering) → IsKeyOrder R → (c : K × Fraction) (cs : List (K × Fraction)) → value_at R (c ∷ cs) c.0 ≡ c.1
head_value R o c cs = ap (λ r. unwrap_or (cond (is_eq r) (Some c.1) (lookup (is_at (R c.0)) cs)) none) (level_self R o c.0)

-- and no other one is
unseen_after : {K : Type 0} (R : K → K → Ordering) (k : K) (cs : List (K × Fraction)) → AllByRecursion (λ y. R k y ≡ Less) (keys_of cs) → value_at R cs k ≡ none
unseen_after R k [] h = refl
unseen_after R k (c ∷ cs) h = ap (λ r. unwrap_or (cond (is_eq r) (Some c.1) (lookup (is_at (R k)) cs)) none) h.0 ∙ unseen_after R k cs h.1

-- a key that is not level with the first one
not_level : {K : Type 0} (R : K → K → Ordering) → IsKeyOrder R → (a b : K) (r : Ordering) → R a b ≡ r → a ≢ b → is_eq r ≡ false
not_level R o a b Less e h = refl
not_level R o a b Equal e h = absurd (h (o.exact a b e))
not_level R o a b Greater e h = refl

-- under another key there is what the others have
tail_value : {K : Type 0} (R : K → K → Ordering) → IsKeyOrder R → (c : K × Fraction) (cs : List (K × Fraction)) (k : K) → k ≢ c.0 → value_at R (c ∷ cs) k ≡ value_at R cs k
tail_value R o c cs k h = ap (λ b. unwrap_or (cond b (Some c.1) (lookup (is_at (R k)) cs)) none) (not_level R o k c.0 (R k c.0) refl h)

-- what is left of a finished list
tail_finished : {K : Type 0} (R : K → K → Ordering) (c : K × Fraction) (cs : List (K × Fraction)) → AreFinished R (c ∷ cs) → AreFinished R cs
tail_finished R c cs h = record { rising = sorted_tail R c.0 (keys_of cs) h.rising; each = h.each.1 }

-- what holds of all keys of coefficients holds of those that are left
head_shows : {K : Type 0} (R : K → K → Ordering) → IsKeyOrder R → (c : K × Fraction) (cs : List (K × Fraction)) → AreFinished R (c ∷ cs) → is_nonzero (value_at R (c ∷ cs) c.0) ≡ true
head_shows R o c cs h = ap is_nonzero (head_value R o c cs) ∙ h.each.0.0

tail_hides : {K : Type 0} (R : K → K → Ordering) (c : K × Fraction) (cs : List (K × Fraction)) → AreFinished R (c ∷ cs) → is_nonzero (value_at R cs c.0) ≡ false
tail_hides R c cs h = ap is_nonzero (unseen_after R c.0 cs (sorted_head R c.0 (keys_of cs) h.rising))

tail_shows : {K : Type 0} (R : K → K → Ordering) → IsKeyOrder R → (c : K × Fraction) (cs : List (K × Fraction)) → AreFinished R (c ∷ cs) → (k : K) → is_nonzero (value_at R cs k) ≡ true → is_nonzero (value_at R (c ∷ cs) k) ≡ true
tail_shows R o c cs h k shows =
    ap is_nonzero (tail_value R o c cs k (λ same. false≢true (sym (tail_hides R c cs h) ∙ ap (λ q. is_nonzero (value_at R cs q)) (sym same) ∙ shows))) ∙ shows

-- a rising list of names has one coefficient for each
names_counted : (limit : ℕ) (cs : List (ℕ × Fraction)) → AreFinished nat_cmp cs → ((v : ℕ) → is_nonzero (value_at nat_cmp cs v) ≡ true → v < limit)
    → count_from 0 limit (λ v. is_nonzero (value_at nat_cmp cs v)) ≡ length cs
names_counted limit [] h within = count_from-none 0 limit (λ v. is_nonzero (value_at nat_cmp [] v)) (λ v. refl)
names_counted limit (c ∷ cs) h within =
    let shows = head_shows nat_cmp nat_order c cs h in
    let below : c.0 < limit = within c.0 shows in
    count_one 0 limit c.0 (λ v. is_nonzero (value_at nat_cmp (c ∷ cs) v)) (λ v. is_nonzero (value_at nat_cmp cs v)) (omega arith) (omega arith) shows (tail_hides nat_cmp c cs h) (λ v other. ap is_nonzero (tail_value nat_cmp nat_order c cs v other))
    ∙ ap (λ n. suc n) (names_counted limit cs (tail_finished nat_cmp c cs h) (λ v later. within v (tail_shows nat_cmp nat_order c cs h v later)))

-- how many pairs of a state have a coefficient
abbrev row_count : Sizes → List ((ℕ × ℕ) × Fraction) → ℕ → ℕ
row_count n cs s = count_from n.states n.discretes (λ d. is_nonzero (value_at pair_cmp cs (s, d)))

-- a rising list of pairs has one coefficient for each
pairs_counted : (n : Sizes) (cs : List ((ℕ × ℕ) × Fraction)) → AreFinished pair_cmp cs → ((s d : ℕ) → is_nonzero (value_at pair_cmp cs (s, d)) ≡ true → IsPair n s d)
    → sum_from 0 n.states (row_count n cs) ≡ length cs
pairs_counted n [] h within = sum_from-none 0 n.states (row_count n []) (λ s. count_from-none n.states n.discretes (λ d. is_nonzero (value_at pair_cmp [] (s, d))) (λ d. refl))
pairs_counted n (c ∷ cs) h within =
    let s : ℕ = c.0.0 in
    let d : ℕ = c.0.1 in
    let shows : is_nonzero (value_at pair_cmp (c ∷ cs) (s, d)) ≡ true = head_shows pair_cmp pair_order c cs h in
    let pair : IsPair n s d = within s d shows in
    let row : row_count n (c ∷ cs) s ≡ suc (row_count n cs s) =
    count_one n.states n.discretes d (λ e. is_nonzero (value_at pair_cmp (c ∷ cs) (s, e))) (λ e. is_nonzero (value_at pair_cmp cs (s, e))) pair.1 pair.2 shows (tail_hides pair_cmp c cs h)
    (λ e other. ap is_nonzero (tail_value pair_cmp pair_order c cs (s, e) (λ same. other (ap (λ (q : ℕ × ℕ). q.1) same)))) in
    sum_one 0 n.states s (row_count n (c ∷ cs)) (row_count n cs) (omega arith) (omega (arith, pair.0)) row
    (λ r other. ap (count_from n.states n.discretes) (fun_ext (λ e. ap is_nonzero (tail_value pair_cmp pair_order c cs (r, e) (λ same. other (ap (λ (q : ℕ × ℕ). q.0) same))))))
    ∙ ap (λ k. suc k) (pairs_counted n cs (tail_finished pair_cmp c cs h) (λ r e later. within r e (tail_shows pair_cmp pair_order c cs h (r, e) later)))

-- a finished form has as many coefficients as its lists and its time
pub form_counted : (p : Place) (f : ExactForm) → IsFinished p f → coefficient_count p.sizes (form_meaning f) ≡ length f.entries + length f.products + one_if (is_nonzero f.time)
form_counted p f h =
    let names : count_from 0 (p.sizes.states + p.sizes.discretes + p.sizes.discretes) (λ v. is_nonzero (value_at nat_cmp (map named f.entries) v)) ≡ length f.entries =
    names_counted (p.sizes.states + p.sizes.discretes + p.sizes.discretes) (map named f.entries) h.canonical.names (λ v shows. (h.over.names v shows).0) ∙ length-map f.entries named in
    let pairs : sum_from 0 p.sizes.states (row_count p.sizes (map paired f.products)) ≡ length f.products =
    pairs_counted p.sizes (map paired f.products) h.canonical.pairs (λ s d shows. (h.over.pairs s d shows).0) ∙ length-map f.products paired in
    ap (λ k. k + sum_from 0 p.sizes.states (row_count p.sizes (map paired f.products)) + one_if (is_nonzero f.time)) names
    ∙ ap (λ k. length f.entries + k + one_if (is_nonzero f.time)) pairs

-- few enough coefficients
pub more_fits : (count more : ℕ) → count + more ≤ 2 ^ 16 → with_more count more ≡ Ok (count + more)
more_fits count more h = let test : nat_lt (2 ^ 16) (count + more) ≡ false = grind (arith, nat_tests) in rw test refl

-- and too many
pub more_passes : (count more : ℕ) → 2 ^ 16 < count + more → with_more count more ≡ Err (TooDense (2 ^ 16 + 1))
more_passes count more h = let test : nat_lt (2 ^ 16) (count + more) ≡ true = grind (arith, nat_tests) in rw test refl

-- what an answer says
pub more_given : (count more new : ℕ) → with_more count more ≡ Ok new → (count + more ≤ 2 ^ 16) × (new ≡ count + more)
more_given count more new h =
    elim (cases_lt (2 ^ 16) (count + more)) [
      | inl large ↦ let e = more_passes count more large in absurd (cc)
      | inr fits ↦ let e = more_fits count more fits in (fits, cc)
    ]

pub more_refused : (count more : ℕ) (fault : AffineErr) → with_more count more ≡ Err fault → (2 ^ 16 < count + more) × (fault ≡ TooDense (2 ^ 16 + 1))
more_refused count more fault h =
    elim (cases_lt (2 ^ 16) (count + more)) [
      | inl large ↦ let e = more_passes count more large in (large, cc)
      | inr fits ↦ let e = more_fits count more fits in absurd (cc)
    ]

-- the count of one form more
pub counted_is : (p : Place) (f : ExactForm) (count : ℕ) → IsFinished p f → counted p.sizes count (form_meaning f) ≡ with_more count (length f.entries + length f.products + one_if (is_nonzero f.time))
counted_is p f count h = ap (with_more count) (form_counted p f h)

-- a count that is answered is small
pub counted_few : (count more new : ℕ) → with_more count more ≡ Ok new → new ≤ 2 ^ 16
counted_few count more new h = let given = more_given count more new h in omega (arith, given.0, given.1)

-- a count that fails at the names, or at the pairs
pub names_fault : (p : Place) (f : ExactForm) (count : ℕ) (fault : AffineErr) → IsFinished p f → with_more count (length f.entries) ≡ Err fault → counted p.sizes count (form_meaning f) ≡ Err fault
names_fault p f count fault h names =
    let refused = more_refused count (length f.entries) fault names in
    counted_is p f count h ∙ more_passes count (length f.entries + length f.products + one_if (is_nonzero f.time)) (omega (arith, refused.0)) ∙ ap Err (sym refused.1)

pub pairs_fault : (p : Place) (f : ExactForm) (count with_names : ℕ) (fault : AffineErr) → IsFinished p f → with_more count (length f.entries) ≡ Ok with_names → with_more with_names (length f.products) ≡ Err fault
    → counted p.sizes count (form_meaning f) ≡ Err fault
pairs_fault p f count with_names fault h names pairs =
    let given = more_given count (length f.entries) with_names names in
    let refused = more_refused with_names (length f.products) fault pairs in
    counted_is p f count h ∙ more_passes count (length f.entries + length f.products + one_if (is_nonzero f.time)) (omega (arith, given.1, refused.0)) ∙ ap Err (sym refused.1)

-- a count of a form without time, and of one with it
pub counted_timeless : (p : Place) (f : ExactForm) (count with_names with_pairs : ℕ) → IsFinished p f → with_more count (length f.entries) ≡ Ok with_names → with_more with_names (length f.products) ≡ Ok with_pairs
    → is_nonzero f.time ≡ false → counted p.sizes count (form_meaning f) ≡ Ok with_pairs
counted_timeless p f count with_names with_pairs h names pairs time =
    let given = more_given count (length f.entries) with_names names in
    let given_pairs = more_given with_names (length f.products) with_pairs pairs in
    let without : one_if (is_nonzero f.time) ≡ 0 = ap one_if time in
    let all : count + (length f.entries + length f.products + one_if (is_nonzero f.time)) ≡ with_pairs = omega (arith, given.1, given_pairs.1, without) in
    counted_is p f count h ∙ more_fits count (length f.entries + length f.products + one_if (is_nonzero f.time)) (omega (arith, all, given_pairs.0, given_pairs.1)) ∙ ap Ok all

pub counted_timed : (p : Place) (f : ExactForm) (count with_names with_pairs : ℕ) → IsFinished p f → with_more count (length f.entries) ≡ Ok with_names → with_more with_names (length f.products) ≡ Ok with_pairs
    → is_nonzero f.time ≡ true → with_more with_pairs 1 ≡ counted p.sizes count (form_meaning f)
counted_timed p f count with_names with_pairs h names pairs time =
    let given = more_given count (length f.entries) with_names names in
    let given_pairs = more_given with_names (length f.products) with_pairs pairs in
    let one : one_if (is_nonzero f.time) ≡ 1 = ap one_if time in
    let all : with_pairs + 1 ≡ count + (length f.entries + length f.products + one_if (is_nonzero f.time)) = omega (arith, given.1, given_pairs.1, one) in
    ap (λ k. if nat_lt (2 ^ 16) k then Err (TooDense (2 ^ 16 + 1)) else Ok k) all ∙ sym (counted_is p f count h)
