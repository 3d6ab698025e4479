-- A form whose coefficients are in lowest terms, and which is over a place, can be written down as an exact form.
use Rattle.qss_compile.proofs.Common
use Common.{[], ℕ, ◌+◌, ◌<◌, ◌∙◌, ◌∷◌, ◌≡◌, ◌≤◌, ◌⊎◌, AffineForm, AllByRecursion, ap, arith}
use Common.{cases_Bool, cases_eq, Equal, ExactEntry, ExactForm, ExactProduct, false, form_meaning}
use Common.{Fraction, Greater, inl, inr, is_eq, is_nonzero, IsFinished, IsKeyOrder, IsOver}
use Common.{IsReduced, IsRising, keys_of, Less, level_self, List, map, named, nat_order, none}
use Common.{Ordering, pair_order, paired, Place, refl, subst, suc, sym, value_at, zero}
use Rattle.std.proofs.Math.Path.{fun_ext}
use Rattle.std.specs.List.{filter}
use Rattle.std.specs.List.Sorted.{IsStrictlySortedBy}
use Rattle.std.specs.Ordering.{nat_cmp, ordering_then}
use Rattle.mu_affine.proofs.Finishing.{value_at-nonzeros, AreFinished-nonzeros}
use Rattle.mu_affine.proofs.Fractions.{reduced_zero}
use Rattle.mu_affine.specs.FinishedForms.{AreFinished}
use Rattle.mu_affine.specs.FormRows.{pair_cmp, AreReduced}
use Rattle.qss_compile.proofs.Canonical.{head_value, tail_value}

-- a form of what is allowed at a place, with each coefficient in lowest terms
pub record IsTidy (p : Place) (f : AffineForm) : Type 0 where
  pub over : IsOver p f
  pub names : (v : ℕ) → IsReduced (f.coefficient v)
  pub pairs : (s d : ℕ) → IsReduced (f.paired s d)
  pub time : IsReduced f.time

-- it is one of the keys
abbrev IsIn : {K : Type 0} → K → List K → Type 0
IsIn k [] = ⊥
IsIn k (x ∷ xs) = (k ≡ x) ⊎ IsIn k xs

-- the coefficients under some keys
abbrev valued : {K : Type 0} → (K → Fraction) → List K → List (K × Fraction)
valued c [] = []
valued c (k ∷ ks) = (k, c k) ∷ valued c ks

abbrev nonzeros : {K : Type 0} → List (K × Fraction) → List (K × Fraction)
nonzeros cs = filter (λ c. is_nonzero c.1) cs

valued_keys : {K : Type 0} (c : K → Fraction) (ks : List K) → keys_of (valued c ks) ≡ ks
valued_keys c [] = refl
valued_keys c (k ∷ ks) = ap (λ xs. k ∷ xs) (valued_keys c ks)

module _ {K : Type 0} (R : K → K → Ordering) (o : IsKeyOrder R) (c : K → Fraction) where
  -- the value under a key that is listed, or whose coefficient is 0
  valued_at : (ks : List K) (k : K) → IsIn k ks ⊎ (c k ≡ none) → value_at R (valued c ks) k ≡ c k
  valued_at [] k (inl wrong) = absurd wrong
  valued_at [] k (inr e) = sym e
  valued_at (x ∷ xs) k h = by (λ rest. valued_at xs k rest) (R k x) refl h
    where
      later : (IsIn k xs ⊎ (c k ≡ none) → value_at R (valued c xs) k ≡ c k) → is_eq (R k x) ≡ false → IsIn k xs ⊎ (c k ≡ none) → value_at R (valued c (x ∷ xs)) k ≡ c k
      later rest differs h = tail_value o k (x, c x) (valued c xs) differs ∙ rest h

      by : (IsIn k xs ⊎ (c k ≡ none) → value_at R (valued c xs) k ≡ c k) → (r : Ordering) → R k x ≡ r → IsIn k (x ∷ xs) ⊎ (c k ≡ none) → value_at R (valued c (x ∷ xs)) k ≡ c k
      by rest Equal e h = let key : k ≡ x = o.exact k x e in ap (value_at R (valued c (x ∷ xs))) key ∙ head_value o (x, c x) (valued c xs) ∙ ap c (sym key)
      by rest Less e (inl (inl key)) = absurd (let wrong : Less ≡ Equal = sym e ∙ ap (R k) (sym key) ∙ level_self R o k in cc wrong)
      by rest Less e (inl (inr in_rest)) = later rest (ap is_eq e) (inl in_rest)
      by rest Less e (inr zero_there) = later rest (ap is_eq e) (inr zero_there)
      by rest Greater e (inl (inl key)) = absurd (let wrong : Greater ≡ Equal = sym e ∙ ap (R k) (sym key) ∙ level_self R o k in cc wrong)
      by rest Greater e (inl (inr in_rest)) = later rest (ap is_eq e) (inl in_rest)
      by rest Greater e (inr zero_there) = later rest (ap is_eq e) (inr zero_there)

  -- the coefficients other than 0 under keys in order, all others being 0
  module _ (ks : List K) (sorted : IsStrictlySortedBy R ks) (covers : (k : K) → IsIn k ks ⊎ (c k ≡ none)) (reduced : (k : K) → IsReduced (c k)) where
    rising : IsRising R (valued c ks)
    rising = subst (IsStrictlySortedBy R) (sym (valued_keys c ks)) sorted

    all_reduced : AreReduced R (valued c ks)
    all_reduced k = subst IsReduced (sym (valued_at ks k (covers k))) (reduced k)

    listed_finished : AreFinished R (nonzeros (valued c ks))
    listed_finished = AreFinished-nonzeros R o (valued c ks) rising all_reduced

    listed_value : (k : K) → value_at R (nonzeros (valued c ks)) k ≡ c k
    listed_value k = value_at-nonzeros R o (valued c ks) k rising all_reduced ∙ valued_at ks k (covers k)

-- `count` consecutive numbers from `start`
abbrev count_up : (start count : ℕ) → List ℕ
count_up start zero = []
count_up start (suc more) = start ∷ count_up (suc start) more

below_all : (q start count : ℕ) → q < start → AllByRecursion (λ k. nat_cmp q k ≡ Less) (count_up start count)
below_all q start zero h = tt
below_all q start (suc more) h = (less q start h, below_all q (suc start) more (omega arith))
  where
    less : (m n : ℕ) → m < n → nat_cmp m n ≡ Less
    less m n h = grind (arith, h)

count_sorted : (start count : ℕ) → IsStrictlySortedBy nat_cmp (count_up start count)
unfolding IsStrictlySortedBy
count_sorted start zero = tt
count_sorted start (suc more) = (below_all start (suc start) more (omega arith), count_sorted (suc start) more)

counted_in : (start count v : ℕ) → start ≤ v → v < start + count → IsIn v (count_up start count)
counted_in start zero v low high = absurd (omega arith)
counted_in start (suc more) v low high = elim (cases_eq v start) [ inl e ↦ inl e | inr ne ↦ inr (counted_in (suc start) more v (omega (arith, ne)) (omega arith)) ]

-- the pairs of a number with each of some numbers, before other pairs
abbrev row : ℕ → List ℕ → List (ℕ × ℕ) → List (ℕ × ℕ)
row s [] rest = rest
row s (d ∷ ds) rest = (s, d) ∷ row s ds rest

-- the pairs of `count` consecutive numbers from `start` with each number of a list
abbrev rows_up : List ℕ → (start count : ℕ) → List (ℕ × ℕ)
rows_up ds start zero = []
rows_up ds start (suc more) = row start ds (rows_up ds (suc start) more)

-- a pair precedes the later pairs of its row and the pairs of later rows
before_row : (s d : ℕ) (ds : List ℕ) (rest : List (ℕ × ℕ)) → AllByRecursion (λ k. nat_cmp d k ≡ Less) ds → AllByRecursion (λ k. pair_cmp (s, d) k ≡ Less) rest → AllByRecursion (λ k. pair_cmp (s, d) k ≡ Less) (row s ds rest)
before_row s d [] rest low later = later
before_row s d (e ∷ ds) rest low later = (ap (λ r. ordering_then r (nat_cmp d e)) (level_self nat_cmp nat_order s) ∙ low.0, before_row s d ds rest low.1 later)

before_later : (s d t : ℕ) (ds : List ℕ) (rest : List (ℕ × ℕ)) → nat_cmp s t ≡ Less → AllByRecursion (λ k. pair_cmp (s, d) k ≡ Less) rest → AllByRecursion (λ k. pair_cmp (s, d) k ≡ Less) (row t ds rest)
before_later s d t [] rest low later = later
before_later s d t (e ∷ ds) rest low later = (ap (λ r. ordering_then r (nat_cmp d e)) low, before_later s d t ds rest low later)

before_rows : (s d : ℕ) (ds : List ℕ) (start count : ℕ) → s < start → AllByRecursion (λ k. pair_cmp (s, d) k ≡ Less) (rows_up ds start count)
before_rows s d ds start zero h = tt
before_rows s d ds start (suc more) h = before_later s d start ds (rows_up ds (suc start) more) (less s start h) (before_rows s d ds (suc start) more (omega arith))
  where
    less : (m n : ℕ) → m < n → nat_cmp m n ≡ Less
    less m n h = grind (arith, h)

row_sorted : (s : ℕ) (ds : List ℕ) (rest : List (ℕ × ℕ)) → IsStrictlySortedBy nat_cmp ds → ((d : ℕ) → AllByRecursion (λ k. pair_cmp (s, d) k ≡ Less) rest) → IsStrictlySortedBy pair_cmp rest → IsStrictlySortedBy pair_cmp (row s ds rest)
unfolding IsStrictlySortedBy
row_sorted s [] rest low later sorted = sorted
row_sorted s (d ∷ ds) rest low later sorted = (before_row s d ds rest low.0 (later d), row_sorted s ds rest low.1 later sorted)

rows_sorted : (ds : List ℕ) (start count : ℕ) → IsStrictlySortedBy nat_cmp ds → IsStrictlySortedBy pair_cmp (rows_up ds start count)
unfolding IsStrictlySortedBy
rows_sorted ds start zero low = tt
rows_sorted ds start (suc more) low = row_sorted start ds (rows_up ds (suc start) more) low (λ d. before_rows start d ds (suc start) more (omega arith)) (rows_sorted ds (suc start) more low)

in_row : (s d : ℕ) (ds : List ℕ) (rest : List (ℕ × ℕ)) → IsIn d ds → IsIn (s, d) (row s ds rest)
in_row s d [] rest wrong = absurd wrong
in_row s d (e ∷ ds) rest (inl same) = inl (ap (λ x. (s, x)) same)
in_row s d (e ∷ ds) rest (inr later) = inr (in_row s d ds rest later)

past_row : (k : ℕ × ℕ) (s : ℕ) (ds : List ℕ) (rest : List (ℕ × ℕ)) → IsIn k rest → IsIn k (row s ds rest)
past_row k s [] rest h = h
past_row k s (d ∷ ds) rest h = inr (past_row k s ds rest h)

in_rows : (ds : List ℕ) (start count s d : ℕ) → start ≤ s → s < start + count → IsIn d ds → IsIn (s, d) (rows_up ds start count)
in_rows ds start zero s d low high there = absurd (omega arith)
in_rows ds start (suc more) s d low high there = elim (cases_eq s start) [
  | inl e ↦ subst (λ (t : ℕ). IsIn (s, d) (row t ds (rows_up ds (suc start) more))) e (in_row s d ds (rows_up ds (suc start) more) there)
  | inr ne ↦ past_row (s, d) start ds (rows_up ds (suc start) more) (in_rows ds (suc start) more s d (omega (arith, ne)) (omega arith) there)
]

-- entries of coefficients
abbrev entry_of : ℕ × Fraction → ExactEntry
entry_of c = record { var = c.0; coef = c.1 }

abbrev product_of : (ℕ × ℕ) × Fraction → ExactProduct
product_of c = record { state = c.0.0; discrete = c.0.1; coef = c.1 }

seen_again : {E K : Type 0} (view : E → K × Fraction) (make : K × Fraction → E) → ((c : K × Fraction) → view (make c) ≡ c) → (cs : List (K × Fraction)) → map view (map make cs) ≡ cs
seen_again view make same [] = refl
seen_again view make same (c ∷ cs) = both (view (make c)) c (map view (map make cs)) cs (same c) (seen_again view make same cs)
  where
    both : {A : Type 0} (x y : A) (xs ys : List A) → x ≡ y → xs ≡ ys → x ∷ xs ≡ y ∷ ys
    both x y xs ys p q = ap (λ e. e ∷ xs) p ∙ ap (λ es. y ∷ es) q

-- the parts of a form put together
abbrev form : (ℕ → Fraction) → (ℕ → ℕ → Fraction) → Fraction → Fraction → AffineForm
form c p t k = record { coefficient = c; paired = p; time = t; constant = k }

-- the same coefficients, the same form
same_form : (f g : AffineForm) → ((v : ℕ) → f.coefficient v ≡ g.coefficient v) → ((s d : ℕ) → f.paired s d ≡ g.paired s d) → f.time ≡ g.time → f.constant ≡ g.constant → f ≡ g
same_form f g names pairs time constant =
    let coefficients : f.coefficient ≡ g.coefficient = fun_ext names in
    let table : f.paired ≡ g.paired = fun_ext (λ s. fun_ext (λ d. pairs s d)) in
    ap (λ x. form x f.paired f.time f.constant) coefficients ∙ ap (λ x. form g.coefficient x f.time f.constant) table
    ∙ ap (λ x. form g.coefficient g.paired x f.constant) time ∙ ap (λ x. form g.coefficient g.paired g.time x) constant

-- the names that are allowed at a place, and the pairs
abbrev name_keys : Place → List ℕ
name_keys p = count_up 0 (p.sizes.states + p.sizes.discretes + p.sizes.discretes)

abbrev pair_keys : Place → List (ℕ × ℕ)
pair_keys p = rows_up (count_up p.sizes.states p.sizes.discretes) 0 p.sizes.states

abbrev pair_value : AffineForm → ℕ × ℕ → Fraction
pair_value f k = f.paired k.0 k.1

names_covered : (p : Place) (f : AffineForm) → IsTidy p f → (v : ℕ) → IsIn v (name_keys p) ⊎ (f.coefficient v ≡ none)
names_covered p f tidy v = elim (cases_Bool (is_nonzero (f.coefficient v))) [
  | inl some ↦ inl (counted_in 0 (p.sizes.states + p.sizes.discretes + p.sizes.discretes) v (omega arith) (let low = (tidy.over.names v some).0 in omega (arith, low)))
  | inr none_there ↦ inr (reduced_zero (f.coefficient v) (tidy.names v) none_there)
]

pairs_covered : (p : Place) (f : AffineForm) → IsTidy p f → (k : ℕ × ℕ) → IsIn k (pair_keys p) ⊎ (pair_value f k ≡ none)
pairs_covered p f tidy k = elim (cases_Bool (is_nonzero (f.paired k.0 k.1))) [
  | inl some ↦
      let low = (tidy.over.pairs k.0 k.1 some).0 in
      let first = low.0 in
      let second = low.1 in
      let third = low.2 in
      inl (in_rows (count_up p.sizes.states p.sizes.discretes) 0 p.sizes.states k.0 k.1 (omega arith) (omega (arith, first)) (counted_in p.sizes.states p.sizes.discretes k.1 second third))
  | inr none_there ↦ inr (reduced_zero (f.paired k.0 k.1) (tidy.pairs k.0 k.1) none_there)
]

-- the coefficients of a tidy form that are not 0
abbrev name_values : Place → AffineForm → List (ℕ × Fraction)
name_values p f = nonzeros (valued f.coefficient (name_keys p))

abbrev pair_values : Place → AffineForm → List ((ℕ × ℕ) × Fraction)
pair_values p f = nonzeros (valued (pair_value f) (pair_keys p))

-- and the exact form of them
abbrev exact : Place → AffineForm → ExactForm
exact p f = record { entries = map entry_of (name_values p f); products = map product_of (pair_values p f); time = f.time; constant = f.constant }

-- a tidy form is written down as a finished exact form
pub form_listed : (p : Place) (f : AffineForm) → IsTidy p f → (g : ExactForm) × (form_meaning g ≡ f) × IsFinished p g
form_listed p f tidy =
    let names_sorted : IsStrictlySortedBy nat_cmp (name_keys p) = count_sorted 0 (p.sizes.states + p.sizes.discretes + p.sizes.discretes) in
    let pairs_sorted : IsStrictlySortedBy pair_cmp (pair_keys p) = rows_sorted (count_up p.sizes.states p.sizes.discretes) 0 p.sizes.states (count_sorted p.sizes.states p.sizes.discretes) in
    let of_names : map named (map entry_of (name_values p f)) ≡ name_values p f = seen_again named entry_of (λ c. refl) (name_values p f) in
    let of_pairs : map paired (map product_of (pair_values p f)) ≡ pair_values p f = seen_again paired product_of (λ c. refl) (pair_values p f) in
    let name_reduced = tidy.names in
    let pair_reduced : (k : ℕ × ℕ) → IsReduced (pair_value f k) = λ k. tidy.pairs k.0 k.1 in
    let means : form_meaning (exact p f) ≡ f = same_form (form_meaning (exact p f)) f
    (λ v. ap (λ xs. value_at nat_cmp xs v) of_names ∙ listed_value nat_cmp nat_order f.coefficient (name_keys p) names_sorted (names_covered p f tidy) name_reduced v)
    (λ s d. ap (λ xs. value_at pair_cmp xs (s, d)) of_pairs ∙ listed_value pair_cmp pair_order (pair_value f) (pair_keys p) pairs_sorted (pairs_covered p f tidy) pair_reduced (s, d))
    refl refl in (
      exact p f,
      means,
      record {
        canonical = record {
          names = subst (AreFinished nat_cmp) (sym of_names) (listed_finished nat_cmp nat_order f.coefficient (name_keys p) names_sorted (names_covered p f tidy) name_reduced);
          pairs = subst (AreFinished pair_cmp) (sym of_pairs) (listed_finished pair_cmp pair_order (pair_value f) (pair_keys p) pairs_sorted (pairs_covered p f tidy) pair_reduced);
          time = tidy.time;
        };
        over = subst (IsOver p) (sym means) tidy.over;
      },
    )
