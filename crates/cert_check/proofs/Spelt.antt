-- Records that parse as lines have no fault.
use Rattle.cert_check.proofs.Common
use Common.{[], ℕ, ℤ, ◌*◌, ◌+◌, ◌==◌, ◌∙◌, ◌∷◌, ◌≡◌, ◌≤◌, All, AllZip, ap, ap₂, AreInForm, arith}
use Common.{Bool, bytes_eq, bytes_eq-Decides, Certificate, codes, Expected, expected, false}
use Common.{fault_in_form, first_fault, first_number, form_in, get_or, if◌then◌else◌, is_no_number}
use Common.{IsVector, layout, length, length-map, Line, line, line_count, lines, List, map}
use Common.{map-append, None, number_in, option_or, ParsesAs, pos, position_from, record_fault}
use Common.{refl, replicate, row_lines, Some, subst, suc, sym, take, text_fault, true, zero}
use Rattle.std.proofs.lemmas.List.{take-map}
use Rattle.std.proofs.lemmas.Bool.{eq-eqb}

abbrev pub due_of : Line → Expected
due_of l = expected l.keyword (length l.numbers)

same-bytes : (bs : List ℕ) → bytes_eq bs bs ≡ true
same-bytes bs = (bytes_eq-Decides bs bs).1 refl

all-numbers : (numerals : List (List ℕ)) (numbers : List ℤ) (k : ℕ) → map number_in numerals ≡ map (λ z. Some z) numbers → position_from is_no_number k numerals ≡ None
all-numbers [] numbers k e = refl
all-numbers (field ∷ rest) [] k e = absurd (cc)
all-numbers (field ∷ rest) (z ∷ zs) k e =
    let first : number_in field ≡ Some z = cc in
    let more : map number_in rest ≡ map (λ z. Some z) zs = cc in
    rw first (all-numbers rest zs (k + 1) more)

pub as-many : (numerals : List (List ℕ)) (numbers : List ℤ) → map number_in numerals ≡ map (λ z. Some z) numbers → length numerals ≡ length numbers
as-many numerals numbers e =
    sym (length-map numerals number_in) ∙ ap length e ∙ length-map numbers (λ (z : ℤ). Some z)

-- a record that parses as a line has no fault against it
pub spelt-fine : (number : ℕ) (fields : List (List ℕ)) (l : Line) → ParsesAs fields l → record_fault number (due_of l) fields ≡ None
spelt-fine number fields l spells =
    let numerals = spells.0 in
    let is = spells.1 in
    let numbers = spells.2 in
    let count : length (l.keyword ∷ numerals) ≡ length l.numbers + 1 = omega (arith, as-many numerals l.numbers numbers) in
    let P : List (List ℕ) → Type 0 = λ f. record_fault number (due_of l) f ≡ None in
    subst P (sym is) (rw (same-bytes l.keyword, eq-eqb _ _ count, all-numbers numerals l.numbers 2 numbers) refl)

-- so have records that parse as lines
pub lines-fine : (number : ℕ) (records : List (List (List ℕ))) (ls : List Line) → AllZip ParsesAs records ls → first_fault number (map due_of ls) records ≡ None
lines-fine number [] [] h = refl
lines-fine number [] (l ∷ ls) h = absurd h
lines-fine number (fields ∷ rest) [] h = absurd h
lines-fine number (fields ∷ rest) (l ∷ ls) h =
    rw (spelt-fine number fields l h.0) (lines-fine (number + 1) rest ls h.1)

-- the lines of a certificate are the expected ones
row-dues : (keyword : List ℕ) (n : ℕ) (rows : List (List ℤ)) → All (IsVector n) rows → map due_of (row_lines keyword rows) ≡ replicate (length rows) (expected keyword n)
row-dues keyword n [] h = refl
row-dues keyword n (row ∷ rest) h =
    let first : length row ≡ n = (h 0 [] (omega arith)).one_each in
    let more = row-dues keyword n rest (λ k d l. h (suc k) d (omega arith)) in
    ap₂ (λ (a : ℕ) (b : List Expected). expected keyword a ∷ b) first more

matrix-dues : (keyword : List ℕ) (n : ℕ) (rows : List (List ℤ)) → length rows ≡ n → All (IsVector n) rows → map due_of (row_lines keyword rows) ≡ replicate n (expected keyword n)
matrix-dues keyword n rows size h = row-dues keyword n rows h ∙ ap (λ k. replicate k (expected keyword n)) size

pub line-dues : (z : ℤ) (c : Certificate) → map due_of (lines z c) ≡ layout c.n
line-dues z c =
    let p = matrix-dues (codes "P") c.n c.pm c.has_pm.one_each c.has_pm.each in
    let g1 = matrix-dues (codes "G1") c.n c.g1 c.has_g1.one_each c.has_g1.each in
    let g2 = matrix-dues (codes "G2") c.n c.g2 c.has_g2.one_each c.has_g2.each in
    simp (
      map-append,
      p,
      g1,
      g2,
      c.has_p.one_each,
      c.has_mu.one_each,
      c.has_c.one_each,
      c.has_z.one_each,
      c.has_s.one_each,
      c.has_sigma_r.one_each,
      c.has_sigma_c.one_each,
      c.has_e.one_each,
      c.has_start1.one_each,
      c.has_start2.one_each,
      c.has_q.one_each,
    )

some-lines : (n form : ℕ) → 1 ≤ line_count n form
some-lines n form = by (form == 1) (form == 2)
  where
    by : (s t : Bool) → 1 ≤ (if s then 3 * n + 14 else if t then 3 * n + 16 else 3 * n + 17)
    by true t = omega arith
    by false true = omega arith
    by false false = omega arith

-- the number of a line of one number
pub one-number : (numerals : List (List ℕ)) (z : ℤ) → map number_in numerals ≡ Some z ∷ [] → number_in (get_or numerals 0 []) ≡ Some z
one-number [] z e = absurd (cc)
one-number (field ∷ rest) z e = cc

pub spelt-number : (fields : List (List ℕ)) (keyword : List ℕ) (z : ℤ) → ParsesAs fields (line keyword (z ∷ [])) → first_number fields ≡ z
spelt-number fields keyword z spells =
    let P : List (List ℕ) → Type 0 = λ f. first_number f ≡ z in
    subst P (sym spells.1) (rw (one-number spells.0 z spells.2) refl)

-- a text of a certificate in a form has no fault
pub form-fine : (form n : ℕ) (records : List (List (List ℕ))) (c : Certificate) → c.n ≡ n → form_in (pos form) ≡ Some form → AreInForm form records c
    → text_fault n records ≡ None
form-fine form n records c size known spelt =
    by records (line_count c.n form) refl spelt (some-lines c.n form)
  where
    by : (rs : List (List (List ℕ))) (count : ℕ) → line_count c.n form ≡ count → AllZip ParsesAs rs (take count (lines (pos form) c)) → 1 ≤ count → text_fault n rs ≡ None
    by rs zero e h some = absurd (omega arith)
    by [] (suc count) e h some = absurd h
    by (fields ∷ rest) (suc count) e h some =
        let fine = spelt-fine 1 fields (line (codes "form") (pos form ∷ [])) h.0 in
        let number = spelt-number fields (codes "form") (pos form) h.0 in
        let dues : map due_of (take (suc count) (lines (pos form) c)) ≡ take (line_count n form) (layout n) =
        sym (take-map due_of (suc count) (lines (pos form) c)) ∙ ap₂ (λ k ds. take k ds) (sym e) (line-dues (pos form) c)
        ∙ ap (λ m. take (line_count m form) (layout m)) size in
        let none = lines-fine 1 (fields ∷ rest) (take (suc count) (lines (pos form) c)) h in
        let Q : List Expected → Type 0 = λ ds. first_fault 1 ds (fields ∷ rest) ≡ None in
        ap (λ o. option_or o (fault_in_form n (fields ∷ rest) (first_number fields) (form_in (first_number fields)))) fine
        ∙ ap (λ z. fault_in_form n (fields ∷ rest) z (form_in z)) number
        ∙ ap (fault_in_form n (fields ∷ rest) (pos form)) known
        ∙ subst Q dues none
