-- Records parse as at most one certificate.
use Rattle.cert_check.proofs.Common
use Common.{[], ℕ, ℤ, ◌*◌, ◌++◌, ◌+◌, ◌∙◌, ◌∷◌, ◌≡◌, ◌≤◌, ◌⊎◌, AllZip, ap, append_assoc, ap₂}
use Common.{AreInForm, AreRecordsOf, arith, Certificate, codes, first_number, get_or, inl, inr}
use Common.{IsNumber, IsSize, IsSquareTable, IsVector, length, length-append, length-map, Line}
use Common.{line, line_count, lines, List, Machine, map, number_in, ParsesAs, pos, quanta, refl}
use Common.{row_lines, Some, start_states, subst, suc, sym, take, zero}
use Rattle.std.proofs.Math.Bridge.{le_prop}
use Rattle.std.proofs.Math.Dec.{T_prop}
use Rattle.std.proofs.Math.Nat.{ℕ_set}
use Rattle.std.proofs.Math.Bool.{Bool-set}
use Rattle.std.proofs.lemmas.List.{take_at}
use Rattle.cert_check.proofs.Assembled.{Fields}
use Rattle.cert_check.proofs.FieldPlaces.{length-layout}
use Rattle.cert_check.proofs.Spelt.{due_of, line-dues, spelt-number}

-- ---- certificates with the same numbers

-- the numbers keep a certificate's limits
pub record AreSound (n : ℕ) (f : Fields) : Type 0 where
  pub size : IsSize n
  pub pm : IsSquareTable n f.pm
  pub p : IsVector n f.p
  pub mu : IsVector n f.mu
  pub lambda : IsNumber f.lambda
  pub h1 : IsNumber f.h1
  pub g1 : IsSquareTable n f.g1
  pub h2 : IsNumber f.h2
  pub g2 : IsSquareTable n f.g2
  pub c : IsVector n f.c
  pub r : IsNumber f.r
  pub z : IsVector n f.z
  pub s : IsVector n f.s
  pub sigma_r : IsVector n f.sigma_r
  pub cc_ : IsNumber f.cc
  pub sigma_c : IsVector n f.sigma_c
  pub e : IsVector n f.e
  pub start1 : IsVector n f.start1
  pub start2 : IsVector n f.start2
  pub q : IsVector n f.q

-- the certificate with these numbers
abbrev pub certificate_of : (n : ℕ) (f : Fields) → AreSound n f → Certificate
certificate_of n f h = record {
  n = n;
  pm = f.pm;
  p = f.p;
  mu = f.mu;
  lambda = f.lambda;
  h1 = f.h1;
  g1 = f.g1;
  h2 = f.h2;
  g2 = f.g2;
  c = f.c;
  r = f.r;
  z = f.z;
  s = f.s;
  sigma_r = f.sigma_r;
  cc = f.cc;
  sigma_c = f.sigma_c;
  e = f.e;
  start1 = f.start1;
  start2 = f.start2;
  q = f.q;
  has_size = h.size;
  has_pm = h.pm;
  has_p = h.p;
  has_mu = h.mu;
  has_lambda = h.lambda;
  has_h1 = h.h1;
  has_g1 = h.g1;
  has_h2 = h.h2;
  has_g2 = h.g2;
  has_c = h.c;
  has_r = h.r;
  has_z = h.z;
  has_s = h.s;
  has_sigma_r = h.sigma_r;
  has_cc = h.cc_;
  has_sigma_c = h.sigma_c;
  has_e = h.e;
  has_start1 = h.start1;
  has_start2 = h.start2;
  has_q = h.q;
}

abbrev numbers_of : Certificate → Fields
numbers_of x = record {
  pm = x.pm;
  p = x.p;
  mu = x.mu;
  lambda = x.lambda;
  h1 = x.h1;
  g1 = x.g1;
  h2 = x.h2;
  g2 = x.g2;
  c = x.c;
  r = x.r;
  z = x.z;
  s = x.s;
  sigma_r = x.sigma_r;
  cc = x.cc;
  sigma_c = x.sigma_c;
  e = x.e;
  start1 = x.start1;
  start2 = x.start2;
  q = x.q;
}

abbrev sound_of : (x : Certificate) → AreSound x.n (numbers_of x)
sound_of x = record {
  size = x.has_size;
  pm = x.has_pm;
  p = x.has_p;
  mu = x.has_mu;
  lambda = x.has_lambda;
  h1 = x.has_h1;
  g1 = x.has_g1;
  h2 = x.has_h2;
  g2 = x.has_g2;
  c = x.has_c;
  r = x.has_r;
  z = x.has_z;
  s = x.has_s;
  sigma_r = x.has_sigma_r;
  cc_ = x.has_cc;
  sigma_c = x.has_sigma_c;
  e = x.has_e;
  start1 = x.has_start1;
  start2 = x.has_start2;
  q = x.has_q;
}

-- soundness has one proof at most
sound_once : (n : ℕ) (f : Fields) → IsProp (AreSound n f)
sound_once n f = hlevel (le_prop, T_prop, ℕ_set, Bool-set)

record Whole : Type 0 where
  size : ℕ
  numbers : Fields

abbrev whole_of : Certificate → Whole
whole_of x = record { size = x.n; numbers = numbers_of x }

same-certificate : (a b : Certificate) → whole_of a ≡ whole_of b → a ≡ b
same-certificate a b e =
    let P : Whole → Type 0 = λ w. (sound : AreSound w.size w.numbers) → a ≡ certificate_of w.size w.numbers sound in
    let here : P (whole_of a) = λ sound. ap (certificate_of a.n (numbers_of a)) (sound_once a.n (numbers_of a) (sound_of a) sound) in
    subst P e here (sound_of b)

-- ---- lines that the same records parse as

pub somes : (xs ys : List ℤ) → map (λ z. Some z) xs ≡ map (λ z. Some z) ys → xs ≡ ys
somes [] [] e = refl
somes [] (y ∷ ys) e = absurd (cc)
somes (x ∷ xs) [] e = absurd (cc)
somes (x ∷ xs) (y ∷ ys) e =
    let first : x ≡ y = cc in
    let more : map (λ z. Some z) xs ≡ map (λ z. Some z) ys = cc in
    ap₂ (λ (a : ℤ) (b : List ℤ). a ∷ b) first (somes xs ys more)

pub same-line : (fields : List (List ℕ)) (l k : Line) → ParsesAs fields l → ParsesAs fields k → l ≡ k
same-line fields l k a b =
    let both : l.keyword ∷ a.0 ≡ k.keyword ∷ b.0 = sym a.1 ∙ b.1 in
    let keyword : l.keyword ≡ k.keyword = cc in
    let numerals : a.0 ≡ b.0 = cc in
    let numbers = somes l.numbers k.numbers (sym a.2 ∙ ap (map number_in) numerals ∙ b.2) in
    λ i. line (keyword i) (numbers i)

pub same-lines : (records : List (List (List ℕ))) (ls ks : List Line) → AllZip ParsesAs records ls → AllZip ParsesAs records ks → ls ≡ ks
same-lines [] [] [] a b = refl
same-lines [] [] (k ∷ ks) a b = absurd b
same-lines [] (l ∷ ls) ks a b = absurd a
same-lines (r ∷ rs) [] ks a b = absurd a
same-lines (r ∷ rs) (l ∷ ls) [] a b = absurd b
same-lines (r ∷ rs) (l ∷ ls) (k ∷ ks) a b = ap₂ (λ (x : Line) (xs : List Line). x ∷ xs) (same-line r l k a.0 b.0) (same-lines rs ls ks a.1 b.1)

-- ---- the lines before the starts, and those after

abbrev body : ℤ → Certificate → List Line → List Line
body z x t =
    line (codes "form") (z ∷ [])
    ∷ (row_lines (codes "P") x.pm
    ++ (line (codes "p") x.p
    ∷ line (codes "mu") x.mu
    ∷ line (codes "lambda") (x.lambda ∷ [])
    ∷ line (codes "h1") (x.h1 ∷ [])
    ∷ (row_lines (codes "G1") x.g1
    ++ (line (codes "h2") (x.h2 ∷ [])
    ∷ (row_lines (codes "G2") x.g2
    ++ (line (codes "c") x.c
    ∷ line (codes "R") (x.r ∷ [])
    ∷ line (codes "Z") x.z
    ∷ line (codes "S") x.s
    ∷ line (codes "sigmaR") x.sigma_r
    ∷ line (codes "C") (x.cc ∷ [])
    ∷ line (codes "sigmaC") x.sigma_c
    ∷ line (codes "E") x.e
    ∷ t))))))

abbrev ends : Certificate → List Line
ends x = line (codes "start1") x.start1 ∷ line (codes "start2") x.start2 ∷ line (codes "Q") x.q ∷ []

body-cut : (z : ℤ) (x : Certificate) (t : List Line) → body z x t ≡ body z x [] ++ t
body-cut z x t = simp append_assoc

lines-size : (z : ℤ) (x : Certificate) → length (lines z x) ≡ 3 * x.n + 17
lines-size z x = sym (length-map (lines z x) due_of) ∙ ap length (line-dues z x) ∙ length-layout x.n

front-size : (z : ℤ) (x : Certificate) → length (body z x []) ≡ 3 * x.n + 14
front-size z x = omega (arith, lines-size z x, ap length (body-cut z x (ends x)), length-append (body z x []) (ends x))

-- the first `count` lines
first-lines : (z : ℤ) (x : Certificate) (t u : List Line) (count : ℕ) → ends x ≡ t ++ u → count ≡ 3 * x.n + 14 + length t → take count (lines z x) ≡ body z x [] ++ t
first-lines z x t u count cut size =
    let whole : lines z x ≡ (body z x [] ++ t) ++ u = body-cut z x (ends x) ∙ ap (λ (ls : List Line). body z x [] ++ ls) cut ∙ sym (append_assoc (body z x []) t u) in
    ap (take count) whole ∙ take_at (body z x [] ++ t) u count (omega (arith, front-size z x, length-append (body z x []) t))

rejoined : (z : ℤ) (x : Certificate) → lines z x ≡ body z x [] ++ ends x
rejoined z x = body-cut z x (ends x)

-- ---- what lines state about their numbers

rows-apart : (keyword : List ℕ) (xs ys : List (List ℤ)) (u v : List Line) → length xs ≡ length ys → row_lines keyword xs ++ u ≡ row_lines keyword ys ++ v → (xs ≡ ys) × (u ≡ v)
rows-apart keyword [] [] u v size e = (refl, e)
rows-apart keyword [] (y ∷ ys) u v size e = absurd (omega arith)
rows-apart keyword (x ∷ xs) [] u v size e = absurd (omega arith)
rows-apart keyword (x ∷ xs) (y ∷ ys) u v size e =
    let first : line keyword x ≡ line keyword y = cc in
    let more : row_lines keyword xs ++ u ≡ row_lines keyword ys ++ v = cc in
    let rest = rows-apart keyword xs ys u v (omega arith) more in
    (ap₂ (λ (a : List ℤ) (b : List (List ℤ)). a ∷ b) (ap (λ (l : Line). l.numbers) first) rest.0, rest.1)

-- the first line and the rest
abbrev behind : List Line → List Line
behind [] = []
behind (l ∷ ls) = ls

abbrev numbers_at : ℕ → List Line → List ℤ
numbers_at k ls = (get_or ls k (line [] [])).numbers

only-one : (x y : ℤ) → ◌≡◌ {A = List ℤ} (x ∷ []) (y ∷ []) → x ≡ y
only-one x y e = cc

abbrev after3 : Certificate → List Line
after3 x =
    line (codes "c") x.c ∷ line (codes "R") (x.r ∷ []) ∷ line (codes "Z") x.z ∷ line (codes "S") x.s ∷ line (codes "sigmaR") x.sigma_r
    ∷ line (codes "C") (x.cc ∷ []) ∷ line (codes "sigmaC") x.sigma_c ∷ line (codes "E") x.e ∷ ends x

abbrev after2 : Certificate → List Line
after2 x = line (codes "h2") (x.h2 ∷ []) ∷ (row_lines (codes "G2") x.g2 ++ after3 x)

abbrev after1 : Certificate → List Line
after1 x = line (codes "p") x.p ∷ line (codes "mu") x.mu ∷ line (codes "lambda") (x.lambda ∷ []) ∷ line (codes "h1") (x.h1 ∷ []) ∷ (row_lines (codes "G1") x.g1 ++ after2 x)

drop_four : List Line → List Line
drop_four ls = behind (behind (behind (behind ls)))

same-numbers : (z : ℤ) (a b : Certificate) → a.n ≡ b.n → lines z a ≡ lines z b → whole_of a ≡ whole_of b
same-numbers z a b size e =
    let d1 = rows-apart (codes "P") a.pm b.pm (after1 a) (after1 b) (a.has_pm.one_each ∙ size ∙ sym b.has_pm.one_each) (ap behind e) in
    let d2 = rows-apart (codes "G1") a.g1 b.g1 (after2 a) (after2 b) (a.has_g1.one_each ∙ size ∙ sym b.has_g1.one_each) (ap (λ (ls : List Line). behind (behind (behind (behind ls)))) d1.1) in
    let d3 = rows-apart (codes "G2") a.g2 b.g2 (after3 a) (after3 b) (a.has_g2.one_each ∙ size ∙ sym b.has_g2.one_each) (ap behind d2.1) in
    let pm = d1.0 in
    let p : a.p ≡ b.p = ap (numbers_at 0) d1.1 in
    let mu : a.mu ≡ b.mu = ap (numbers_at 1) d1.1 in
    let lambda : a.lambda ≡ b.lambda = only-one a.lambda b.lambda (ap (numbers_at 2) d1.1) in
    let h1 : a.h1 ≡ b.h1 = only-one a.h1 b.h1 (ap (numbers_at 3) d1.1) in
    let g1 = d2.0 in
    let h2 : a.h2 ≡ b.h2 = only-one a.h2 b.h2 (ap (numbers_at 0) d2.1) in
    let g2 = d3.0 in
    let c : a.c ≡ b.c = ap (numbers_at 0) d3.1 in
    let r : a.r ≡ b.r = only-one a.r b.r (ap (numbers_at 1) d3.1) in
    let zs : a.z ≡ b.z = ap (numbers_at 2) d3.1 in
    let s : a.s ≡ b.s = ap (numbers_at 3) d3.1 in
    let sigma_r : a.sigma_r ≡ b.sigma_r = ap (numbers_at 4) d3.1 in
    let most : a.cc ≡ b.cc = only-one a.cc b.cc (ap (numbers_at 5) d3.1) in
    let sigma_c : a.sigma_c ≡ b.sigma_c = ap (numbers_at 6) d3.1 in
    let far : a.e ≡ b.e = ap (numbers_at 7) d3.1 in
    let start1 : a.start1 ≡ b.start1 = ap (numbers_at 8) d3.1 in
    let start2 : a.start2 ≡ b.start2 = ap (numbers_at 9) d3.1 in
    let q : a.q ≡ b.q = ap (numbers_at 10) d3.1 in
    λ i. record {
      size = size i;
      numbers = record {
        pm = pm i;
        p = p i;
        mu = mu i;
        lambda = lambda i;
        h1 = h1 i;
        g1 = g1 i;
        h2 = h2 i;
        g2 = g2 i;
        c = c i;
        r = r i;
        z = zs i;
        s = s i;
        sigma_r = sigma_r i;
        cc = most i;
        sigma_c = sigma_c i;
        e = far i;
        start1 = start1 i;
        start2 = start2 i;
        q = q i;
      };
    }

-- ---- the three forms

-- the number of the form is in the first record
form-number : (form : ℕ) (records : List (List (List ℕ))) (x : Certificate) (count : ℕ) → line_count x.n form ≡ count → 1 ≤ count → AllZip ParsesAs records (take count (lines (pos form) x))
    → first_number (get_or records 0 []) ≡ pos form
form-number form records x zero is some h = absurd (omega arith)
form-number form [] x (suc count) is some h = absurd h
form-number form (fields ∷ rest) x (suc count) is some h = spelt-number fields (codes "form") (pos form) h.0

one-form : (form : ℕ) (records : List (List (List ℕ))) (a b : Certificate) (t u s v : List Line) → a.n ≡ b.n → ends a ≡ t ++ u → ends b ≡ s ++ v → length t ≡ length s
    → line_count a.n form ≡ 3 * a.n + 14 + length t → AreInForm form records a → AreInForm form records b → body (pos form) a [] ++ t ≡ body (pos form) b [] ++ s
one-form form records a b t u s v size cut cut' same count ha hb =
    let count' : line_count b.n form ≡ 3 * b.n + 14 + length s = ap (λ n. line_count n form) (sym size) ∙ count ∙ ap₂ (λ n k. 3 * n + 14 + k) size same in
    let left = first-lines (pos form) a t u (line_count a.n form) cut count in
    let right = first-lines (pos form) b s v (line_count b.n form) cut' count' in
    sym left ∙ same-lines records (take (line_count a.n form) (lines (pos form) a)) (take (line_count b.n form) (lines (pos form) b)) ha hb ∙ right

-- certificates with equal first lines and equal last lines have equal lines
joined-lines : (z : ℤ) (a b : Certificate) → body z a [] ≡ body z b [] → ends a ≡ ends b → lines z a ≡ lines z b
joined-lines z a b front end = rejoined z a ∙ ap₂ (λ (x y : List Line). x ++ y) front end ∙ sym (rejoined z b)

same-ends : (a b : Certificate) → a.start1 ≡ b.start1 → a.start2 ≡ b.start2 → a.q ≡ b.q → ends a ≡ ends b
same-ends a b one two q = λ i. line (codes "start1") (one i) ∷ line (codes "start2") (two i) ∷ line (codes "Q") (q i) ∷ []

-- two lists that begin alike, of as many lines
fronts-apart : (xs ys t s : List Line) → length xs ≡ length ys → xs ++ t ≡ ys ++ s → (xs ≡ ys) × (t ≡ s)
fronts-apart [] [] t s size e = (refl, e)
fronts-apart [] (y ∷ ys) t s size e = absurd (omega arith)
fronts-apart (x ∷ xs) [] t s size e = absurd (omega arith)
fronts-apart (x ∷ xs) (y ∷ ys) t s size e =
    let first : x ≡ y = cc in
    let more : xs ++ t ≡ ys ++ s = cc in
    let rest = fronts-apart xs ys t s (omega arith) more in
    (ap₂ (λ (a : Line) (b : List Line). a ∷ b) first rest.0, rest.1)

fronts : (form : ℕ) (a b : Certificate) (t s : List Line) → a.n ≡ b.n → body (pos form) a [] ++ t ≡ body (pos form) b [] ++ s → (body (pos form) a [] ≡ body (pos form) b []) × (t ≡ s)
fronts form a b t s size e =
    fronts-apart (body (pos form) a []) (body (pos form) b []) t s (front-size (pos form) a ∙ ap (λ n. 3 * n + 14) size ∙ sym (front-size (pos form) b)) e

module _ (m : Machine) (records : List (List (List ℕ))) (a b : Certificate) (size : a.n ≡ b.n) where
  first-form : AreInForm 1 records a → AreInForm 1 records b → ends a ≡ ends b → a ≡ b
  first-form ha hb end =
      let front = one-form 1 records a b [] (ends a) [] (ends b) size refl refl refl (omega arith) ha hb in
      same-certificate a b (same-numbers (pos 1) a b size (joined-lines (pos 1) a b (fronts 1 a b [] [] size front).0 end))

  second-form : AreInForm 2 records a → AreInForm 2 records b → a.q ≡ b.q → a ≡ b
  second-form ha hb q =
      let t = line (codes "start1") a.start1 ∷ line (codes "start2") a.start2 ∷ [] in
      let s = line (codes "start1") b.start1 ∷ line (codes "start2") b.start2 ∷ [] in
      let front = one-form 2 records a b t (line (codes "Q") a.q ∷ []) s (line (codes "Q") b.q ∷ []) size refl refl refl (omega arith) ha hb in
      let parts = fronts 2 a b t s size front in
      same-certificate a b
      (same-numbers (pos 2) a b size (joined-lines (pos 2) a b parts.0 (same-ends a b (ap (numbers_at 0) parts.1) (ap (numbers_at 1) parts.1) q)))

  third-form : AreInForm 3 records a → AreInForm 3 records b → a ≡ b
  third-form ha hb =
      let front = one-form 3 records a b (ends a) [] (ends b) [] size refl refl refl (omega arith) ha hb in
      let parts = fronts 3 a b (ends a) (ends b) size front in
      same-certificate a b (same-numbers (pos 3) a b size (joined-lines (pos 3) a b parts.0 parts.1))

some-count : (n form : ℕ) → (line_count n form ≡ 3 * n + 14) ⊎ (line_count n form ≡ 3 * n + 16) ⊎ (line_count n form ≡ 3 * n + 17) → 1 ≤ line_count n form
some-count n form (inl e) = omega arith
some-count n form (inr (inl e)) = omega arith
some-count n form (inr (inr e)) = omega arith

named-1 : (records : List (List (List ℕ))) (x : Certificate) → AreInForm 1 records x → first_number (get_or records 0 []) ≡ pos 1
named-1 records x h = form-number 1 records x (line_count x.n 1) refl (some-count x.n 1 (inl refl)) h

named-2 : (records : List (List (List ℕ))) (x : Certificate) → AreInForm 2 records x → first_number (get_or records 0 []) ≡ pos 2
named-2 records x h = form-number 2 records x (line_count x.n 2) refl (some-count x.n 2 (inr (inl refl))) h

named-3 : (records : List (List (List ℕ))) (x : Certificate) → AreInForm 3 records x → first_number (get_or records 0 []) ≡ pos 3
named-3 records x h = form-number 3 records x (line_count x.n 3) refl (some-count x.n 3 (inr (inr refl))) h

other-form : {X : Type 0} (k j : ℕ) (z : ℤ) → z ≡ pos k → z ≡ pos j → (k ≡ j → ⊥) → X
other-form k j z a b apart = absurd (apart (let same : pos k ≡ pos j = sym a ∙ b in cc))

-- in which form records parse as a certificate, and what they then leave out
abbrev Spelt : Machine → List (List (List ℕ)) → Certificate → Type 0
Spelt m records c =
    (AreInForm 1 records c × (c.start1 ≡ start_states m) × (c.start2 ≡ start_states m) × (c.q ≡ quanta m)) ⊎ (AreInForm 2 records c × (c.q ≡ quanta m)) ⊎ AreInForm 3 records c

-- records parse as at most one certificate of a machine
pub same-records : (m : Machine) (records : List (List (List ℕ))) (a b : Certificate) → AreRecordsOf m records a → AreRecordsOf m records b → a ≡ b
same-records m records a b ra rb = by ra.spelt rb.spelt
  where
    size : a.n ≡ b.n
    size = ra.size ∙ sym rb.size

    by : Spelt m records a → Spelt m records b → a ≡ b
    by (inl x) (inl y) = first-form m records a b size x.0 y.0 (same-ends a b (x.1 ∙ sym y.1) (x.2 ∙ sym y.2) (x.3 ∙ sym y.3))
    by (inl x) (inr (inl y)) = other-form 1 2 _ (named-1 records a x.0) (named-2 records b y.0) (λ e. omega arith)
    by (inl x) (inr (inr y)) = other-form 1 3 _ (named-1 records a x.0) (named-3 records b y) (λ e. omega arith)
    by (inr (inl x)) (inl y) = other-form 2 1 _ (named-2 records a x.0) (named-1 records b y.0) (λ e. omega arith)
    by (inr (inl x)) (inr (inl y)) = second-form m records a b size x.0 y.0 (x.1 ∙ sym y.1)
    by (inr (inl x)) (inr (inr y)) = other-form 2 3 _ (named-2 records a x.0) (named-3 records b y) (λ e. omega arith)
    by (inr (inr x)) (inl y) = other-form 3 1 _ (named-3 records a x) (named-1 records b y.0) (λ e. omega arith)
    by (inr (inr x)) (inr (inl y)) = other-form 3 2 _ (named-3 records a x) (named-2 records b y.0) (λ e. omega arith)
    by (inr (inr x)) (inr (inr y)) = third-form m records a b size x y
