-- The lines of a certificate that is made of its rows.
use Rattle.cert_check.proofs.Common
use Common.{[], ℕ, ℤ, ◌*◌, ◌++◌, ◌+◌, ◌<◌, ◌∙◌, ◌∷◌, ◌≡◌, ◌≤◌, All, ap, arith, codes, drop}
use Common.{drop_more, Expected, expected, FitsSigned, get_or, ints, IsNumber, IsSquare, layout}
use Common.{length, Line, line, lines_from, List, negsuc, of_z, pos, refl, replicate, row_lines}
use Common.{suc, sym, table, take, to_z, to_z-of_z, vector, w128, zero}
use Rattle.std.proofs.lemmas.List.{ext_get_or}
use Rattle.cert_check.proofs.FieldPlaces.{after_p, after_g1, after_g2}

-- two matrices with the same entries
pub same-tables : (n : ℕ) (rows rows' : List (List ℤ)) → length rows ≡ n → IsSquare rows → length rows' ≡ n → All (λ row. length row ≡ n) rows'
    → ((h k : ℕ) → h < n → k < n → table rows h k ≡ table rows' h k) → rows ≡ rows'
same-tables n rows rows' size square size' square' entries =
    ext_get_or [] rows rows' (size ∙ sym size') (λ h l.
    let wide : length (get_or rows h []) ≡ n = square h l ∙ size in
    let wide' : length (get_or rows' h []) ≡ n = square' h [] (omega arith) in
    ext_get_or (pos 0) (get_or rows h []) (get_or rows' h []) (wide ∙ sym wide') (λ k m. entries h k (omega arith) (omega arith)))

-- the lines of the rows of a matrix
pub block : (n : ℕ) (due : Expected) (more : List Expected) (k : ℕ) (rows : List (List ℤ)) → k + n ≤ length rows
    → lines_from (replicate n due ++ more) k rows ≡ row_lines due.keyword (take n (drop k rows)) ++ lines_from more (k + n) rows
block zero due more k rows h = ap (λ j. lines_from more j rows) (omega arith)
block (suc n) due more k rows h =
    let rest = block n due more (k + 1) rows (omega arith) in
    let here = drop_more rows k [] (omega arith) in
    let e : k + 1 + n ≡ k + suc n = omega arith in
    ap (λ (ls : List Line). line due.keyword (get_or rows k []) ∷ ls) (rest ∙ ap (λ j. row_lines due.keyword (take n (drop (k + 1) rows)) ++ lines_from more j rows) e)
    ∙ sym (ap (λ (xs : List (List ℤ)). row_lines due.keyword (take (suc n) xs) ++ lines_from more (k + suc n) rows) here)

-- the numbers of a certificate
pub record Fields : Type 0 where
  pub pm : List (List ℤ)
  pub p : List ℤ
  pub mu : List ℤ
  pub lambda : ℤ
  pub h1 : ℤ
  pub g1 : List (List ℤ)
  pub h2 : ℤ
  pub g2 : List (List ℤ)
  pub c : List ℤ
  pub r : ℤ
  pub z : List ℤ
  pub s : List ℤ
  pub sigma_r : List ℤ
  pub cc : ℤ
  pub sigma_c : List ℤ
  pub e : List ℤ
  pub start1 : List ℤ
  pub start2 : List ℤ
  pub q : List ℤ

-- their lines
abbrev pub lines_of : ℤ → Fields → List Line
lines_of form c =
    line (codes "form") (form ∷ [])
    ∷ (row_lines (codes "P") c.pm
    ++ (line (codes "p") c.p
    ∷ line (codes "mu") c.mu
    ∷ line (codes "lambda") (c.lambda ∷ [])
    ∷ line (codes "h1") (c.h1 ∷ [])
    ∷ (row_lines (codes "G1") c.g1
    ++ (line (codes "h2") (c.h2 ∷ [])
    ∷ (row_lines (codes "G2") c.g2
    ++ (line (codes "c") c.c
    ∷ line (codes "R") (c.r ∷ [])
    ∷ line (codes "Z") c.z
    ∷ line (codes "S") c.s
    ∷ line (codes "sigmaR") c.sigma_r
    ∷ line (codes "C") (c.cc ∷ [])
    ∷ line (codes "sigmaC") c.sigma_c
    ∷ line (codes "E") c.e
    ∷ line (codes "start1") c.start1
    ∷ line (codes "start2") c.start2
    ∷ line (codes "Q") c.q
    ∷ []))))))

-- what a certificate has of rows
pub record IsMadeOf (n : ℕ) (rows : List (List ℤ)) (c : Fields) : Type 0 where
  pub pm : c.pm ≡ take n (drop 1 rows)
  pub p : c.p ≡ get_or rows (n + 1) []
  pub mu : c.mu ≡ get_or rows (n + 1 + 1) []
  pub lambda : get_or rows (n + 1 + 2) [] ≡ c.lambda ∷ []
  pub h1 : get_or rows (n + 1 + 3) [] ≡ c.h1 ∷ []
  pub g1 : c.g1 ≡ take n (drop (n + 1 + 4) rows)
  pub h2 : get_or rows (2 * n + 5) [] ≡ c.h2 ∷ []
  pub g2 : c.g2 ≡ take n (drop (2 * n + 5 + 1) rows)
  pub centre : c.c ≡ get_or rows (3 * n + 6) []
  pub r : get_or rows (3 * n + 6 + 1) [] ≡ c.r ∷ []
  pub z : c.z ≡ get_or rows (3 * n + 6 + 2) []
  pub s : c.s ≡ get_or rows (3 * n + 6 + 3) []
  pub sigma_r : c.sigma_r ≡ get_or rows (3 * n + 6 + 4) []
  pub cc : get_or rows (3 * n + 6 + 5) [] ≡ c.cc ∷ []
  pub sigma_c : c.sigma_c ≡ get_or rows (3 * n + 6 + 6) []
  pub e : c.e ≡ get_or rows (3 * n + 6 + 7) []
  pub start1 : c.start1 ≡ get_or rows (3 * n + 6 + 8) []
  pub start2 : c.start2 ≡ get_or rows (3 * n + 6 + 9) []
  pub q : c.q ≡ get_or rows (3 * n + 6 + 10) []

made-after-g2 : (n : ℕ) (rows : List (List ℤ)) (c : Fields) → IsMadeOf n rows c
    → line (codes "c") c.c ∷ line (codes "R") (c.r ∷ []) ∷ line (codes "Z") c.z ∷ line (codes "S") c.s ∷ line (codes "sigmaR") c.sigma_r
    ∷ line (codes "C") (c.cc ∷ []) ∷ line (codes "sigmaC") c.sigma_c ∷ line (codes "E") c.e
    ∷ line (codes "start1") c.start1 ∷ line (codes "start2") c.start2 ∷ line (codes "Q") c.q ∷ []
    ≡ lines_from (after_g2 n) (3 * n + 6) rows
made-after-g2 n rows c made =
    let k = 3 * n + 6 in
    let e2 : k + 2 ≡ k + 1 + 1 = omega arith in
    let e3 : k + 3 ≡ k + 1 + 1 + 1 = omega arith in
    let e4 : k + 4 ≡ k + 1 + 1 + 1 + 1 = omega arith in
    let e5 : k + 5 ≡ k + 1 + 1 + 1 + 1 + 1 = omega arith in
    let e6 : k + 6 ≡ k + 1 + 1 + 1 + 1 + 1 + 1 = omega arith in
    let e7 : k + 7 ≡ k + 1 + 1 + 1 + 1 + 1 + 1 + 1 = omega arith in
    let e8 : k + 8 ≡ k + 1 + 1 + 1 + 1 + 1 + 1 + 1 + 1 = omega arith in
    let e9 : k + 9 ≡ k + 1 + 1 + 1 + 1 + 1 + 1 + 1 + 1 + 1 = omega arith in
    let e10 : k + 10 ≡ k + 1 + 1 + 1 + 1 + 1 + 1 + 1 + 1 + 1 + 1 = omega arith in
    let to = λ (j i : ℕ) (e : j ≡ i). ap (λ h. get_or rows h []) e in
    λ i. line (codes "c") (made.centre i)
    ∷ line (codes "R") ((sym made.r) i)
    ∷ line (codes "Z") ((made.z ∙ to _ _ e2) i)
    ∷ line (codes "S") ((made.s ∙ to _ _ e3) i)
    ∷ line (codes "sigmaR") ((made.sigma_r ∙ to _ _ e4) i)
    ∷ line (codes "C") ((sym made.cc ∙ to _ _ e5) i)
    ∷ line (codes "sigmaC") ((made.sigma_c ∙ to _ _ e6) i)
    ∷ line (codes "E") ((made.e ∙ to _ _ e7) i)
    ∷ line (codes "start1") ((made.start1 ∙ to _ _ e8) i)
    ∷ line (codes "start2") ((made.start2 ∙ to _ _ e9) i)
    ∷ line (codes "Q") ((made.q ∙ to _ _ e10) i)
    ∷ []

made-after-g1 : (n : ℕ) (rows : List (List ℤ)) (c : Fields) → length rows ≡ 3 * n + 17 → IsMadeOf n rows c
    → line (codes "h2") (c.h2 ∷ []) ∷ (row_lines (codes "G2") c.g2 ++ lines_from (after_g2 n) (3 * n + 6) rows) ≡ lines_from (after_g1 n) (2 * n + 5) rows
made-after-g1 n rows c size made =
    let e : 2 * n + 5 + 1 + n ≡ 3 * n + 6 = omega arith in
    let rest = block n (expected (codes "G2") n) (after_g2 n) (2 * n + 5 + 1) rows (omega arith) in
    let there = ap (λ j. row_lines (codes "G2") c.g2 ++ lines_from (after_g2 n) j rows) (sym e)
    ∙ ap (λ (m : List (List ℤ)). row_lines (codes "G2") m ++ lines_from (after_g2 n) (2 * n + 5 + 1 + n) rows) made.g2 ∙ sym rest in
    λ i. line (codes "h2") ((sym made.h2) i) ∷ there i

made-after-p : (n : ℕ) (rows : List (List ℤ)) (c : Fields) → length rows ≡ 3 * n + 17 → IsMadeOf n rows c
    → line (codes "p") c.p ∷ line (codes "mu") c.mu ∷ line (codes "lambda") (c.lambda ∷ []) ∷ line (codes "h1") (c.h1 ∷ [])
    ∷ (row_lines (codes "G1") c.g1 ++ lines_from (after_g1 n) (2 * n + 5) rows) ≡ lines_from (after_p n) (n + 1) rows
made-after-p n rows c size made =
    let e2 : n + 1 + 2 ≡ n + 1 + 1 + 1 = omega arith in
    let e3 : n + 1 + 3 ≡ n + 1 + 1 + 1 + 1 = omega arith in
    let e4 : n + 1 + 4 ≡ n + 1 + 1 + 1 + 1 + 1 = omega arith in
    let e : n + 1 + 1 + 1 + 1 + 1 + n ≡ 2 * n + 5 = omega arith in
    let to = λ (j i : ℕ) (e : j ≡ i). ap (λ h. get_or rows h []) e in
    let rest = block n (expected (codes "G1") n) (after_g1 n) (n + 1 + 1 + 1 + 1 + 1) rows (omega arith) in
    let there = ap (λ j. row_lines (codes "G1") c.g1 ++ lines_from (after_g1 n) j rows) (sym e)
    ∙ ap (λ (m : List (List ℤ)). row_lines (codes "G1") m ++ lines_from (after_g1 n) (n + 1 + 1 + 1 + 1 + 1 + n) rows) (made.g1 ∙ ap (λ j. take n (drop j rows)) e4) ∙ sym rest in
    λ i. line (codes "p") (made.p i) ∷ line (codes "mu") (made.mu i) ∷ line (codes "lambda") ((sym made.lambda ∙ to _ _ e2) i) ∷ line (codes "h1") ((sym made.h1 ∙ to _ _ e3) i) ∷ there i

pub made-lines : (n : ℕ) (rows : List (List ℤ)) (c : Fields) (z : ℤ) → length rows ≡ 3 * n + 17 → get_or rows 0 [] ≡ z ∷ [] → IsMadeOf n rows c
    → lines_of z c ≡ lines_from (layout n) 0 rows
made-lines n rows c z size form made =
    let a = made-after-g2 n rows c made in
    let b = made-after-g1 n rows c size made in
    let d = made-after-p n rows c size made in
    let e : 1 + n ≡ n + 1 = omega arith in
    let rest = block n (expected (codes "P") n) (after_p n) 1 rows (omega arith) in
    let first = line (codes "form") (z ∷ []) in
    ap (λ (ls : List Line). first ∷ (row_lines (codes "P") c.pm
    ++ (line (codes "p") c.p ∷ line (codes "mu") c.mu ∷ line (codes "lambda") (c.lambda ∷ []) ∷ line (codes "h1") (c.h1 ∷ [])
    ∷ (row_lines (codes "G1") c.g1 ++ (line (codes "h2") (c.h2 ∷ []) ∷ (row_lines (codes "G2") c.g2 ++ ls)))))) a
    ∙ ap (λ (ls : List Line). first ∷ (row_lines (codes "P") c.pm
    ++ (line (codes "p") c.p ∷ line (codes "mu") c.mu ∷ line (codes "lambda") (c.lambda ∷ []) ∷ line (codes "h1") (c.h1 ∷ [])
    ∷ (row_lines (codes "G1") c.g1 ++ ls)))) b
    ∙ ap (λ (ls : List Line). first ∷ (row_lines (codes "P") c.pm ++ ls)) d
    ∙ ap (λ j. first ∷ (row_lines (codes "P") c.pm ++ lines_from (after_p n) j rows)) (sym e)
    ∙ ap (λ (m : List (List ℤ)). first ∷ (row_lines (codes "P") m ++ lines_from (after_p n) (1 + n) rows)) made.pm
    ∙ ap (λ (ls : List Line). first ∷ ls) (sym rest)
    ∙ ap (λ (row : List ℤ). line (codes "form") row ∷ lines_from (replicate n (expected (codes "P") n) ++ after_p n) 1 rows) (sym form)

-- a row of one number
pub one-row : (row : List ℤ) → length row ≡ 1 → row ≡ vector row 0 ∷ []
one-row [] e = absurd (omega arith)
one-row (x ∷ []) e = refl
one-row (x ∷ y ∷ rest) e = absurd (omega arith)

-- the bits of a number represent this number
pub kept : (z : ℤ) → IsNumber z → to_z w128 (of_z w128 z) ≡ z
kept (pos n) h = let fits : FitsSigned w128 (pos n) = omega (arith, ints) in to_z-of_z fits
kept (negsuc n) h = let fits : FitsSigned w128 (negsuc n) = omega (arith, ints) in to_z-of_z fits

pub kept-row : (row : List ℤ) (z : ℤ) → IsNumber z → row ≡ z ∷ [] → row ≡ to_z w128 (of_z w128 z) ∷ []
kept-row row z h e = e ∙ ap (λ (x : ℤ). x ∷ []) (sym (kept z h))
