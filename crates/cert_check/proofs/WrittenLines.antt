-- The text that is written of a certificate reads as its lines.
use Rattle.cert_check.proofs.Common
use Common.{[], ℕ, ℤ, ◌*◌, ◌++◌, ◌+◌, ◌<◌, ◌∙◌, ◌∷◌, ◌≡◌, All, AllZip, ap, append_assoc, AreRecords}
use Common.{arith, basin_lines, bound_lines, Certificate, codes, default_config, ellipsoid_lines}
use Common.{form_lines, get_or, inr, IsNumber, IsTextOf, IsVector, length, length-map, Line, line}
use Common.{line_count, lines, lines_text, List, Machine, map, map-append, next_record, None}
use Common.{ParsesAs, pos, Reached, refl, root_lines, row_lines, signed_decimal, state_count}
use Common.{strip_bom, subst, suc, sym, take, take_all, take_more, zero}
use Rattle.std.proofs.lemmas.List.{append-nil}
use Rattle.csv.specs.Writing.{default_writer, row_text}
use Rattle.csv.proofs.RoundTrip.{read-write}
use Rattle.cert_check.specs.Written.{fields_of_line, line_text}
use Rattle.cert_check.proofs.Decimals.{numbers-decimal}
use Rattle.cert_check.proofs.FieldPlaces.{length-layout}
use Rattle.cert_check.proofs.Spelt.{due_of, line-dues}
use Rattle.csv.specs.declared.parser.State.TheVariants as st

pub text-append : (xs ys : List Line) → lines_text (xs ++ ys) ≡ lines_text xs ++ lines_text ys
text-append [] ys = refl
text-append (x ∷ xs) ys = ap (λ t. line_text x ++ t) (text-append xs ys) ∙ sym (append_assoc (line_text x) (lines_text xs) (lines_text ys))

pub all-lines : (z : ℤ) (c : Certificate) → form_lines z c ++ (bound_lines c ++ (root_lines c ++ (basin_lines c ++ ellipsoid_lines c))) ≡ lines z c
all-lines z c = simp append_assoc

-- one line more, and then others
pub next : (t0 t1 t2 : List ℕ) (l : Line) (ls : List Line) → t1 ≡ t0 ++ line_text l → t2 ≡ t1 ++ lines_text ls → t2 ≡ t0 ++ lines_text (l ∷ ls)
next t0 t1 t2 l ls a b = b ∙ ap (λ t. t ++ lines_text ls) a ∙ append_assoc t0 (line_text l) (lines_text ls)

-- some lines, and then others
pub then-lines : (t0 t1 t2 : List ℕ) (xs ys : List Line) → t1 ≡ t0 ++ lines_text xs → t2 ≡ t1 ++ lines_text ys → t2 ≡ t0 ++ lines_text (xs ++ ys)
then-lines t0 t1 t2 xs ys a b =
    b ∙ ap (λ t. t ++ lines_text ys) a ∙ append_assoc t0 (lines_text xs) (lines_text ys) ∙ ap (λ t. t0 ++ t) (sym (text-append xs ys))

-- ---- the text reads back

reached-lines : (ls : List Line) → Reached default_config st.StartRecord (lines_text ls) (map fields_of_line ls) st.StartRecord []
unfolding Reached
reached-lines [] = (refl, refl)
reached-lines (l ∷ ls) =
    ((fields_of_line l, st.StartRecord, lines_text ls), read-write (fields_of_line l) (lines_text ls), refl, reached-lines ls)

ended : next_record default_config st.StartRecord [] [] [] ≡ None
unfolding next_record
ended = refl

no-mark : (fields : List (List ℕ)) (rest : List ℕ) → strip_bom (row_text default_writer (codes "form" ∷ fields) ++ rest) ≡ row_text default_writer (codes "form" ∷ fields) ++ rest
unfolding strip_bom
no-mark fields rest = refl

-- ---- and parses as the lines

-- each number of the lines is within its limit
abbrev Fit : List Line → Type 0
Fit [] = Unit {0}
Fit (l ∷ ls) = All IsNumber l.numbers × Fit ls

fit-append : (xs ys : List Line) → Fit xs → Fit ys → Fit (xs ++ ys)
fit-append [] ys h k = k
fit-append (x ∷ xs) ys h k = (h.0, fit-append xs ys h.1 k)

fit-rows : (keyword : List ℕ) (n : ℕ) (rows : List (List ℤ)) → All (IsVector n) rows → Fit (row_lines keyword rows)
fit-rows keyword n [] h = tt
fit-rows keyword n (row ∷ rows) h = ((h 0 [] (omega arith)).each, fit-rows keyword n rows (λ k d l. h (suc k) d (omega arith)))

spelt-lines : (ls : List Line) → Fit ls → AllZip ParsesAs (map fields_of_line ls) ls
spelt-lines [] h = tt
spelt-lines (l ∷ ls) h = ((map signed_decimal l.numbers, refl, numbers-decimal l.numbers h.0), spelt-lines ls h.1)

single : (z : ℤ) → IsNumber z → All IsNumber (z ∷ [])
single z h zero d l = h
single z h (suc k) d l = absurd (omega arith)

lines-fit : (z : ℤ) (c : Certificate) → IsNumber z → Fit (lines z c)
lines-fit z c h = (
  single z h,
  fit-append (row_lines (codes "P") c.pm) _ (fit-rows (codes "P") c.n c.pm c.has_pm.each) (
    c.has_p.each,
    (
      c.has_mu.each,
      (
        single c.lambda c.has_lambda,
        (
          single c.h1 c.has_h1,
          fit-append (row_lines (codes "G1") c.g1) _ (fit-rows (codes "G1") c.n c.g1 c.has_g1.each) (
            single c.h2 c.has_h2,
            fit-append (row_lines (codes "G2") c.g2) _ (fit-rows (codes "G2") c.n c.g2 c.has_g2.each) (
              c.has_c.each,
              (
                single c.r c.has_r,
                (
                  c.has_z.each,
                  (
                    c.has_s.each,
                    (
                      c.has_sigma_r.each,
                      (
                        single c.cc c.has_cc,
                        (
                          c.has_sigma_c.each,
                          (
                            c.has_e.each,
                            (c.has_start1.each, (c.has_start2.each, (c.has_q.each, tt))),
                          ),
                        ),
                      ),
                    ),
                  ),
                ),
              ),
            ),
          ),
        ),
      ),
    ),
  ),
)

length-lines : (z : ℤ) (c : Certificate) → length (lines z c) ≡ 3 * c.n + 17
length-lines z c = sym (length-map (lines z c) due_of) ∙ ap length (line-dues z c) ∙ length-layout c.n

pub reads-back : (m : Machine) (c : Certificate) → c.n ≡ state_count m → IsTextOf m (lines_text (lines (pos 3) c)) c
reads-back m c size =
    let ls = lines (pos 3) c in
    let text = lines_text ls in
    let P : List ℕ → Type 0 = λ t. AreRecords default_config st.StartRecord t (map fields_of_line ls) in
    let all : take (line_count c.n 3) ls ≡ ls = take_all (line_count c.n 3) ls (omega (arith, length-lines (pos 3) c)) in
    let Q : List Line → Type 0 = λ l. AllZip ParsesAs (map fields_of_line ls) l in
    let three : IsNumber (pos 3) = omega arith in (
      map fields_of_line ls,
      subst P (sym (no-mark _ _)) (st.StartRecord, [], reached-lines ls, ended),
      record { size = size; spelt = inr (inr (subst Q (sym all) (spelt-lines ls (lines-fit (pos 3) c three)))) },
    )

-- ---- rows, one after the other

pub rows-more : (keyword : List ℕ) (rows : List (List ℤ)) (i : ℕ) (before text : List ℕ) (row : List ℤ) → i < length rows → row ≡ get_or rows i []
    → text ≡ before ++ lines_text (row_lines keyword (take i rows)) → (text ++ line_text (line keyword row)) ≡ before ++ lines_text (row_lines keyword (take (i + 1) rows))
rows-more keyword rows i before text row h e is =
    let one : lines_text (line keyword row ∷ []) ≡ line_text (line keyword row) = append-nil (line_text (line keyword row)) in
    ap (λ t. t ++ line_text (line keyword row)) is
    ∙ append_assoc before (lines_text (row_lines keyword (take i rows))) (line_text (line keyword row))
    ∙ ap (λ t. before ++ (lines_text (row_lines keyword (take i rows)) ++ t)) (sym one)
    ∙ ap (λ t. before ++ t) (sym (text-append (row_lines keyword (take i rows)) (line keyword row ∷ [])))
    ∙ ap (λ ls. before ++ lines_text ls) (sym (map-append (line keyword) (take i rows) (row ∷ [])))
    ∙ ap (λ (r : List ℤ). before ++ lines_text (row_lines keyword (take i rows ++ r ∷ []))) e
    ∙ ap (λ (rs : List (List ℤ)). before ++ lines_text (row_lines keyword rs)) (sym (take_more rows i [] h))
