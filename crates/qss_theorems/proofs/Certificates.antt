-- The text that is written of a certificate is short enough to be read.
use Rattle.qss_theorems.proofs.Common
use Common.{[], ℕ, ℤ, ◌*◌, ◌++◌, ◌∷◌, ◌≡◌, ◌≤◌, AllByRecursion, arith, Bool, Certificate, codes}
use Common.{decimal, default_writer, false, fields_text, if◌then◌else◌, is_blank, length}
use Common.{length-append, length-map, List, map, needs_quotes, negsuc, pos, refl, signed_decimal}
use Common.{suc, true, zero}
use Rattle.std.proofs.Common.{◌^◌}
use Rattle.std.specs.Prelude.{All}
use Rattle.std.proofs.lemmas.Fmt.{length-decimal-le_wide}
use Rattle.std.proofs.lemmas.List.Elements.{All-head, All-tail}
use Rattle.csv.specs.Writing.{end_text}
use Rattle.cert_check.specs.CertificateLimits.{IsNumber, IsVector}
use Rattle.cert_check.proofs.Judged.{judged_texts}
use Rattle.cert_check.proofs.WrittenLines.{reads-back}
use Rattle.cert_check.specs.CertificateLines.{Line, line, lines, row_lines}
use Rattle.cert_check.specs.Written.{line_text, lines_text, certificate_text}
use Rattle.qss_theorems.proofs.Lines.{plain_signed}
use Rattle.qss_theorems.specs.CertificateLengths.{WrittenCertificatesAreShort}

-- ---- numbers

unsigned_size : (n : ℕ) → n ≤ 2 ^ 126 → length (decimal n) ≤ 38
unsigned_size n h = length-decimal-le_wide 38 n (omega arith) (omega (arith, h)) (omega (arith, h))

number_size : (z : ℤ) → IsNumber z → length (signed_decimal z) ≤ 39
number_size (pos n) h = omega (arith, unsigned_size n h)
number_size (negsuc n) h = omega (arith, unsigned_size (suc n) h)

-- ---- lines

-- a field that needs no quotes adds its bytes and a comma
fields_size : (zs : List ℤ) → All IsNumber zs → length (fields_text default_writer (map signed_decimal zs)) ≤ 40 * length zs
unfolding fields_text
fields_size [] all = omega arith
fields_size (z ∷ zs) all =
    let rest = fields_size zs (All-tail IsNumber z zs all) in
    let one = number_size z (All-head IsNumber z zs all) in
    let both = length-append (signed_decimal z) (fields_text default_writer (map signed_decimal zs)) in
    rw (plain_signed z) (omega (arith, rest, one, both))

-- what ends a line, which shows two quotes where there is but one empty field
end_size : (blank : Bool) → length ((if blank then default_writer.quote ∷ default_writer.quote ∷ [] else []) ++ end_text default_writer.terminator) ≤ 3
end_size true = omega arith
end_size false = omega arith

abbrev IsShort : Line → Type 0
IsShort l = length (line_text l) ≤ 649

line_size : (keyword : List ℕ) (zs : List ℤ) → needs_quotes default_writer keyword ≡ false → length keyword ≤ 6 → length zs ≤ 16 → All IsNumber zs → IsShort (line keyword zs)
line_size keyword zs plain short few all =
    let rest = map signed_decimal zs in
    let a = fields_size zs all in
    let b = end_size (is_blank default_writer (keyword ∷ rest)) in
    let c = length-append (keyword ++ fields_text default_writer rest) ((if is_blank default_writer (keyword ∷ rest) then default_writer.quote ∷ default_writer.quote ∷ [] else []) ++ end_text default_writer.terminator) in
    let d = length-append keyword (fields_text default_writer rest) in
    rw plain (omega (arith, a, b, c, d, short, few))

-- ---- the lines of a certificate

vector_size : (keyword : List ℕ) (n : ℕ) (zs : List ℤ) → needs_quotes default_writer keyword ≡ false → length keyword ≤ 6 → n ≤ 16 → IsVector n zs → IsShort (line keyword zs)
vector_size keyword n zs plain short few is = line_size keyword zs plain short (omega (arith, few, is.one_each)) is.each

all_one : (z : ℤ) → IsNumber z → All IsNumber (z ∷ [])
all_one z h zero d e = h
all_one z h (suc k) d e = absurd (omega (arith, e))

single_size : (keyword : List ℕ) (z : ℤ) → needs_quotes default_writer keyword ≡ false → length keyword ≤ 6 → IsNumber z → IsShort (line keyword (z ∷ []))
single_size keyword z plain short is = line_size keyword (z ∷ []) plain short (omega arith) (all_one z is)

rows_size : (keyword : List ℕ) (n : ℕ) (rows : List (List ℤ)) → needs_quotes default_writer keyword ≡ false → length keyword ≤ 6 → n ≤ 16 → All (IsVector n) rows →
    AllByRecursion IsShort (row_lines keyword rows)
rows_size keyword n [] plain short few all = tt
rows_size keyword n (row ∷ rows) plain short few all =
    (vector_size keyword n row plain short few (All-head (IsVector n) row rows all), rows_size keyword n rows plain short few (All-tail (IsVector n) row rows all))

both_short : (xs ys : List Line) → AllByRecursion IsShort xs → AllByRecursion IsShort ys → AllByRecursion IsShort (xs ++ ys)
both_short [] ys first second = second
both_short (x ∷ xs) ys first second = (first.0, both_short xs ys first.1 second)

lines_short : (form : ℤ) (c : Certificate) → IsNumber form → AllByRecursion IsShort (lines form c)
lines_short form c h =
    let n = c.n in
    let few = c.has_size.few in (
      single_size (codes "form") form refl (omega arith) h,
      both_short (row_lines (codes "P") c.pm) _ (rows_size (codes "P") n c.pm refl (omega arith) few c.has_pm.each) (
        vector_size (codes "p") n c.p refl (omega arith) few c.has_p,
        (
          vector_size (codes "mu") n c.mu refl (omega arith) few c.has_mu,
          (
            single_size (codes "lambda") c.lambda refl (omega arith) c.has_lambda,
            (
              single_size (codes "h1") c.h1 refl (omega arith) c.has_h1,
              both_short (row_lines (codes "G1") c.g1) _ (rows_size (codes "G1") n c.g1 refl (omega arith) few c.has_g1.each) (
                single_size (codes "h2") c.h2 refl (omega arith) c.has_h2,
                both_short (row_lines (codes "G2") c.g2) _ (rows_size (codes "G2") n c.g2 refl (omega arith) few c.has_g2.each) (
                  vector_size (codes "c") n c.c refl (omega arith) few c.has_c,
                  (
                    single_size (codes "R") c.r refl (omega arith) c.has_r,
                    (
                      vector_size (codes "Z") n c.z refl (omega arith) few c.has_z,
                      (
                        vector_size (codes "S") n c.s refl (omega arith) few c.has_s,
                        (
                          vector_size (codes "sigmaR") n c.sigma_r refl (omega arith) few c.has_sigma_r,
                          (
                            single_size (codes "C") c.cc refl (omega arith) c.has_cc,
                            (
                              vector_size (codes "sigmaC") n c.sigma_c refl (omega arith) few c.has_sigma_c,
                              (
                                vector_size (codes "E") n c.e refl (omega arith) few c.has_e,
                                (
                                  vector_size (codes "start1") n c.start1 refl (omega arith) few c.has_start1,
                                  (
                                    vector_size (codes "start2") n c.start2 refl (omega arith) few c.has_start2,
                                    (
                                      vector_size (codes "Q") n c.q refl (omega arith) few c.has_q,
                                      tt,
                                    ),
                                  ),
                                ),
                              ),
                            ),
                          ),
                        ),
                      ),
                    ),
                  ),
                ),
              ),
            ),
          ),
        ),
      ),
    )

-- a line for each row
rows_count : (keyword : List ℕ) (rows : List (List ℤ)) → length (row_lines keyword rows) ≡ length rows
rows_count keyword rows = length-map rows (line keyword)

lines_few : (form : ℤ) (c : Certificate) → length (lines form c) ≤ 65
lines_few form c =
    let last : List Line =
    line (codes "c") c.c ∷ line (codes "R") (c.r ∷ []) ∷ line (codes "Z") c.z ∷ line (codes "S") c.s ∷ line (codes "sigmaR") c.sigma_r
    ∷ line (codes "C") (c.cc ∷ []) ∷ line (codes "sigmaC") c.sigma_c ∷ line (codes "E") c.e
    ∷ line (codes "start1") c.start1 ∷ line (codes "start2") c.start2 ∷ line (codes "Q") c.q ∷ [] in
    let third : List Line = line (codes "h2") (c.h2 ∷ []) ∷ (row_lines (codes "G2") c.g2 ++ last) in
    let second : List Line =
    line (codes "p") c.p ∷ line (codes "mu") c.mu ∷ line (codes "lambda") (c.lambda ∷ []) ∷ line (codes "h1") (c.h1 ∷ []) ∷ (row_lines (codes "G1") c.g1 ++ third) in
    let a = length-append (row_lines (codes "G2") c.g2) last in
    let b = length-append (row_lines (codes "G1") c.g1) third in
    let d = length-append (row_lines (codes "P") c.pm) second in
    omega (arith, a, b, d, rows_count (codes "P") c.pm, rows_count (codes "G1") c.g1, rows_count (codes "G2") c.g2, c.has_pm.one_each, c.has_g1.one_each, c.has_g2.one_each, c.has_size.few)

-- ---- the text

text_size : (ls : List Line) → AllByRecursion IsShort ls → length (lines_text ls) ≤ 649 * length ls
text_size [] all = omega arith
text_size (l ∷ ls) all = let rest = text_size ls all.1 in omega (arith, rest, all.0, length-append (line_text l) (lines_text ls))

written_size : (c : Certificate) → length (certificate_text c) ≤ 65 * 649
written_size c = omega (arith, text_size (lines (pos 3) c) (lines_short (pos 3) c (omega arith)), lines_few (pos 3) c)

pub written_certificates_are_short : WrittenCertificatesAreShort
written_certificates_are_short = record {
  bytes = written_size;
  short = λ c. omega (arith, written_size c);
  text = reads-back;
  only = λ m c other size is. judged_texts.one_certificate m (certificate_text c) other c is (reads-back m c size);
  faultless = λ m c why size fault. judged_texts.not_both m (certificate_text c) why c fault (reads-back m c size);
}
