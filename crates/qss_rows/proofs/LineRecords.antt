-- Lines that are copied as the only field of a record, and the parts of a line in a buffer.
use Rattle.qss_rows.proofs.Common
use Common.{[], ℕ, ◌++◌, ◌+◌, ◌-◌, ◌<◌, ◌∙◌, ◌∷◌, ◌≡◌, ◌≤◌, ap, append-nil, arith, default_writer}
use Common.{drop, drop-drop, fields_text, is_blank, length, List, refl, row_text, RowKind, subst}
use Common.{sym, take, word_of}
use Rattle.std.proofs.Common.{length-append}
use Rattle.std.proofs.lemmas.List.{drop_at, length-take-le, take_at}
use borrow.Rule.Slice.PartMut.{put_mid}
use Rattle.csv.specs.Writing.{row_body, field_text}
use Rattle.qss_rows.specs.PlainFields.{IsPlain, csv_line}
use Rattle.qss_rows.specs.Writers.{copying_writer}
use Rattle.qss_rows.proofs.Plain.{IsUnquoted, differs, plain_word, row_text-plain}
use Rattle.qss_machine.specs.declared.machine_parts.RowKind.TheVariants as kind

-- ---- fields

word_short : (k : RowKind) → length (word_of k) ≤ 200
word_short kind.Start = omega arith
word_short (kind.When clause branch) = omega arith
word_short kind.Set = omega arith
word_short kind.Reinit = omega arith
word_short kind.Level = omega arith
word_short kind.End = omega arith
word_short kind.Overflow = omega arith

pub plain_event : (field : List ℕ) (k : RowKind) → field ≡ word_of k → IsPlain field
plain_event field k e =
    subst IsPlain (sym e) (record { unquoted = plain_word k; short = word_short k })

-- ---- records

-- a line is copied
pub line_record : (line : List ℕ) → 0 < length line
    → row_text copying_writer (line ∷ []) ≡ line ++ 10 ∷ []
unfolding fields_text is_blank
line_record line some =
    rw (differs (length line) 0 (λ e. omega (arith, e)), append-nil line) refl

module _ (a b c d e : List ℕ) where
  abbrev pub body : List ℕ
  body = a ++ 44 ∷ (b ++ 44 ∷ (c ++ 44 ∷ (d ++ 44 ∷ e)))

  -- five fields with commas between them, and a line feed
  pub plain_record : (line : List ℕ) → line ≡ body → IsUnquoted a → IsUnquoted b → IsUnquoted c
      → IsUnquoted d → IsUnquoted e → line ++ 10 ∷ [] ≡ csv_line a b c d e
  plain_record line is pa pb pc pd pe =
      ap (λ (l : List ℕ). l ++ 10 ∷ []) is ∙ sym (row_text-plain a b c d e pa pb pc pd pe)

  -- a line that is put together from its end to its start: each part stands before the next one
  pub line_parts : (v before_b w before_c x before_d y before_e z none : List ℕ)
      → v ≡ a ++ before_b → before_b ≡ 44 ∷ w → w ≡ b ++ before_c → before_c ≡ 44 ∷ x
      → x ≡ c ++ before_d → before_d ≡ 44 ∷ y → y ≡ d ++ before_e → before_e ≡ 44 ∷ z
      → z ≡ e ++ none → none ≡ [] → v ≡ body
  line_parts v before_b w before_c x before_d y before_e z none
      is_v is_b is_w is_c is_x is_d is_y is_e is_z is_none = cc (append-nil e)

  abbrev quoted_body : List ℕ
  quoted_body = row_body default_writer (a ∷ b ∷ c ∷ d ∷ e ∷ [])

  abbrev after_comma : List ℕ
  after_comma = field_text default_writer b ++ fields_text default_writer (c ∷ d ∷ e ∷ [])

  -- the text of a record ends with a line feed
  quoted_end : csv_line a b c d e ≡ quoted_body ++ 10 ∷ []
  unfolding is_blank
  quoted_end = refl

  quoted_some : 0 < length quoted_body
  unfolding fields_text
  quoted_some =
      omega (arith, length-append (field_text default_writer a) (44 ∷ after_comma))

  -- the text of a record of n bytes without its last byte
  pub quoted_line : (text line : List ℕ) (n : ℕ) → text ≡ csv_line a b c d e → n ≡ length text
      → line ≡ take (n - 1) text → (0 < length line) × (line ++ 10 ∷ [] ≡ csv_line a b c d e)
  quoted_line text line n whole size is =
      let ends : text ≡ quoted_body ++ 10 ∷ [] = whole ∙ quoted_end in
      let more : length text ≡ length quoted_body + 1 =
      ap length ends ∙ length-append quoted_body (10 ∷ []) in
      let front : take (n - 1) text ≡ quoted_body =
      ap (λ (l : List ℕ). take (n - 1) l) ends
      ∙ take_at quoted_body (10 ∷ []) (n - 1) (omega (arith, more, size)) in
      let same : line ≡ quoted_body = is ∙ front in (
        subst (λ (l : List ℕ). 0 < length l) (sym same) quoted_some,
        ap (λ (l : List ℕ). l ++ 10 ∷ []) same ∙ sym quoted_end,
      )

-- ---- parts of a line

-- bytes before an index
pub put_before : (xs ys : List ℕ) (start at : ℕ) → start + length ys ≡ at → at ≤ length xs
    → drop start (put_mid start (at - start) xs ys) ≡ ys ++ drop at xs
put_before xs ys start at e within =
    let all : start + (at - start) ≡ at = omega (arith, e) in
    let front = length-take-le start xs (omega (arith, e, within)) in
    drop_at (take start xs) (ys ++ drop (at - start) (drop start xs)) start front
    ∙ ap (λ (l : List ℕ). ys ++ l) (drop-drop (at - start) start xs ∙ ap (λ n. drop n xs) all)
