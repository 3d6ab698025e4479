-- No field of a row of a source's machine needs quotes.
use Rattle.qss_theorems.proofs.Common
use Common.{[], ℕ, ℤ, ◌++◌, ◌+◌, ◌==◌, ◌||◌, ◌∙◌, ◌∷◌, ◌≡◌, AllByRecursion, ap, append-nil, arith}
use Common.{Bool, codes, CompilesTo, cond, decimal, default_writer, false, fields_text, header}
use Common.{if◌then◌else◌, inl, inr, is_blank, is_name, IsTrue, IsVariableName, List, Machine}
use Common.{name_of, nat_lt, needs_quotes, negsuc, plain_line, pos, refl, Row, row_text}
use Common.{signed_decimal, state_count, subst, suc, sym, true, zero}
use Rattle.std.proofs.Common.{◌/◌, ◌%◌}
use Rattle.std.specs.Prelude.{filter}
use Rattle.std.specs.Fmt.{digit_glyph, digits, digits_onto}
use Rattle.std.proofs.lemmas.List.Folds.{list_any-append}
use Rattle.csv.specs.Writing.{needs_byte}
use Rattle.mu_lexer.specs.Spelling.{is_digit, is_letter, is_name_rest}
use Rattle.qss_machine.specs.Runs.{run_rows}
use Rattle.qss_machine.specs.declared.machine_parts.RowKind.{RowKind}
use Rattle.qss_rows.specs.Filters.{passes}
use Rattle.qss_rows.specs.RowTexts.{fields_of, level_field, line_of, lines_of, name_field}
use Rattle.qss_rows.specs.RowTexts.{prints_name, state_field, word_of}
use Rattle.qss_theorems.proofs.Names.{at_any_place, machine_named, names_of, variable_named}
use Rattle.qss_theorems.specs.CommaLines.{LinesAreFields, plain_lines}
use Rattle.qss_machine.specs.declared.machine_parts.RowKind.TheVariants as kind

abbrev pub IsPlain : List ℕ → Type 0
IsPlain text = needs_quotes default_writer text ≡ false

-- ---- bytes

same_or_not : (c k : ℕ) (b : Bool) → (c == k) ≡ b → (c ≡ k → ⊥) → b ≡ false
same_or_not c k true e differ = absurd (differ (grind arith))
same_or_not c k false e differ = refl

differs : (c k : ℕ) → (c ≡ k → ⊥) → (c == k) ≡ false
differs c k differ = same_or_not c k (c == k) refl differ

plain_byte : (c : ℕ) → (c ≡ 44 → ⊥) → (c ≡ 34 → ⊥) → (c ≡ 13 → ⊥) → (c ≡ 10 → ⊥) → needs_byte default_writer c ≡ false
plain_byte c a b d e = rw (differs c 44 a, differs c 34 b, differs c 13 d, differs c 10 e) refl

wrong : false ≡ true → ⊥
wrong e = cc

plain_part : (c : ℕ) → (is_letter c || is_digit c) ≡ true → needs_byte default_writer c ≡ false
plain_part c h =
    let at : (k : ℕ) → c ≡ k → (is_letter k || is_digit k) ≡ true = λ k e. subst (λ (x : ℕ). (is_letter x || is_digit x) ≡ true) e h in
    plain_byte c (λ e. wrong (at 44 e)) (λ e. wrong (at 34 e)) (λ e. wrong (at 13 e)) (λ e. wrong (at 10 e))

-- ---- texts

plain_first : (c : ℕ) (cs : List ℕ) → needs_byte default_writer c ≡ false → IsPlain cs → IsPlain (c ∷ cs)
plain_first c cs first rest = rw first rest

plain_append : (xs ys : List ℕ) → IsPlain xs → IsPlain ys → IsPlain (xs ++ ys)
plain_append xs ys first second = rw (list_any-append (needs_byte default_writer) xs ys, first, second) refl

plain_glyph : (d : ℕ) → needs_byte default_writer (digit_glyph false d) ≡ false
plain_glyph d = by_test (nat_lt d 10)
  where
    by_test : (t : Bool) → needs_byte default_writer (if t then 48 + d else 87 + d) ≡ false
    by_test true = plain_byte (48 + d) (λ e. omega (arith, e)) (λ e. omega (arith, e)) (λ e. omega (arith, e)) (λ e. omega (arith, e))
    by_test false = plain_byte (87 + d) (λ e. omega (arith, e)) (λ e. omega (arith, e)) (λ e. omega (arith, e)) (λ e. omega (arith, e))

plain_onto : (k n : ℕ) (rest : List ℕ) → IsPlain rest → IsPlain (digits_onto k 10 false n rest)
plain_onto zero n rest plain = plain
plain_onto (suc k) n rest plain =
    let more : List ℕ = digit_glyph false (n % 10) ∷ rest in
    let is_more : IsPlain more = plain_first (digit_glyph false (n % 10)) rest (plain_glyph (n % 10)) plain in
    by_test more (digits_onto k 10 false (n / 10) more) is_more (plain_onto k (n / 10) more is_more) (n / 10 == 0)
  where
    by_test : (xs ys : List ℕ) → IsPlain xs → IsPlain ys → (t : Bool) → IsPlain (if t then xs else ys)
    by_test xs ys first second true = first
    by_test xs ys first second false = second

pub plain_decimal : (n : ℕ) → IsPlain (decimal n)
unfolding digits
plain_decimal n = plain_onto 64 n [] refl

pub plain_signed : (z : ℤ) → IsPlain (signed_decimal z)
plain_signed (pos n) = plain_decimal n
plain_signed (negsuc n) = plain_decimal (suc n)

-- ---- names

plain_rest : (s : List ℕ) → IsTrue (is_name_rest s) → IsPlain s
plain_rest [] h = refl
plain_rest (c ∷ s) h = by_test (plain_rest s) (is_letter c || is_digit c) refl h
  where
    by_test : (IsTrue (is_name_rest s) → IsPlain s) → (t : Bool) → (is_letter c || is_digit c) ≡ t → IsTrue (if t then is_name_rest s else false) → IsPlain (c ∷ s)
    by_test rest true e more = plain_first c s (plain_part c e) (rest more)
    by_test rest false e more = absurd (wrong more)

plain_name : (s : List ℕ) → IsTrue (is_name s) → IsPlain s
plain_name [] h = refl
plain_name (c ∷ s) h = by_test (is_letter c) refl h
  where
    by_test : (t : Bool) → is_letter c ≡ t → IsTrue (if t then is_name_rest s else false) → IsPlain (c ∷ s)
    by_test true e more = plain_first c s (plain_part c (rw e refl)) (plain_rest s more)
    by_test false e more = absurd (wrong more)

pub plain_variable : (name : List ℕ) → IsVariableName name → IsPlain name
plain_variable name (inl is) = plain_name name is
plain_variable name (inr (array, index, is, e)) =
    subst IsPlain (sym e) (plain_append array (91 ∷ (decimal index ++ 93 ∷ [])) (plain_name array is) (plain_append (decimal index) (93 ∷ []) (plain_decimal index) refl))

pub any_named : (bytes : List ℕ) (m : Machine) → CompilesTo bytes m → (var : ℕ) → IsPlain (name_of m var)
any_named bytes m means var = at_any_place IsPlain (names_of m) var [] (all_plain (names_of m) (machine_named bytes m means)) refl
  where
    all_plain : (names : List (List ℕ)) → AllByRecursion IsVariableName names → AllByRecursion IsPlain names
    all_plain [] named = tt
    all_plain (n ∷ ns) named = (plain_variable n named.0, all_plain ns named.1)

-- ---- fields

plain_level : (k : RowKind) (z : ℤ) → IsPlain (level_field k z)
plain_level kind.Start z = plain_signed z
plain_level (kind.When clause branch) z = refl
plain_level kind.Set z = plain_signed z
plain_level kind.Reinit z = refl
plain_level kind.Level z = plain_signed z
plain_level kind.End z = plain_signed z
plain_level kind.Overflow z = refl

pub plain_where : (b : Bool) (z : ℤ) → IsPlain (cond b (signed_decimal z) [])
plain_where true z = plain_signed z
plain_where false z = refl

plain_state : (b : Bool) (k : RowKind) (z : ℤ) → IsPlain (state_field b k z)
plain_state b kind.Start z = plain_where b z
plain_state b (kind.When clause branch) z = refl
plain_state b kind.Set z = refl
plain_state b kind.Reinit z = plain_signed z
plain_state b kind.Level z = plain_signed z
plain_state b kind.End z = plain_where b z
plain_state b kind.Overflow z = refl

plain_word : (k : RowKind) → IsPlain (word_of k)
plain_word kind.Start = refl
plain_word (kind.When clause branch) = refl
plain_word kind.Set = refl
plain_word kind.Reinit = refl
plain_word kind.Level = refl
plain_word kind.End = refl
plain_word kind.Overflow = refl

plain_third : (m : Machine) (k : RowKind) (var : ℕ) → (prints_name k ≡ true → IsPlain (name_of m var)) → IsPlain (name_field m k var)
plain_third m kind.Start var named = named refl
plain_third m (kind.When clause branch) var named =
    plain_append (decimal (clause + 1) ++ codes ".") (decimal (branch + 1))
    (plain_append (decimal (clause + 1)) (codes ".") (plain_decimal (clause + 1)) refl) (plain_decimal (branch + 1))
plain_third m kind.Set var named = named refl
plain_third m kind.Reinit var named = named refl
plain_third m kind.Level var named = named refl
plain_third m kind.End var named = named refl
plain_third m kind.Overflow var named = named refl

-- ---- lines

-- the record of five fields that need no quotes
pub plain_record : (a b c d e : List ℕ) → IsPlain a → IsPlain b → IsPlain c → IsPlain d → IsPlain e →
    row_text default_writer (a ∷ b ∷ c ∷ d ∷ e ∷ []) ≡ plain_line (a ∷ b ∷ c ∷ d ∷ e ∷ [])
unfolding fields_text is_blank
plain_record a b c d e pa pb pc pd pe = rw (pa, pb, pc, pd, pe, append-nil e) refl

line_is : (m : Machine) (row : Row) → (prints_name row.kind ≡ true → IsPlain (name_of m row.var)) → line_of m row ≡ plain_line (fields_of m row)
line_is m row named =
    plain_record (decimal row.tick) (word_of row.kind) (name_field m row.kind row.var) (level_field row.kind row.level) (state_field (nat_lt row.var (state_count m)) row.kind row.state)
    (plain_decimal row.tick) (plain_word row.kind) (plain_third m row.kind row.var named)
    (plain_level row.kind row.level) (plain_state (nat_lt row.var (state_count m)) row.kind row.state)

line_meant : (bytes : List ℕ) (m : Machine) → CompilesTo bytes m → (row : Row) → line_of m row ≡ plain_line (fields_of m row)
line_meant bytes m means row = line_is m row (λ prints. any_named bytes m means row.var)

lines_meant : (bytes : List ℕ) (m : Machine) → CompilesTo bytes m → (rows : List Row) → lines_of m rows ≡ plain_lines m rows
lines_meant bytes m means [] = refl
lines_meant bytes m means (row ∷ rows) =
    ap (λ (line : List ℕ). line ++ lines_of m rows) (line_meant bytes m means row)
    ∙ ap (λ (more : List ℕ). plain_line (fields_of m row) ++ more) (lines_meant bytes m means rows)

pub lines_are_fields : LinesAreFields
lines_are_fields = record {
  names = variable_named;
  unquoted = plain_variable;
  plain = line_is;
  lines = line_meant;
  text = λ bytes m means only run. ap (λ (text : List ℕ). header ++ text) (lines_meant bytes m means (filter (passes only m) (run_rows m run)));
}
