-- Numbers and words need no quotes, and a field that needs none is copied to the line unchanged.
use Rattle.qss_rows.proofs.Common
use Common.{[], ℕ, ◌++◌, ◌+◌, ◌∷◌, ◌≡◌, append-nil, arith, Bool, codes, cond, decimal}
use Common.{default_writer, false, fields_text, is_blank, List, Machine, needs_quotes, None}
use Common.{number_text, Option, refl, row_text, RowKind, Some, suc, true, word_of, zero}
use Rattle.std.proofs.Common.{◌==◌, ◌/◌, ◌%◌, ℤ, pos, negsuc}
use Rattle.std.specs.Prelude.{if◌then◌else◌, nat_lt}
use Rattle.std.specs.Fmt.{digit_glyph, digits, digits_onto, signed_decimal}
use Rattle.std.proofs.lemmas.List.Folds.{list_any-append}
use Rattle.csv.specs.Writing.{needs_byte}
use Rattle.qss_machine.specs.Machines.{state_count}
use Rattle.qss_rows.specs.RowTexts.{prints_name, name_of, name_field, level_field, state_field}
use Rattle.qss_rows.specs.RowTexts.{plain_line, LinesArePlain}
use Rattle.qss_machine.specs.declared.machine_parts.RowKind.TheVariants as kind

abbrev pub IsUnquoted : List ℕ → Type 0
IsUnquoted text = needs_quotes default_writer text ≡ false

same_or_not : (c k : ℕ) (b : Bool) → (c == k) ≡ b → (c ≡ k → ⊥) → b ≡ false
same_or_not c k true e differ = absurd (differ (grind arith))
same_or_not c k false e differ = refl

pub differs : (c k : ℕ) → (c ≡ k → ⊥) → (c == k) ≡ false
differs c k differ = same_or_not c k (c == k) refl differ

plain_byte : (c : ℕ) → (c ≡ 44 → ⊥) → (c ≡ 34 → ⊥) → (c ≡ 13 → ⊥) → (c ≡ 10 → ⊥) → needs_byte default_writer c ≡ false
plain_byte c a b d e = rw (differs c 44 a, differs c 34 b, differs c 13 d, differs c 10 e) refl

plain_first : (c : ℕ) (cs : List ℕ) → needs_byte default_writer c ≡ false → IsUnquoted cs → IsUnquoted (c ∷ cs)
plain_first c cs first rest = rw first rest

plain_glyph : (d : ℕ) → needs_byte default_writer (digit_glyph false d) ≡ false
plain_glyph d = by_test (nat_lt d 10)
  where
    by_test : (t : Bool) → needs_byte default_writer (if t then 48 + d else 87 + d) ≡ false
    by_test true = plain_byte (48 + d) (λ e. omega (arith, e)) (λ e. omega (arith, e)) (λ e. omega (arith, e)) (λ e. omega (arith, e))
    by_test false = plain_byte (87 + d) (λ e. omega (arith, e)) (λ e. omega (arith, e)) (λ e. omega (arith, e)) (λ e. omega (arith, e))

plain_onto : (k n : ℕ) (rest : List ℕ) → IsUnquoted rest → IsUnquoted (digits_onto k 10 false n rest)
plain_onto zero n rest plain = plain
plain_onto (suc k) n rest plain =
    let more : List ℕ = digit_glyph false (n % 10) ∷ rest in
    let is_more : IsUnquoted more = plain_first (digit_glyph false (n % 10)) rest (plain_glyph (n % 10)) plain in
    by_test more (digits_onto k 10 false (n / 10) more) is_more (plain_onto k (n / 10) more is_more) (n / 10 == 0)
  where
    by_test : (xs ys : List ℕ) → IsUnquoted xs → IsUnquoted ys → (t : Bool) → IsUnquoted (if t then xs else ys)
    by_test xs ys first second true = first
    by_test xs ys first second false = second

pub plain_decimal : (n : ℕ) → IsUnquoted (decimal n)
unfolding digits
plain_decimal n = plain_onto 64 n [] refl

pub plain_signed : (z : ℤ) → IsUnquoted (signed_decimal z)
plain_signed (pos n) = plain_decimal n
plain_signed (negsuc n) = plain_decimal (suc n)

plain_append : (xs ys : List ℕ) → IsUnquoted xs → IsUnquoted ys → IsUnquoted (xs ++ ys)
plain_append xs ys first second = rw (list_any-append (needs_byte default_writer) xs ys, first, second) refl

pub plain_number : (number : Option ℤ) → IsUnquoted (number_text number)
plain_number None = refl
plain_number (Some number) = plain_signed number

plain_level : (k : RowKind) (z : ℤ) → IsUnquoted (level_field k z)
plain_level kind.Start z = plain_signed z
plain_level (kind.When clause branch) z = refl
plain_level kind.Set z = plain_signed z
plain_level kind.Reinit z = refl
plain_level kind.Level z = plain_signed z
plain_level kind.End z = plain_signed z
plain_level kind.Overflow z = refl

plain_where : (b : Bool) (z : ℤ) → IsUnquoted (cond b (signed_decimal z) [])
plain_where true z = plain_signed z
plain_where false z = refl

plain_state : (b : Bool) (k : RowKind) (z : ℤ) → IsUnquoted (state_field b k z)
plain_state b kind.Start z = plain_where b z
plain_state b (kind.When clause branch) z = refl
plain_state b kind.Set z = refl
plain_state b kind.Reinit z = plain_signed z
plain_state b kind.Level z = plain_signed z
plain_state b kind.End z = plain_where b z
plain_state b kind.Overflow z = refl

pub plain_word : (k : RowKind) → IsUnquoted (word_of k)
plain_word kind.Start = refl
plain_word (kind.When clause branch) = refl
plain_word kind.Set = refl
plain_word kind.Reinit = refl
plain_word kind.Level = refl
plain_word kind.End = refl
plain_word kind.Overflow = refl

plain_name : (m : Machine) (k : RowKind) (var : ℕ) → (prints_name k ≡ true → needs_quotes default_writer (name_of m var) ≡ false) → IsUnquoted (name_field m k var)
plain_name m kind.Start var named = named refl
plain_name m (kind.When clause branch) var named =
    plain_append (decimal (clause + 1) ++ codes ".") (decimal (branch + 1))
    (plain_append (decimal (clause + 1)) (codes ".") (plain_decimal (clause + 1)) refl)
    (plain_decimal (branch + 1))
plain_name m kind.Set var named = named refl
plain_name m kind.Reinit var named = named refl
plain_name m kind.Level var named = named refl
plain_name m kind.End var named = named refl
plain_name m kind.Overflow var named = named refl

-- the record of five fields that need no quotes
pub row_text-plain : (a b c d e : List ℕ) → IsUnquoted a → IsUnquoted b → IsUnquoted c → IsUnquoted d → IsUnquoted e → row_text default_writer (a ∷ b ∷ c ∷ d ∷ e ∷ []) ≡ plain_line (a ∷ b ∷ c ∷ d ∷ e ∷ [])
unfolding fields_text is_blank
row_text-plain a b c d e pa pb pc pd pe = rw (pa, pb, pc, pd, pe, append-nil e) refl

pub lines_are_plain : LinesArePlain
lines_are_plain m row typed named =
    row_text-plain (decimal row.tick) (word_of row.kind) (name_field m row.kind row.var) (level_field row.kind row.level) (state_field (nat_lt row.var (state_count m)) row.kind row.state)
    (plain_decimal row.tick) (plain_word row.kind) (plain_name m row.kind row.var named)
    (plain_level row.kind row.level) (plain_state (nat_lt row.var (state_count m)) row.kind row.state)
