-- No field of a line of bounds needs quotes in a source's machine.
use Rattle.qss_theorems.proofs.Common
use Common.{[], ℕ, ℤ, ◌++◌, ◌∙◌, ◌∷◌, ◌≡◌, AllByRecursion, ap, append-nil, Certificate, CompilesTo}
use Common.{default_writer, DiscreteInfo, false, fields_text, is_blank, IsVariableName, List}
use Common.{Machine, map, needs_quotes, plain_line, refl, row_text, signed_decimal, StateInfo}
use Rattle.qss_answers.specs.BoundTexts.{bound_line, bound_lines, bounds_header, bounds_text}
use Rattle.qss_theorems.proofs.Lines.{IsPlain, plain_signed, plain_variable}
use Rattle.qss_theorems.proofs.Names.{machine_named}
use Rattle.qss_theorems.specs.CommaLines.{BoundLinesAreFields, bound_fields, plain_bound_lines}

-- the record of two fields that need no quotes
plain_record : (a b : List ℕ) → IsPlain a → IsPlain b → row_text default_writer (a ∷ b ∷ []) ≡ plain_line (a ∷ b ∷ [])
unfolding fields_text is_blank
plain_record a b pa pb = rw (pa, pb, append-nil b) refl

line_is : (name : List ℕ) (bound : ℤ) → needs_quotes default_writer name ≡ false → bound_line name bound ≡ plain_line (bound_fields name bound)
line_is name bound named = plain_record name (signed_decimal bound) named (plain_signed bound)

lines_named : (ss : List StateInfo) (others : List (List ℕ)) (bounds : List ℤ) → AllByRecursion IsVariableName (map (λ (s : StateInfo). s.name) ss ++ others)
    → bound_lines ss bounds ≡ plain_bound_lines ss bounds
lines_named [] others bounds named = refl
lines_named (s ∷ ss) others [] named = refl
lines_named (s ∷ ss) others (bound ∷ bounds) named =
    ap (λ (line : List ℕ). line ++ bound_lines ss bounds) (line_is s.name bound (plain_variable s.name named.0))
    ∙ ap (λ (more : List ℕ). plain_line (bound_fields s.name bound) ++ more) (lines_named ss others bounds named.1)

text_denoted : (bytes : List ℕ) (m : Machine) → CompilesTo bytes m → (c : Certificate) → bounds_text m c ≡ bounds_header ++ plain_bound_lines m.states c.e
text_denoted bytes m compiles c =
    ap (λ (lines : List ℕ). bounds_header ++ lines)
    (lines_named m.states (map (λ (d : DiscreteInfo). d.name) m.discretes) c.e (machine_named bytes m compiles))

pub bound_lines_are_fields : BoundLinesAreFields
bound_lines_are_fields = record { plain = line_is; text = text_denoted }
