-- The lines that report a rejection.
use Rattle.std.specs.Prelude.{List, ℕ, [], ◌∷◌, ℤ, codes, decimal}
use Rattle.std.specs.Fmt.{signed_decimal}
use Rattle.std.specs.List.{concat}
use Rattle.cert_check.specs.declared.certificate_scope.Outside.{Outside}
use Rattle.cert_check.specs.declared.certificate_scope.Outside.TheVariants as outside
use Rattle.cert_check.specs.declared.inequality_checker.Verdict.{Verdict}
use Rattle.cert_check.specs.declared.inequality_checker.Verdict.TheVariants as verdict
use Rattle.cert_check.specs.declared.text_err.TextErr.{TextErr}
use Rattle.cert_check.specs.declared.text_err.TextErr.TheVariants as cause
use Rattle.qss_answers.specs.declared.refusal.Refusal.{Refusal}
use Rattle.qss_answers.specs.declared.refusal.Refusal.TheVariants as refusal

-- the line for a machine that cannot have a certificate
abbrev pub outside_line : Outside → List ℕ
outside_line (outside.HasClauses count) =
    concat (codes "rejected: clauses " ∷ decimal count ∷ codes "\n" ∷ [])
outside_line (outside.States count) =
    concat (codes "rejected: states " ∷ decimal count ∷ codes "\n" ∷ [])

-- the line for a failed check; it is empty for an accepted certificate
abbrev pub verdict_line : Verdict → List ℕ
verdict_line verdict.Accepted = []
verdict_line (verdict.Rejected number place left right) =
    concat (codes "rejected: inequality " ∷ decimal number ∷ codes " place " ∷ decimal place
    ∷ codes " left " ∷ signed_decimal left ∷ codes " right " ∷ signed_decimal right ∷ codes "\n"
    ∷ [])
verdict_line (verdict.Range number place) =
    concat (codes "rejected: range inequality " ∷ decimal number ∷ codes " place " ∷ decimal place
    ∷ codes "\n" ∷ [])

-- the line for a text whose first record has the number of no version
abbrev pub version_line : (kind : List ℕ) → (got : ℤ) → List ℕ
version_line kind got =
    concat (kind ∷ codes " refused: 5 " ∷ signed_decimal got ∷ codes "\n" ∷ [])

-- the line for a text that is not of this kind (certificate or trace); an allocation failure has a
-- line of its own
abbrev pub cause_line : (kind : List ℕ) → TextErr → List ℕ
cause_line kind (cause.Keyword line) =
    concat (kind ∷ codes " refused: 1 " ∷ decimal line ∷ codes "\n" ∷ [])
cause_line kind (cause.Shape line want got) =
    concat (kind ∷ codes " refused: 2 " ∷ decimal line ∷ codes " " ∷ decimal want ∷ codes " "
    ∷ decimal got ∷ codes "\n" ∷ [])
cause_line kind (cause.Number line field) =
    concat (kind ∷ codes " refused: 3 " ∷ decimal line ∷ codes " " ∷ decimal field ∷ codes "\n"
    ∷ [])
cause_line kind (cause.Missing line) =
    concat (kind ∷ codes " refused: 4 " ∷ decimal line ∷ codes "\n" ∷ [])
cause_line kind (cause.Form got) = version_line kind got
cause_line kind cause.Memory = []

-- the line that reports the first fact that fails, with its place, number, state and two sides
abbrev pub broken_line : ℕ → ℕ → ℕ → ℤ → ℤ → List ℕ
broken_line place fact state left right =
    concat (codes "rejected: trace place " ∷ decimal place ∷ codes " fact " ∷ decimal fact
    ∷ codes " state " ∷ decimal state ∷ codes " left " ∷ signed_decimal left ∷ codes " right "
    ∷ signed_decimal right ∷ codes "\n" ∷ [])

-- the line that reports a rejection
abbrev pub write_refusal : Refusal → List ℕ
write_refusal (refusal.Outside why) = outside_line why
write_refusal (refusal.Clauses count) = outside_line (outside.HasClauses count)
write_refusal refusal.CertificateTooLong = codes "certificate refused: top 1\n"
write_refusal refusal.TraceTooLong = codes "trace refused: top 1\n"
write_refusal (refusal.NotCertificate why) = cause_line (codes "certificate") why
write_refusal (refusal.NotTrace why) = cause_line (codes "trace") why
write_refusal (refusal.Rejected verdict) = verdict_line verdict
write_refusal (refusal.Broken place fact state left right) = broken_line place fact state left right
write_refusal (refusal.NoCandidate step) =
    concat (codes "rejected: no candidate " ∷ decimal step ∷ codes "\n" ∷ [])
write_refusal refusal.Start = codes "rejected: start\n"
write_refusal (refusal.Quantum run state) =
    concat (codes "rejected: quantum trace " ∷ decimal run ∷ codes " state " ∷ decimal state
    ∷ codes "\n" ∷ [])
write_refusal (refusal.Long last) =
    concat (codes "rejected: long " ∷ decimal last ∷ codes "\n" ∷ [])
write_refusal (refusal.Range place1 place2) =
    concat (codes "rejected: range places " ∷ decimal place1 ∷ codes " " ∷ decimal place2
    ∷ codes "\n" ∷ [])
