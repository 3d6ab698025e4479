-- The result of `check` for a machine and the bytes of a trace.
use Rattle.std.specs.Prelude.{◌≡◌, ℕ, ℤ, ◌<◌, ◌≤◌, ◌⊎◌, List, [], ◌∷◌, length, codes}
use Rattle.std.specs.Prelude.{decimal}
use Rattle.std.specs.List.{concat}
use Rattle.mu_num.specs.Limits.{trace_length_limit}
use Rattle.qss_machine.specs.declared.compiled_machine.Machine.{Machine}
use Rattle.qss_machine.specs.Machines.{state_count}
use Rattle.cert_check.specs.Scope.{IsInScope, IsOutsideBy}
use Rattle.cert_check.specs.declared.certificate_scope.Outside.{Outside}
use Rattle.qss_trace.specs.TraceTexts.{IsTextOf, IsFaultOf}
use Rattle.qss_trace.specs.Trace.{count_of}
use Rattle.qss_trace.specs.TraceVerdicts.{IsVerdict}
use Rattle.qss_trace.specs.declared.trace.Trace.{Trace}
use Rattle.qss_trace.specs.declared.trace_checker.TraceVerdict.TheVariants as verdict
use Rattle.cert_check.specs.declared.text_err.TextErr.{TextErr}
use Rattle.qss_answers.specs.Answers.{Answer, refused, written, IsNotReadBy}
use Rattle.qss_answers.specs.declared.answer_result.AnswerErr.{AnswerErr}
use Rattle.qss_answers.specs.declared.refusal.Refusal.{Refusal}
use Rattle.qss_answers.specs.declared.refusal.Refusal.TheVariants as refusal

-- the greatest length of a trace, in bytes
abbrev pub limit : ℕ
limit = trace_length_limit

-- the bytes parse as this trace of the machine
pub record IsRead (m : Machine) (bytes : List ℕ) (t : Trace) : Type 0 where
  pub scope : IsInScope m
  pub short : length bytes ≤ limit
  pub text : IsTextOf (state_count m) bytes t

-- the reason reports the first fact of a legitimate run of the machine that the trace breaks
pub record IsBrokenBy (m : Machine) (t : Trace) (why : Refusal) : Type 0 where
  pub place : ℕ
  pub fact : ℕ
  pub state : ℕ
  pub left : ℤ
  pub right : ℤ
  pub is : IsVerdict m t (verdict.Broken place fact state left right)
  pub told : why ≡ refusal.Broken place fact state left right

-- the bytes are rejected as a trace of a legitimate run of the machine for this reason
abbrev pub IsRefusal : Machine → List ℕ → Refusal → Type 0
IsRefusal m bytes why =
    ((out : Outside) × IsOutsideBy m out × (why ≡ refusal.Outside out))
    ⊎ (IsInScope m × (limit < length bytes) × (why ≡ refusal.TraceTooLong))
    ⊎ (IsInScope m × (length bytes ≤ limit)
    × ((fault : TextErr) × IsFaultOf (state_count m) bytes fault × (why ≡ refusal.NotTrace fault)))
    ⊎ ((t : Trace) × IsRead m bytes t × IsBrokenBy m t why)

-- the bytes parse as this trace, which is a legitimate run of the machine
pub record IsAccepted (m : Machine) (bytes : List ℕ) (t : Trace) : Type 0 where
  pub read : IsRead m bytes t
  pub legitimate : IsVerdict m t verdict.Legitimate

-- the summary of a trace: a header, then the number of places, the scale and the refinement
abbrev pub summary : Trace → List ℕ
summary t = concat (codes "places,scale,refine\n" ∷ decimal (count_of t) ∷ codes "," ∷ decimal t.scale ∷ codes "," ∷ decimal t.refine ∷ codes "\n" ∷ [])

-- the result for the bytes: the reason of the rejection, or the summary
abbrev pub IsChecked : Machine → List ℕ → Answer → Type 0
IsChecked m bytes answer =
    ((why : Refusal) × IsRefusal m bytes why × (answer ≡ refused why)) ⊎ ((t : Trace) × IsAccepted m bytes t × (answer ≡ written (summary t)))

-- a call returns no legitimate trace: the bytes are none for this reason, or an allocation failed
abbrev pub RefusesBy : Machine → List ℕ → AnswerErr → Type 0
RefusesBy m bytes why = IsNotReadBy (IsRefusal m bytes) why
