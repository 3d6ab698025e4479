-- How calls for a trace end.
use Rattle.qss_answers.proofs.Common
use Common.{ℕ, ◌≡◌, AnswerResult, Appends, arith, Bool, Ends, inl, inr, IsChecked, List, Machine}
use Common.{Option, Refusal, refused, state_count, subst, Trace, written}
use Rattle.qss_trace.specs.Trace.{IsRunOf}
use Rattle.qss_trace.specs.TraceTexts.{IsTextOf}
use Rattle.qss_trace.specs.TraceVerdicts.{IsVerdict}
use Rattle.qss_trace.specs.declared.trace_checker.TraceVerdict.{TraceVerdict}
use Rattle.qss_trace.proofs.OneTrace.{one-trace}
use Rattle.qss_trace.proofs.OneVerdict.{one-verdict}
use Rattle.qss_trace.proofs.Runs.{run-holds, holds-run}
use Rattle.qss_trace.proofs.Spelt.{fault-or-text}
use Rattle.qss_answers.specs.TraceAnswers.{IsRefusal, IsRead, IsAccepted, summary}
use Rattle.qss_answers.proofs.Scopes.{not_outside}
use Rattle.qss_trace.specs.declared.trace_checker.TraceVerdict.TheVariants as verdict
use Rattle.qss_answers.specs.declared.answer_result.AnswerResult.TheVariants as ending

module _ (m : Machine) (bytes : List ℕ) where
  -- a trace that is accepted is a legitimate run, and conversely
  pub run_of : (t : Trace) → IsAccepted m bytes t → IsRunOf m t
  run_of t h = holds-run m t h.read.text.2.size h.legitimate

  pub accepted_of : (t : Trace) → IsRead m bytes t → IsRunOf m t → IsAccepted m bytes t
  accepted_of t read run =
      record { read = read; legitimate = run-holds m t read.text.2.size run }

  -- the bytes parse as at most one trace, which has one verdict
  pub one_read : (a b : Trace) (v w : TraceVerdict) → IsRead m bytes a → IsRead m bytes b
      → IsVerdict m a v → IsVerdict m b w → v ≡ w
  one_read a b v w read_a read_b is_v is_w =
      let same = one-trace (state_count m) bytes a b read_a.text read_b.text in
      one-verdict m b v w (subst (λ (t : Trace). IsVerdict m t v) same is_v) is_w

  -- a trace that is accepted is not rejected
  pub accepted_fine : (why : Refusal) (t : Trace) → IsRefusal m bytes why → IsAccepted m bytes t → ⊥
  accepted_fine why t (inl (out, p, e)) h = not_outside m out p h.read.scope
  accepted_fine why t (inr (inl (scope, long, e))) h = omega (arith, long, h.read.short)
  accepted_fine why t (inr (inr (inl (scope, short, (fault, p, e))))) h =
      fault-or-text (state_count m) bytes fault t p h.read.text
  accepted_fine why t (inr (inr (inr (u, read, p)))) h =
      let broken = verdict.Broken p.place p.fact p.state p.left p.right in
      absurd (let same : broken ≡ verdict.Legitimate =
      one_read u t broken verdict.Legitimate read h.read p.is h.legitimate in cc)

  -- a text is the summary of a legitimate run
  pub checked_run : (text : List ℕ) → IsChecked m bytes (written text)
      → (t : Trace) × IsRead m bytes t × IsRunOf m t × (text ≡ summary t)
  checked_run text (inl (why, h, e)) = absurd (cc)
  checked_run text (inr (t, h, e)) = (t, h.read, run_of t h, cc)

  module _ {K : Type 0} (known : K → Option (List ℕ)) (faults : K → ℕ) (failed : K → Bool)
      (old new : K) (end : AnswerResult)
      (h : Ends known faults failed (IsChecked m bytes) end old new) where
    as_end : (other : AnswerResult) → end ≡ other
        → Ends known faults failed (IsChecked m bytes) other old new
    as_end other e = subst (λ (x : AnswerResult).
        Ends known faults failed (IsChecked m bytes) x old new) e h

    -- the written text is the summary of a legitimate run
    pub accepted : end ≡ ending.Written → (t : Trace) × IsTextOf (state_count m) bytes t
        × IsRunOf m t × Appends (known old) (known new) (summary t)
    accepted e =
        let wrote = as_end ending.Written e in
        let run = checked_run wrote.0 wrote.1 in
        (run.0, run.1.text, run.2, subst (Appends (known old) (known new)) run.3 wrote.2.0)

    -- if the trace is rejected, the bytes are no legitimate run
    pub rejected : (why : Refusal) → end ≡ ending.Refused why → (t : Trace) → IsRead m bytes t
        → IsRunOf m t → ⊥
    rejected why e t read run = elim ((as_end (ending.Refused why) e).0) [
      | inl is ↦ accepted_fine is.0 t is.1 (accepted_of t read run)
      | inr is ↦ absurd (let no : refused why ≡ written (summary is.0) = is.2 in cc)
    ]
