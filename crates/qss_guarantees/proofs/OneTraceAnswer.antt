-- A machine and bytes determine exactly one answer of `check`.
use Rattle.qss_guarantees.proofs.Common
use Common.{ℕ, ◌<◌, ◌∙◌, ◌≡◌, ◌≤◌, ◌⊎◌, accepted_fine, ap, arith, cases_lt, inl, inr, IsChecked}
use Common.{IsInScope, IsOutsideBy, IsRead, length, List, Machine, not_outside, one-trace, refl}
use Common.{Refusal, refused, state_count, summary, sym, TextErr, Trace, written}
use Rattle.qss_guarantees.proofs.Scopes.{one_outside, scope_of}
use Rattle.qss_trace.specs.TraceTexts.{IsTextOf, IsFaultOf}
use Rattle.qss_trace.specs.TraceVerdicts.{IsVerdict}
use Rattle.qss_trace.specs.declared.trace_checker.TraceVerdict.{TraceVerdict}
use Rattle.qss_trace.proofs.Faultless.{judged}
use Rattle.qss_trace.proofs.SomeVerdict.{some-verdict}
use Rattle.qss_trace.proofs.Spelt.{one-fault, fault-or-text}
use Rattle.qss_answers.proofs.TraceEnds.{one_read}
use Rattle.qss_answers.specs.Answers.{Answer}
use Rattle.qss_answers.specs.TraceAnswers.{limit, IsRefusal}
use Rattle.qss_guarantees.specs.TraceLaws.{TraceAnswersAreOne}
use Rattle.cert_check.specs.declared.certificate_scope.Outside as outsides
use Rattle.qss_trace.specs.declared.trace_checker.TraceVerdict.TheVariants as verdict
use Rattle.qss_answers.specs.declared.refusal.Refusal.TheVariants as refusal

-- the rejection that reports a verdict
abbrev told_by : TraceVerdict → Refusal
told_by verdict.Legitimate = refusal.TraceTooLong
told_by (verdict.Broken place fact state left right) = refusal.Broken place fact state left right

pub one_refusal : (m : Machine) (bytes : List ℕ) (a b : Refusal) → IsRefusal m bytes a
    → IsRefusal m bytes b → a ≡ b
one_refusal m bytes a b (inl (out, p, e)) (inl (other, q, f)) = e
    ∙ ap refusal.Outside (one_outside m out other p q) ∙ sym f
one_refusal m bytes a b (inl (out, p, e)) (inr (inl (scope, long, f))) =
    absurd (not_outside m out p scope)
one_refusal m bytes a b (inl (out, p, e)) (inr (inr (inl (scope, short, fails)))) =
    absurd (not_outside m out p scope)
one_refusal m bytes a b (inl (out, p, e)) (inr (inr (inr (u, read, broken)))) =
    absurd (not_outside m out p read.scope)
one_refusal m bytes a b (inr (inl (scope, long, e))) (inl (other, q, f)) =
    absurd (not_outside m other q scope)
one_refusal m bytes a b (inr (inl (scope, long, e))) (inr (inl (also, more, f))) = e ∙ sym f
one_refusal m bytes a b (inr (inl (scope, long, e))) (inr (inr (inl (also, short, fails)))) =
    absurd (omega (arith, long, short))
one_refusal m bytes a b (inr (inl (scope, long, e))) (inr (inr (inr (u, read, broken)))) =
    absurd (omega (arith, long, read.short))
one_refusal m bytes a b (inr (inr (inl (scope, short, fails)))) (inl (other, q, f)) =
    absurd (not_outside m other q scope)
one_refusal m bytes a b (inr (inr (inl (scope, short, fails)))) (inr (inl (also, long, f))) =
    absurd (omega (arith, long, short))
one_refusal m bytes a b (inr (inr (inl (scope, short, (fault, p, e)))))
    (inr (inr (inl (also, below, (other, q, f))))) =
    e ∙ ap refusal.NotTrace (one-fault (state_count m) bytes fault other p q) ∙ sym f
one_refusal m bytes a b (inr (inr (inl (scope, short, (fault, p, e)))))
    (inr (inr (inr (u, read, broken)))) =
    absurd (fault-or-text (state_count m) bytes fault u p read.text)
one_refusal m bytes a b (inr (inr (inr (t, read, broken)))) (inl (other, q, f)) =
    absurd (not_outside m other q read.scope)
one_refusal m bytes a b (inr (inr (inr (t, read, broken)))) (inr (inl (scope, long, f))) =
    absurd (omega (arith, read.short, long))
one_refusal m bytes a b (inr (inr (inr (t, read, broken)))) (inr
    (inr (inl (scope, short, (fault, q, f))))) =
    absurd (fault-or-text (state_count m) bytes fault t q read.text)
one_refusal m bytes a b (inr (inr (inr (t, read, p)))) (inr (inr (inr (u, also, q)))) =
    p.told ∙ ap told_by (one_read m bytes t u (verdict.Broken p.place p.fact p.state p.left p.right)
    (verdict.Broken q.place q.fact q.state q.left q.right) read also p.is q.is) ∙ sym q.told

one_answer : (m : Machine) (bytes : List ℕ) (a b : Answer) → IsChecked m bytes a
    → IsChecked m bytes b → a ≡ b
one_answer m bytes a b (inl p) (inl q) = p.2 ∙ ap refused (one_refusal m bytes p.0 q.0 p.1 q.1)
    ∙ sym q.2
one_answer m bytes a b (inl p) (inr q) = absurd (accepted_fine m bytes p.0 q.0 p.1 q.1)
one_answer m bytes a b (inr p) (inl q) = absurd (accepted_fine m bytes q.0 p.0 q.1 p.1)
one_answer m bytes a b (inr p) (inr q) =
    p.2 ∙ ap (λ t. written (summary t)) (one-trace (state_count m) bytes p.0 q.0 p.1.read.text
    q.1.read.text) ∙ sym q.2

some_answer : (m : Machine) (bytes : List ℕ) → (a : Answer) × IsChecked m bytes a
some_answer m bytes = by (scope_of m) (cases_lt limit (length bytes))
  where
    not : (why : Refusal) → IsRefusal m bytes why → (a : Answer) × IsChecked m bytes a
    not why h = (refused why, inl (why, h, refl))

    of : (t : Trace) → IsRead m bytes t → (v : TraceVerdict) → IsVerdict m t v → (a : Answer)
        × IsChecked m bytes a
    of t read verdict.Legitimate is =
        (written (summary t), inr (t, record { read = read; legitimate = is }, refl))
    of t read (verdict.Broken a b c d e) is =
        not (refusal.Broken a b c d e) (inr (inr (inr (
          t,
          read,
          record
              { place = a; fact = b; state = c; left = d; right = e; is = is; told = refl },
        ))))

    read : IsInScope m → length bytes ≤ limit → ((t : Trace) × IsTextOf (state_count m) bytes t)
        ⊎ ((why : TextErr) × IsFaultOf (state_count m) bytes why) → (a : Answer)
        × IsChecked m bytes a
    read scope short (inl found) =
        let v = some-verdict m found.0 in of found.0 (record {
          scope = scope;
          short = short;
          text =
              found.1;
        }) v.0 v.1
    read scope short (inr fails) =
        not (refusal.NotTrace fails.0) (inr (inr (inl (scope, short, (fails.0, fails.1, refl)))))

    by : ((why : outsides.Outside) × IsOutsideBy m why) ⊎ IsInScope m → (limit < length bytes)
        ⊎ (length bytes ≤ limit) → (a : Answer) × IsChecked m bytes a
    by (inl out) h = not (refusal.Outside out.0) (inl (out.0, out.1, refl))
    by (inr scope) (inl long) = not refusal.TraceTooLong (inr (inl (scope, long, refl)))
    by (inr scope) (inr short) =
        read scope short (judged (state_count m) bytes (record
        { some = scope.some; few = scope.few }) short)

pub one_each : TraceAnswersAreOne
one_each = record { some_answer = some_answer; one_answer = one_answer }
