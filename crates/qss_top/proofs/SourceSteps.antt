-- The answers to a source: it is rejected, or the answer for its machine or its model is written.
use Rattle.qss_top.proofs.Common
use Common.{ℕ, ◌<◌, ◌^◌, ◌∙◌, ◌≢◌, ◌≤◌, Answer, Bool, FileKind, inl, inr, IsInScope, IsOutsideBy}
use Common.{IsRefusalFor, IsRefused, IsRefusedFor, length, limit_of, List, long_answer}
use Common.{long_outcome, Machine, Option, Outcome, Outside, refl, Refused, refused, rejected}
use Common.{rejection, sym, too_long, WritesAnswer}
use Rattle.qss_top.specs.CertificateOutcomes.{IsRefusedBefore}
use Rattle.qss_top.specs.MachineAnswers.{IsSourceMachine, IsMachineAnswer}
use Rattle.qss_top.proofs.FrameFacts.{map_answers, memory_writes, rejection_writes}
use Rattle.qss_top.proofs.Sources.{long_for, not_done, short_for}
use Rattle.qss_answers.specs.declared.refusal.Refusal.TheVariants as reasons
use Rattle.qss_top.specs.declared.command_outcome.Outcome.TheVariants as outcome
use Rattle.qss_top.specs.declared.file_reading.FileKind.TheVariants as kinds

module _ {K : Type 0} {written : K → Option (List ℕ)} {faults : K → ℕ} {failed : K → Bool}
    {goes : Bool} where
  -- a text that is too long is rejected
  long_writes : {Is : Answer → Type 0} {k : K} (kind : FileKind) → Is (long_answer kind)
      → WritesAnswer written faults failed goes Is (long_outcome kind) k k
  long_writes kinds.Model is = rejection_writes too_long refl is refl
  long_writes kinds.Certificate is =
      rejection_writes (rejected reasons.CertificateTooLong) refl is refl
  long_writes kinds.Trace is = rejection_writes (rejected reasons.TraceTooLong) refl is refl

  -- the source is rejected for such a reason
  pub refused_step : (Refuses : List ℕ → Refused → Type 0) (bytes : List ℕ)
      → ((r : Refused) → Refuses bytes r → IsRefused bytes r) → {what : Outcome} {k : K}
      → length bytes ≤ 2 ^ 20 → IsRefusedFor (Refuses bytes) what
      → WritesAnswer written faults failed goes (IsRefusalFor Refuses bytes) what k k
  refused_step Refuses bytes why short (inl e) = rw e memory_writes
  refused_step Refuses bytes why short (inr (r, is, e)) = rw e (rejection_writes (refused bytes)
      refl (short_for Refuses bytes short r is)
      (record { refusal = r; is = why r is; same = refl }))

  module _ {share : ℕ} {IsSuch : Machine → Answer → Type 0} {bytes : List ℕ} where
    -- the source compiles to this machine
    pub machine_step : {m : Machine} {what : Outcome} {old new : K} → IsSourceMachine share bytes m
        → WritesAnswer written faults failed goes (IsSuch m) what old new
        → WritesAnswer written faults failed goes (IsMachineAnswer share IsSuch bytes) what old new
    machine_step {m} is h = map_answers (λ a such. inr (m, is, such)) h

    -- the source is rejected
    pub machine_refused : {what : Outcome} {k : K} → length bytes ≤ 2 ^ 20
        → IsRefusedFor (IsRefused bytes) what
        → WritesAnswer written faults failed goes (IsMachineAnswer share IsSuch bytes) what k k
    machine_refused short h =
        map_answers (λ a is. inl is) (refused_step IsRefused bytes (λ r is. is) short h)

    -- the source is too long
    pub machine_too_long : {k : K} → 2 ^ 20 < length bytes
        → WritesAnswer written faults failed goes (IsMachineAnswer share IsSuch bytes)
        outcome.TooLong k k
    machine_too_long long =
        rejection_writes too_long refl (inl (long_for IsRefused bytes long)) refl

    -- the source or the text is refused before the text is parsed
    pub refused_before : (kind : FileKind) (text : List ℕ) {what : Outcome} {k : K}
        → ((m : Machine) (why : Outside) → IsOutsideBy m why
        → IsSuch m (rejection (reasons.Outside why)))
        → ((m : Machine) → IsInScope m → limit_of kind < length text → IsSuch m (long_answer kind))
        → IsRefusedBefore share bytes kind text what
        → WritesAnswer written faults failed goes (IsMachineAnswer share IsSuch bytes) what k k
    refused_before kind text outside long (inl (over, e)) = rw e (machine_too_long over)
    refused_before kind text outside long (inr (inl (short, h))) = machine_refused short h
    refused_before kind text outside long (inr (inr (m, is, inl (why, out, e)))) =
        rw e (machine_step is (rejection_writes (rejected (reasons.Outside why)) refl
        (outside m why out) refl))
    refused_before kind text outside long (inr (inr (m, is, inr (scope, over, e)))) =
        rw e (machine_step is (long_writes kind (long m scope over)))

-- a text that is refused before it is parsed is not answered with status 0
pub refused_not_done : (share : ℕ) (source : List ℕ) (kind : FileKind) (text : List ℕ)
    (what : Outcome) → IsRefusedBefore share source kind text what → what ≢ outcome.Done
refused_not_done share source kind text what (inl (over, e)) d = cc (e, d)
refused_not_done share source kind text what (inr (inl (short, h))) d =
    not_done (IsRefused source) what h d
refused_not_done share source kind text what (inr (inr (m, is, inl (why, out, e)))) d = cc (e, d)
refused_not_done share source kind text what (inr (inr (m, is, inr (scope, over, e)))) d =
    long_not_done kind (sym e ∙ d)
  where
    long_not_done : (kind : FileKind) → long_outcome kind ≢ outcome.Done
    long_not_done kinds.Model e = cc e
    long_not_done kinds.Certificate e = cc e
    long_not_done kinds.Trace e = cc e
