-- How calls for a certificate end.
use Rattle.qss_answers.proofs.Common
use Common.{ℕ, ◌≡◌, Answer, AnswerErr, AnswerResult, Appends, arith, Bool, bounds_text, Certificate}
use Common.{Ends, Err, Global, HasNoText, IfErr, IfOk, inl, inr, IsCertification, IsInScope}
use Common.{IsSoundCertification, IsUpgrade, length, List, Machine, Ok, Option, refl, Refusal}
use Common.{refused, Result, subst, sym, TakesMemory, Vec, written}
use Rattle.std.proofs.Common.{◌≤◌}
use Rattle.qss_answers.specs.CertificateAnswers.{limit, IsRefusal, IsRead, IsCertified, HasNoBounds}
use Rattle.qss_answers.specs.CertificateAnswers.{RefusesBy}
use Rattle.qss_answers.proofs.BoundsHold.{bounds}
use Rattle.qss_answers.proofs.Ends.{judged_takes}
use Rattle.qss_answers.proofs.Scopes.{not_outside}
use Rattle.qss_answers.specs.declared.answer_result.AnswerErr.TheVariants as error
use Rattle.qss_answers.specs.declared.answer_result.AnswerResult.TheVariants as ending

module _ (m : Machine) (bytes : List ℕ) where
  -- if the machine is in scope and the bytes are not too long, each answer allocates
  refusal_takes : IsInScope m → length bytes ≤ limit → (why : Refusal) → IsRefusal m bytes why
      → TakesMemory (refused why)
  refusal_takes scope short why (inl (out, is, e)) = absurd (not_outside m out is scope)
  refusal_takes scope short why (inr (inl (inside, long, e))) = absurd (omega (arith, long, short))
  refusal_takes scope short why (inr (inr (inside, below, (fault, is, e)))) =
      subst (λ (w : Refusal). TakesMemory (refused w)) (sym e) tt

  pub certification_takes : IsInScope m → length bytes ≤ limit → (a : Answer)
      → IsCertification m bytes a → TakesMemory a
  certification_takes scope short a (inl (why, is, e)) =
      subst TakesMemory (sym e) (refusal_takes scope short why is)
  certification_takes scope short a (inr (c, read, (v, is, e))) =
      subst TakesMemory (sym e) (judged_takes (bounds_text m c) v)

  upgrade_takes : IsInScope m → length bytes ≤ limit → (a : Answer) → IsUpgrade m bytes a
      → TakesMemory a
  upgrade_takes scope short a (inl (why, is, e)) =
      subst TakesMemory (sym e) (refusal_takes scope short why is)
  upgrade_takes scope short a (inr (c, read, e)) = subst TakesMemory (sym e) tt

  -- if the bytes are not parsed, there is no upgrade
  pub no_upgrade : IsInScope m → length bytes ≤ limit → (why : AnswerErr)
      → RefusesBy m bytes why → HasNoText (IsUpgrade m bytes) why
  no_upgrade scope short (error.Refused why) is = inl (why, is, refl)
  no_upgrade scope short error.Memory h = upgrade_takes scope short

  module _ (c : Certificate) (read : IsRead m bytes c) where
    -- the bounds of the certificate are an answer for the bytes
    pub certification_text : (answer : Result (Vec ℕ Global) AnswerErr)
        → IfOk answer (λ text. IsCertified m c (written text.items))
        → IfOk answer (λ text. IsCertification m bytes (written text.items))
    certification_text (Ok text) is = inr (c, read, is)
    certification_text (Err end) is = tt

    -- if the certificate has no bounds, the bytes have none
    pub no_certification : (answer : Result (Vec ℕ Global) AnswerErr)
        → IfErr answer (HasNoBounds m c)
        → IfErr answer (HasNoText (IsCertification m bytes))
    no_certification (Ok text) h = tt
    no_certification (Err (error.Refused why)) h = inr (c, read, h)
    no_certification (Err error.Memory) h = certification_takes read.scope read.short

  -- the written bounds hold
  pub promised : {K : Type 0} (known : K → Option (List ℕ)) (faults : K → ℕ) (failed : K → Bool)
      (old new : K) (end : AnswerResult)
      → Ends known faults failed (IsCertification m bytes) end old new → end ≡ ending.Written
      → (c : Certificate) × (text : List ℕ) × Appends (known old) (known new) text
      × IsSoundCertification m bytes text c
  promised known faults failed old new end h e =
      let wrote = subst (λ (x : AnswerResult).
      Ends known faults failed (IsCertification m bytes) x old new) e h in
      let sound = bounds m bytes wrote.0 wrote.1 in (sound.0, wrote.0, wrote.2.0, sound.1)
