-- How calls end.
use Rattle.qss_answers.proofs.Common
use Common.{ℕ, ◌≡◌, Answer, AnswerErr, AnswerResult, Bool, Ends, Err, Global, HasNoText, IfErr}
use Common.{IfOk, judged, List, Ok, Option, refl, Result, subst, sym, TakesMemory, Vec, Verdict}
use Common.{written}
use Rattle.qss_answers.specs.Answers.{WritesText, result_of}
use Rattle.cert_check.specs.declared.inequality_checker.Verdict.TheVariants as verdict
use Rattle.qss_answers.specs.declared.answer_result.AnswerErr.TheVariants as error
use Rattle.qss_answers.specs.declared.answer_result.AnswerResult.TheVariants as ending

-- the answer to a verdict allocates
pub judged_takes : (text : List ℕ) (v : Verdict) → TakesMemory (judged text v)
judged_takes text verdict.Accepted = tt
judged_takes text (verdict.Rejected a b l r) = tt
judged_takes text (verdict.Range a b) = tt

-- a certificate whose answer is a text is accepted
pub judged_text : (text wanted : List ℕ) (v : Verdict) → written text ≡ judged wanted v
    → (v ≡ verdict.Accepted) × (text ≡ wanted)
judged_text text wanted verdict.Accepted e = (refl, cc)
judged_text text wanted (verdict.Rejected a b l r) e = absurd (cc)
judged_text text wanted (verdict.Range a b) e = absurd (cc)

module _ {K : Type 0} (known : K → Option (List ℕ)) (faults : K → ℕ) (failed : K → Bool)
    (IsSuch : Answer → Type 0) (old new : K) where
  nothing : (why : AnswerErr) → HasNoText IsSuch why → new ≡ old
      → Ends known faults failed IsSuch (result_of why) old new
  nothing (error.Refused why) h same = (h, same)
  nothing error.Memory h same = (h, same)

  -- a call that writes the text of an answer, if there is one
  pub ends_of : (answer : Result (Vec ℕ Global) AnswerErr)
      → IfOk answer (λ text. IsSuch (written text.items)) → IfErr answer (HasNoText IsSuch)
      → (end : AnswerResult)
      → IfOk answer (λ text. WritesText known faults failed text.items end old new)
      → IfErr answer (λ why. (end ≡ result_of why) × (new ≡ old))
      → Ends known faults failed IsSuch end old new
  ends_of (Ok text) is none ending.Written wrote same = (text.items, is, wrote)
  ends_of (Ok text) is none ending.Fault wrote same = (text.items, is, wrote)
  ends_of (Ok text) is none (ending.Refused why) wrote same = absurd wrote
  ends_of (Ok text) is none ending.Memory wrote same = absurd wrote
  ends_of (Err why) is none end wrote same =
      subst (λ (e : AnswerResult). Ends known faults failed IsSuch e old new) (sym same.0)
      (nothing why none same.1)
