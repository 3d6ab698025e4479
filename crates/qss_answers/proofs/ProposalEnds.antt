-- How calls of `propose` end.
use Rattle.qss_answers.proofs.Common
use Common.{ℕ, ◌≡◌, Answer, AnswerErr, AnswerResult, Appends, Bool, Certificate, certificate_text}
use Common.{Ends, Err, Global, HasNoText, IfErr, IfOk, inl, inr, IsInScope, IsProposed}
use Common.{IsSoundProposal, List, Machine, Ok, Option, refl, Result, subst, sym, TakesMemory, Vec}
use Common.{written}
use Rattle.cert_propose.specs.Proposals.{IsProposal, HasCandidate}
use Rattle.cert_propose.specs.declared.certificate_proposal.Proposal.{Proposal}
use Rattle.qss_answers.specs.ProposalAnswers.{answer_of}
use Rattle.qss_answers.proofs.BoundsHold.{kept_texts}
use Rattle.qss_answers.proofs.Ends.{judged_takes}
use Rattle.qss_answers.proofs.Scopes.{not_outside}
use Rattle.cert_propose.specs.declared.certificate_proposal.Proposal.TheVariants as proposal
use Rattle.qss_answers.specs.declared.answer_result.AnswerErr.TheVariants as error
use Rattle.qss_answers.specs.declared.answer_result.AnswerResult.TheVariants as ending

-- if the machine is in scope and has a candidate, each answer allocates
pub candidate_takes : (m : Machine) → IsInScope m → HasCandidate m → (a : Answer) → IsProposed m a
    → TakesMemory a
candidate_takes m scope (x, e) a (inl (why, out, f)) = absurd (not_outside m why out scope)
candidate_takes m scope (x, e) a (inr (inside, (proposal.Candidate c v, is, f))) =
    subst TakesMemory (sym f) (judged_takes (certificate_text c) v)
candidate_takes m scope (x, e) a (inr (inside, (proposal.NoCandidate step, is, f))) = absurd (cc)

module _ (m : Machine) (scope : IsInScope m) where
  none_by : (p : Proposal) → IsProposal m p → (why : AnswerErr)
      → HasNoText (λ answer. answer ≡ answer_of p) why → HasNoText (IsProposed m) why
  none_by p is (error.Refused why) e = inr (scope, (p, is, e))
  none_by (proposal.Candidate c v) is error.Memory takes = candidate_takes m scope (is.0, is.1)
  none_by (proposal.NoCandidate step) is error.Memory takes =
      absurd (takes (answer_of (proposal.NoCandidate step)) refl)

  module _ (p : Proposal) (is : IsProposal m p) where
    -- the text of the machine's proposal is an answer
    pub proposed : (answer : Result (Vec ℕ Global) AnswerErr)
        → IfOk answer (λ text. written text.items ≡ answer_of p)
        → IfOk answer (λ text. IsProposed m (written text.items))
    proposed (Ok text) e = inr (scope, (p, is, e))
    proposed (Err end) e = tt

    -- if the machine's proposal has no text, the machine has none
    pub no_proposal : (answer : Result (Vec ℕ Global) AnswerErr)
        → IfErr answer (HasNoText (λ answer. answer ≡ answer_of p))
        → IfErr answer (HasNoText (IsProposed m))
    no_proposal (Ok text) h = tt
    no_proposal (Err end) h = none_by p is end h

-- the bounds of the written certificate hold
pub promised : {K : Type 0} (known : K → Option (List ℕ)) (faults : K → ℕ) (failed : K → Bool)
    (old new : K) (m : Machine) (end : AnswerResult)
    → Ends known faults failed (IsProposed m) end old new → end ≡ ending.Written
    → (c : Certificate) × (text : List ℕ) × Appends (known old) (known new) text
    × IsSoundProposal m text c
promised known faults failed old new m end h e =
    let wrote = subst (λ (x : AnswerResult). Ends known faults failed (IsProposed m) x old new) e h in
    let sound = kept_texts m wrote.0 wrote.1 in (sound.0, wrote.0, wrote.2.0, sound.1)
