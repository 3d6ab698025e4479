-- The certificate of a comparison: bytes determine exactly one certificate, or one rejection.
use Rattle.qss_guarantees.proofs.Common
use Common.{[], ℕ, ℤ, ◌∙◌, ◌∷◌, ◌≡◌, ◌⊎◌, accepted_text, ap, ap₂, Bool, bounds_text, Certificate}
use Common.{ComparisonStop, false, inl, inr, int_eq, IsCertification, IsJudged}
use Common.{IsUnusableCertificate, IsUsableCertificate, judged_texts, List, Machine, refl, Refusal}
use Common.{refused, start_states, subst, sym, true, written}
use Rattle.std.proofs.lemmas.Bool.Decides.{Decides-int_eq}
use Rattle.cert_check.specs.declared.inequality_checker.Verdict.TheVariants.{Accepted}
use Rattle.qss_answers.specs.Answers.{Answer}
use Rattle.qss_answers.specs.CertificateAnswers.{IsAccepted}
use Rattle.qss_guarantees.proofs.OneCertificateAnswer.{one_each}
use Rattle.qss_answers.specs.Comparisons.{HasStart}
use Rattle.qss_answers.specs.declared.refusal.Refusal.TheVariants as refusal
use Rattle.qss_answers.specs.declared.comparison_ending.ComparisonStop.TheVariants as stops

-- lists of numbers are the same, or not
same_or_not : (xs ys : List ℤ) → (xs ≡ ys) ⊎ (xs ≡ ys → ⊥)
same_or_not [] [] = inl refl
same_or_not [] (y ∷ ys) = inr (λ e. absurd (cc))
same_or_not (x ∷ xs) [] = inr (λ e. absurd (cc))
same_or_not (x ∷ xs) (y ∷ ys) = by (int_eq x y) refl (same_or_not xs ys)
  where
    by : (t : Bool) → int_eq x y ≡ t → (xs ≡ ys) ⊎ (xs ≡ ys → ⊥) → (x ∷ xs ≡ y ∷ ys)
        ⊎ (x ∷ xs ≡ y ∷ ys → ⊥)
    by true e (inl rest) =
        inl (ap₂ (λ (z : ℤ) (zs : List ℤ). z ∷ zs) ((Decides-int_eq x y).0 e) rest)
    by true e (inr fails) = inr (λ same. fails (cc))
    by false e rest = inr (λ same. let first : x ≡ y = cc in let holds = (Decides-int_eq x y).1
        first in absurd (cc))

start_or_not : (m : Machine) (c : Certificate) → HasStart m c ⊎ (HasStart m c → ⊥)
start_or_not m c = by (same_or_not (start_states m) c.start1)
    (same_or_not (start_states m) c.start2)
  where
    by : (start_states m ≡ c.start1) ⊎ (start_states m ≡ c.start1 → ⊥) → (start_states m ≡ c.start2)
        ⊎ (start_states m ≡ c.start2 → ⊥) → HasStart m c ⊎ (HasStart m c → ⊥)
    by (inl e) other = inl (inl e)
    by (inr fails) (inl e) = inl (inr e)
    by (inr fails) (inr neither) = inr none
      where
        none : HasStart m c → ⊥
        none (inl e) = fails e
        none (inr e) = neither e

module _ (m : Machine) (bytes : List ℕ) where
  -- a certificate that is accepted is answered with its bounds
  answer_of : (c : Certificate) → IsAccepted m bytes c
      → IsCertification m bytes (written (bounds_text m c))
  answer_of c is = inr (c, is.read, (Accepted, is.verdict, refl))

  accepted_of : (text : List ℕ) → IsCertification m bytes (written text) → (c : Certificate)
      × IsAccepted m bytes c
  accepted_of text (inl (cause, h, e)) = absurd (cc)
  accepted_of text (inr (c, read, (v, h, e))) =
      (c, record { read = read; verdict = (accepted_text m c text (bounds_text m c) v h e).0 })

  accepted_fine : (cause : Refusal) (c : Certificate) → IsCertification m bytes (refused cause)
      → IsAccepted m bytes c → ⊥
  accepted_fine cause c p is =
      absurd (let e = one_each.one_certification m bytes (refused cause) (written (bounds_text m c))
      p (answer_of c is) in cc)

  one_accepted : (a b : Certificate) → IsAccepted m bytes a → IsAccepted m bytes b → a ≡ b
  one_accepted a b p q = judged_texts.one_certificate m bytes a b p.read.text q.read.text

  -- why there is no certificate
  abbrev Other : Type 0
  Other = (c : Certificate) × IsAccepted m bytes c × (HasStart m c → ⊥)

  abbrev Cause : ComparisonStop → Type 0
  Cause stop = ((why : Refusal) × (stop ≡ stops.Refused why)
      × IsCertification m bytes (refused why)) ⊎ ((stop ≡ stops.Refused refusal.Start) × Other)

  cause_of : (stop : ComparisonStop) → IsUnusableCertificate m bytes stop → Cause stop
  cause_of (stops.Refused why) (inl p) = inl (why, refl, p)
  cause_of (stops.Refused why) (inr (start, other)) = inr (ap stops.Refused start, other)
  cause_of (stops.Over tick var) p = absurd p
  cause_of stops.Memory p = absurd p

  same_cause : (a b : ComparisonStop) → Cause a → Cause b → a ≡ b
  same_cause a b (inl (x, e, p)) (inl (y, f, q)) =
      let same : x ≡ y = (let g = one_each.one_certification m bytes (refused x) (refused y) p q in
      cc) in
      e ∙ ap stops.Refused same ∙ sym f
  same_cause a b (inl (x, e, p)) (inr (f, (c, q, fails))) = absurd (accepted_fine x c p q)
  same_cause a b (inr (e, (c, p, fails))) (inl (y, f, q)) = absurd (accepted_fine y c q p)
  same_cause a b (inr (e, p)) (inr (f, q)) = e ∙ sym f

  no_cause : (c : Certificate) (stop : ComparisonStop) → IsUsableCertificate m bytes c → Cause stop
      → ⊥
  no_cause c stop is (inl (x, e, p)) = accepted_fine x c p is.accepted
  no_cause c stop is (inr (e, (d, p, fails))) =
      fails (subst (HasStart m) (one_accepted c d is.accepted p) is.start)

  some_basis : ((c : Certificate) × IsUsableCertificate m bytes c)
      ⊎ ((stop : ComparisonStop) × IsUnusableCertificate m bytes stop)
  some_basis = let answer = one_each.some_certification m bytes in by answer.0 answer.1
    where
      started : (c : Certificate) → IsAccepted m bytes c → HasStart m c ⊎ (HasStart m c → ⊥)
          → ((c : Certificate) × IsUsableCertificate m bytes c)
          ⊎ ((stop : ComparisonStop) × IsUnusableCertificate m bytes stop)
      started c is (inl start) = inl (c, record { accepted = is; start = start })
      started c is (inr fails) = inr (stops.Refused refusal.Start, inr (refl, (c, is, fails)))

      by : (answer : Answer) → IsCertification m bytes answer
          → ((c : Certificate) × IsUsableCertificate m bytes c)
          ⊎ ((stop : ComparisonStop) × IsUnusableCertificate m bytes stop)
      by (refused why) p = inr (stops.Refused why, inl p)
      by (written text) p =
          let found = accepted_of text p in started found.0 found.1 (start_or_not m found.0)

  pub judged_basis : IsJudged (IsUsableCertificate m bytes) (IsUnusableCertificate m bytes)
  judged_basis = record {
    some = some_basis;
    one = λ a b p q. one_accepted a b p.accepted q.accepted;
    one_stop = λ a b p q. same_cause a b (cause_of a p) (cause_of b q);
    apart = λ c stop is p. no_cause c stop is (cause_of stop p);
  }
