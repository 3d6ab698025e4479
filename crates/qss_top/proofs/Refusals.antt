-- The statuses of rejections.
use Rattle.qss_top.proofs.Common.{◌≡◌, ◌⊎◌, inl, inr, refl, Refusal, status_of_refusal}
use Rattle.qss_answers.specs.declared.refusal.Refusal.TheVariants as reasons
use Rattle.qss_top.specs.declared.status.Status.TheVariants as ends

-- a rejection ends in one of two ways
pub rejection_ends : (why : Refusal)
    → (status_of_refusal why ≡ ends.Rejected) ⊎ (status_of_refusal why ≡ ends.CertRefused)
rejection_ends (reasons.Outside why) = inl refl
rejection_ends (reasons.Clauses count) = inl refl
rejection_ends reasons.CertificateTooLong = inr refl
rejection_ends reasons.TraceTooLong = inr refl
rejection_ends (reasons.NotCertificate why) = inr refl
rejection_ends (reasons.NotTrace why) = inr refl
rejection_ends (reasons.Rejected verdict) = inl refl
rejection_ends (reasons.Broken place fact state left right) = inl refl
rejection_ends (reasons.NoCandidate step) = inl refl
rejection_ends reasons.Start = inl refl
rejection_ends (reasons.Quantum run state) = inl refl
rejection_ends (reasons.Long last) = inl refl
rejection_ends (reasons.Range place1 place2) = inl refl
