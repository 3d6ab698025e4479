-- The status of a call and its outcome.
use Rattle.qss_top.proofs.Common
use Common.{◌∙◌, ◌≡◌, ◌≢◌, ◌⊎◌, ap, Bool, false, inl, inr, leaves_out, Outcome, refl, Status}
use Common.{status_of, sym, takes_memory, true}
use Rattle.qss_top.proofs.Refusals.{rejection_ends}
use Rattle.qss_top.specs.declared.command_outcome.Outcome.TheVariants as outcome
use Rattle.qss_top.specs.declared.status.Status.TheVariants as ends

-- the status is that of the outcome, unless its line could not be allocated
abbrev pub IsStatus : Status → Outcome → Type 0
IsStatus status what =
    (status ≡ status_of what) ⊎ ((status ≡ ends.Memory) × (takes_memory what ≡ true))

-- the outcome with this status, or `TooLong` if there are several
abbrev pub outcome_with : Status → Outcome
outcome_with ends.Ok = outcome.Done
outcome_with ends.Usage = outcome.Usage
outcome_with ends.ReadFault = outcome.ReadFault
outcome_with ends.WriteFault = outcome.WriteFault
outcome_with ends.Memory = outcome.Memory
outcome_with _ = outcome.TooLong

-- an outcome is that with its status, and its line is not allocated, or it is an overflow or a
-- rejection
pub outcome_kinds : (what : Outcome)
    → ((outcome_with (status_of what) ≡ what) × (takes_memory what ≡ false))
    ⊎ ((outcome_with (status_of what) ≡ outcome.TooLong) × ((status_of what ≡ ends.Overflow)
    ⊎ ((goes : Bool) → leaves_out goes (status_of what) ≡ true)))
outcome_kinds outcome.Done = inl (refl, refl)
outcome_kinds outcome.Usage = inl (refl, refl)
outcome_kinds outcome.ReadFault = inl (refl, refl)
outcome_kinds outcome.WriteFault = inl (refl, refl)
outcome_kinds outcome.TooLong = inl (refl, refl)
outcome_kinds (outcome.Refused r) = inr (refl, inr (λ goes. refl))
outcome_kinds (outcome.Overflow name tick) = inr (refl, inl refl)
outcome_kinds outcome.Memory = inl (refl, refl)
outcome_kinds (outcome.Rejected why) = elim (rejection_ends why) [
  | inl is ↦ inr (ap outcome_with is, inr (λ goes. ap (leaves_out goes) is))
  | inr is ↦ inr (ap outcome_with is, inr (λ goes. ap (leaves_out goes) is))
]

-- the outcome of a status that only one outcome has
pub outcome_of : (what : Outcome) (status : Status) → status ≡ status_of what
    → outcome_with status ≢ outcome.TooLong → what ≡ outcome_with status
outcome_of what status e single = elim (outcome_kinds what) [
  | inl (same, takes) ↦ sym same ∙ sym (ap outcome_with e)
  | inr (other, left) ↦ absurd (single (ap outcome_with e ∙ other))
]

module _ (status : Status) (what : Outcome) where
  pub outcome_is : IsStatus status what → (s : Status) → status ≡ s → s ≢ ends.Memory
      → outcome_with s ≢ outcome.TooLong → what ≡ outcome_with s
  outcome_is (inl e) s same others single = outcome_of what s (sym same ∙ e) single
  outcome_is (inr (e, takes)) s same others single = absurd (others (sym same ∙ e))

  -- the status of an outcome whose line is not allocated
  pub status_is : IsStatus status what → (w : Outcome) → what ≡ w → takes_memory w ≡ false
      → status ≡ status_of w
  status_is (inl e) w same plain = e ∙ ap status_of same
  status_is (inr (e, takes)) w same plain = absurd (cc (ap takes_memory same, takes, plain))

  -- nothing is written for the outcome either
  pub leaves_of : (goes : Bool) → IsStatus status what → leaves_out goes status ≡ true
      → leaves_out goes (status_of what) ≡ true
  leaves_of goes (inl e) left = sym (ap (leaves_out goes) e) ∙ left
  leaves_of goes (inr (e, takes)) left = elim (outcome_kinds what) [
    | inl (same, plain) ↦ absurd (cc (takes, plain))
    | inr (other, inl over) ↦ ap (leaves_out goes) over ∙ sym (ap (leaves_out goes) e) ∙ left
    | inr (other, inr all) ↦ all goes
  ]
