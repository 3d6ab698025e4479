-- A file of a command that is read, or is not read up to its end.
use Rattle.qss_top.proofs.Common
use Common.{[], ℕ, ◌++◌, ◌∙◌, ◌∷◌, ◌≡◌, ◌≢◌, ◌≤◌, ◌⊎◌, AddsReadings, ap, arith, Bool, false}
use Common.{faulted, FileKind, Files, HasOneMoreFault, in_progress, inl, inr, is_too_long}
use Common.{IsFileFrame, IsOf, IsOutcome, length, List, long_answer, long_outcome, Option, Outcome}
use Common.{ReadFails, Reading, reading, refl, Some, subst, sym, too_long, true}
use Rattle.std.proofs.Common.{◌-◌, bytes_eq, length-append}
use Rattle.std.specs.Prelude.{All}
use Rattle.std.proofs.lemmas.List.{take_at}
use Rattle.std.proofs.lemmas.Slice.Eq.{bytes_eq-Decides}
use Rattle.mu_io.specs.FaultCounts.{OnlyCounts}
use Rattle.mu_io.specs.Readings.{AreOfKnown, since, ReadsPart}
use Rattle.qss_top.proofs.OutcomeFacts.{refused_now, rejected_now}
use Rattle.qss_answers.specs.declared.refusal.Refusal.TheVariants as reasons
use Rattle.qss_top.specs.declared.command_outcome.Outcome.TheVariants as outcome
use Rattle.qss_top.specs.declared.file_reading.FileKind.TheVariants as kinds
use Rattle.qss_top.specs.declared.status.Status.TheVariants as ends

-- the outcome for a file that is too long is that of the answer, which rejects the file
-- it is neither a fault nor an invalid command line
pub long_is : (kind : FileKind) (old : Option (List ℕ))
    → IsOutcome (long_answer kind) (long_outcome kind) old old
    × (is_too_long (long_answer kind) ≡ true) × (long_outcome kind ≢ outcome.ReadFault)
    × (long_outcome kind ≢ outcome.WriteFault) × (long_outcome kind ≢ outcome.Usage)
long_is kinds.Model old = (
  refused_now ends.ModelRefused too_long outcome.TooLong old refl refl,
  refl,
  λ e. cc e,
  λ e. cc e,
  λ e. cc e,
)
long_is kinds.Certificate old =
    (rejected_now reasons.CertificateTooLong old, refl, λ e. cc e, λ e. cc e, λ e. cc e)
long_is kinds.Trace old =
    (rejected_now reasons.TraceTooLong old, refl, λ e. cc e, λ e. cc e, λ e. cc e)

-- ---- the frame of a file that is read

-- the readings that were added are possible for the files
adds : (files : Option Files) (added old new : List Reading) → new ≡ added ++ old
    → AreOfKnown files old new → AddsReadings files old new
adds files added old new e is = record {
  added = added;
  parts = e;
  possible = λ known same. by known (subst (λ (f : Option Files). AreOfKnown f old new) same is);
}
  where
    by : (known : Files) → AreOfKnown (Some known) old new → All (IsOf known) added
    by known each = subst (All (IsOf known)) (ap (since old) e ∙ take_at added old
        (length (added ++ old) - length old)
        (let l = length-append added old in omega (arith, l))) each

-- names are equal or not
same_name : (a b : List ℕ) → (a ≡ b) ⊎ (a ≢ b)
same_name a b = by (bytes_eq a b) refl
  where
    by : (t : Bool) → bytes_eq a b ≡ t → (a ≡ b) ⊎ (a ≢ b)
    by true is = inl ((bytes_eq-Decides a b).0 is)
    by false is = inr (λ e. let wrong = (bytes_eq-Decides a b).1 e in absurd (cc))

-- if only the count of one file may change, no count falls, and none changes if that one does not
module _ (name : List ℕ) (before now : List ℕ → ℕ) (only : OnlyCounts name before now)
    (other : List ℕ) where
  unchanged : now name ≡ before name → now other ≡ before other
  unchanged calm = elim (same_name other name) [
    | inl same ↦ ap now same ∙ calm ∙ ap before (sym same)
    | inr apart ↦ only.others other apart
  ]

  later : before other ≤ now other
  later = elim (same_name other name) [
    | inl same ↦ rw same (only.later)
    | inr apart ↦ let same = only.others other apart in omega (arith, same)
  ]

module _ {S : Type 0} {known : S → Option Files} {counts : S → List ℕ → ℕ}
    {readings : S → List Reading} {name : List ℕ} {old new : S} (same : known new ≡ known old)
    (only : OnlyCounts name (counts old) (counts new))
    (possible : AreOfKnown (known old) (readings old) (readings new)) where
  -- a file is read without a fault; these readings were added
  pub calm_frame : {what : Outcome} → what ≢ outcome.ReadFault → counts new name ≡ counts old name
      → (added : List Reading) → readings new ≡ added ++ readings old
      → IsFileFrame known counts readings what old new
  calm_frame not_read calm added e = record {
    same_files = same;
    counts_never_fall = later name (counts old) (counts new) only;
    adds_readings = adds (known old) added (readings old) (readings new) e possible;
    no_read_fault = λ d other. unchanged name (counts old) (counts new) only other calm;
    fault_was_last = λ d. absurd (not_read d);
  }

  -- a read of a file failed
  pub fault_frame : HasOneMoreFault (counts old name) (counts new name)
      → ReadFails (readings old) (readings new) name
      → IsFileFrame known counts readings outcome.ReadFault old new
  fault_frame one (bytes, fails) = record {
    same_files = same;
    counts_never_fall = later name (counts old) (counts new) only;
    adds_readings = adds (known old) (reading name bytes faulted ∷ []) (readings old)
        (readings new) fails possible;
    no_read_fault = λ e. absurd (e refl);
    fault_was_last = λ e. record {
      name = name;
      bytes = bytes;
      earlier = readings old;
      last = fails;
      incremented = one;
      others = only.others;
    };
  }

  -- an allocation failed
  pub memory_frame : counts new name ≡ counts old name
      → ReadsPart (readings old) (readings new) name
      → IsFileFrame known counts readings outcome.Memory old new
  memory_frame calm (inl none) = calm_frame (λ e. cc e) calm [] none
  memory_frame calm (inr (bytes, part)) =
      calm_frame (λ e. cc e) calm (reading name bytes in_progress ∷ []) part
