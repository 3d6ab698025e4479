-- Sources that are rejected.
use Rattle.qss_top.proofs.Common
use Common.{ℕ, ◌<◌, ◌^◌, ◌∙◌, ◌≡◌, ◌≢◌, ◌≤◌, ap, arith, Bool, false, inl, inr, IsRefusalFor}
use Common.{IsRefusedFor, length, List, Outcome, refl, refusal, Refused, refused, sym, too_long}
use Common.{true}
use Rattle.std.proofs.Common.{nat_lt}
use Rattle.std.specs.Prelude.{if◌then◌else◌}
use Rattle.qss_compile.specs.Causes.{is_memory}
use Rattle.qss_compile.specs.Compilation.{IsErr}
use Rattle.qss_top.specs.CommandOutcomes.{refused_so}
use Rattle.qss_top.specs.declared.command_outcome.Outcome.TheVariants as outcome
use Rattle.qss_top.specs.declared.status.Status.TheVariants as ends

-- the answer that rejects a source
module _ (Refuses : List ℕ → Refused → Type 0) (bytes : List ℕ) where
  pub long_for : 2 ^ 20 < length bytes
      → IsRefusalFor Refuses bytes (refusal ends.ModelRefused too_long)
  long_for h = let long : nat_lt (2 ^ 20) (length bytes) ≡ true = grind arith in rw long refl

  pub short_for : length bytes ≤ 2 ^ 20 → (r : Refused) → Refuses bytes r
      → IsRefusalFor Refuses bytes (refusal ends.ModelRefused (refused bytes))
  short_for h r refuses =
      let short : nat_lt (2 ^ 20) (length bytes) ≡ false = grind arith in
      rw short (r, refuses, refl)

-- the outcome for a source that is rejected
module _ (Refuses : Refused → Type 0) where
  refused_by : (r : Refused) (b : Bool) → is_memory r.error ≡ b → IsErr Refuses r
      → IsRefusedFor Refuses (if b then outcome.Memory else outcome.Refused r)
  refused_by r true e h = inl refl
  refused_by r false e (inl memory) = absurd (cc (sym (ap is_memory memory) ∙ e))
  refused_by r false e (inr refuses) = inr (r, refuses, refl)

  pub refused_for : (r : Refused) → IsErr Refuses r → IsRefusedFor Refuses (refused_so r)
  refused_for r h = refused_by r (is_memory r.error) refl h

  pub not_done : (what : Outcome) → IsRefusedFor Refuses what → what ≢ outcome.Done
  not_done what (inl memory) = λ e. cc (memory, e)
  not_done what (inr found) = let is = found.2 in λ e. cc (is, e)
