-- Event steps one after another.
use Rattle.qss_events.proofs.Common
use Common.{[], ℕ, ℤ, ◌++◌, ◌+◌, ◌∙◌, ◌∷◌, ◌≡◌, ap, AreEventFree, arith, IsEventFreeExecution}
use Common.{IsStep, last_snapshot, length, List, Machine, Ok, Result, Snapshot, subst, sym}
use Common.{tick_rows}
use Rattle.std.proofs.lemmas.List.{length-append}
use Rattle.qss_events.specs.EventFreeRuns.{IsVisit}
use Rattle.qss_events.proofs.Silences.{leads_on, last-append}

module _ (Rule : ℤ → ℤ → ℤ → ℤ → Type 0) (m : Machine) (from : ℕ) (w0 : Snapshot) (silent : List Snapshot) (tick : ℕ) (w : Snapshot) (are : AreEventFree Rule m from w0 silent tick w) where
  more_leads : (more : List Snapshot) → IsEventFreeExecution Rule m tick w more → IsEventFreeExecution Rule m from w0 (silent ++ more)
  more_leads more leads =
      leads_on Rule m from w0 silent more are.leads
      (subst (λ v. IsEventFreeExecution Rule m (from + length silent) v more) (sym are.reached) (subst (λ t. IsEventFreeExecution Rule m t w more) are.as_many leads))

  pub more_last : (more : List Snapshot) → last_snapshot w0 (silent ++ more) ≡ last_snapshot w more
  more_last more = last-append w0 silent more ∙ ap (λ v. last_snapshot v more) are.reached

  -- an event step, from where the first of them began
  pub visit_on : (more : List Snapshot) (next : ℕ) (result : Result Snapshot ℕ) → IsVisit Rule m tick w more next result → IsVisit Rule m from w0 (silent ++ more) next result
  visit_on more next result visit = record {
    leads = more_leads more visit.leads;
    is_next = omega (arith, visit.is_next, are.as_many, length-append silent more);
    is_step = subst (λ v. IsStep Rule m next v result) (sym (more_last more)) visit.is_step;
  }

  pub rows_on : (more : List Snapshot) (next : ℕ) (to : Snapshot) → tick_rows m next (last_snapshot w more) to ≡ tick_rows m next (last_snapshot w0 (silent ++ more)) to
  rows_on more next to = ap (λ v. tick_rows m next v to) (sym (more_last more))

-- a tick without rows is event-free too
pub silent_visit : (Rule : ℤ → ℤ → ℤ → ℤ → Type 0) (m : Machine) (from : ℕ) (w0 : Snapshot) (silent : List Snapshot) (next : ℕ) (to : Snapshot) →
    IsVisit Rule m from w0 silent next (Ok to) → tick_rows m next (last_snapshot w0 silent) to ≡ [] → AreEventFree Rule m from w0 (silent ++ to ∷ []) next to
silent_visit Rule m from w0 silent next to visit none = record {
  leads = leads_on Rule m from w0 silent (to ∷ []) visit.leads (
    subst (λ t. IsStep Rule m t (last_snapshot w0 silent) (Ok to)) visit.is_next visit.is_step,
    subst (λ t. tick_rows m t (last_snapshot w0 silent) to ≡ []) visit.is_next none,
    tt,
  );
  as_many = omega (arith, visit.is_next, length-append silent (to ∷ []));
  reached = last-append w0 silent (to ∷ []);
}
