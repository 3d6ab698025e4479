-- Event steps, one after another.
use Rattle.qss_order2.proofs.Common
use Common.{[], ℕ, ℤ, ◌++◌, ◌+◌, ◌∙◌, ◌∷◌, ◌≡◌, ◌≤◌, ap, AreSilent2, arith, Err}
use Common.{first_exceeding_limit, IsSecondStep, IsVisit2, last_second_snapshot, LeadsSilently2}
use Common.{length, length-append, List, Machine, None, Ok, Overflows, refl, Result, SecondRunView}
use Common.{SecondSnapshot, Some, subst, suc, sym, tick_rows2, zero}

pub leads_on : (Rule : ℤ → ℤ → ℤ → Type 0) (m : Machine) (tick : ℕ) (w : SecondSnapshot)
    (a b : List SecondSnapshot) → LeadsSilently2 Rule m tick w a →
    LeadsSilently2 Rule m (tick + length a) (last_second_snapshot w a) b →
    LeadsSilently2 Rule m tick w (a ++ b)
leads_on Rule m tick w [] b first more = let e : tick + 0 ≡ tick =
    omega arith in subst (λ t. LeadsSilently2 Rule m t w b) e more
leads_on Rule m tick w (next ∷ a) b first more =
    let e : tick + suc (length a) ≡ (tick + 1) + length a = omega arith in (
      first.0,
      first.1,
      leads_on Rule m (tick + 1) next a b first.2
          (subst (λ t. LeadsSilently2 Rule m t (last_second_snapshot next a) b) e more),
    )

last-append : (w : SecondSnapshot) (a b : List SecondSnapshot) → last_second_snapshot w (a ++ b)
    ≡ last_second_snapshot (last_second_snapshot w a) b
last-append w [] b = refl
last-append w (next ∷ a) b = last-append next a b

module _ (Rule : ℤ → ℤ → ℤ → Type 0) (m : Machine) (from : ℕ) (w0 : SecondSnapshot)
    (silent : List SecondSnapshot) (tick : ℕ) (w : SecondSnapshot)
    (are : AreSilent2 Rule m from w0 silent tick w) where
  more_last : (more : List SecondSnapshot) → last_second_snapshot w0 (silent ++ more)
      ≡ last_second_snapshot w more
  more_last more = last-append w0 silent more
      ∙ ap (λ (v : SecondSnapshot). last_second_snapshot v more) are.reached

  -- an event step, from where the first of them began
  pub visit_on : (more : List SecondSnapshot) (next : ℕ) (result : Result SecondSnapshot ℕ) →
      IsVisit2 Rule m tick w more next result → IsVisit2 Rule m from w0 (silent ++ more) next result
  visit_on more next result visit = record {
    leads = leads_on Rule m from w0 silent more are.leads
        (subst (λ v. LeadsSilently2 Rule m (from + length silent) v more) (sym are.reached)
        (subst (λ t. LeadsSilently2 Rule m t w more) (sym are.as_many) visit.leads));
    is_next = omega (arith, visit.is_next, are.as_many, length-append silent more);
    is_step = subst (λ v. IsSecondStep Rule m next v result) (sym (more_last more)) visit.is_step;
  }

  pub rows_on : (more : List SecondSnapshot) (next : ℕ) (to : SecondSnapshot) →
      tick_rows2 m next (last_second_snapshot w more) to ≡ tick_rows2 m next
      (last_second_snapshot w0 (silent ++ more)) to
  rows_on more next to = ap (λ (v : SecondSnapshot). tick_rows2 m next v to) (sym (more_last more))

-- an event step without rows is silent too
pub silent_visit : (Rule : ℤ → ℤ → ℤ → Type 0) (m : Machine) (from : ℕ) (w0 : SecondSnapshot)
    (silent : List SecondSnapshot) (next : ℕ) (to : SecondSnapshot) →
    IsVisit2 Rule m from w0 silent next (Ok to) → tick_rows2 m next (last_second_snapshot w0 silent)
    to ≡ [] → AreSilent2 Rule m from w0 (silent ++ to ∷ []) next to
silent_visit Rule m from w0 silent next to visit none = record {
  leads = leads_on Rule m from w0 silent (to ∷ []) visit.leads (
    subst (λ t. IsSecondStep Rule m t (last_second_snapshot w0 silent) (Ok to)) visit.is_next
        visit.is_step,
    subst (λ t. tick_rows2 m t (last_second_snapshot w0 silent) to ≡ []) visit.is_next none,
    tt,
  );
  as_many = omega (arith, visit.is_next, length-append silent (to ∷ []));
  reached = last-append w0 silent (to ∷ []);
}

-- an overflow at the start, and at an event step
pub overflows_at_start : (Rule : ℤ → ℤ → ℤ → Type 0) (s : SecondRunView) (tick var : ℕ) →
    s.tick ≡ tick → tick ≡ 0 → first_exceeding_limit s.machine s.snapshot.levels s.snapshot.changes
    ≡ Some var → Overflows Rule s tick var
overflows_at_start Rule s zero var here start past = (here, past)
overflows_at_start Rule s (suc tick) var here start past = absurd (omega (arith, start))

pub overflows_later : (Rule : ℤ → ℤ → ℤ → Type 0) (s : SecondRunView) (silent : List SecondSnapshot)
    (tick var : ℕ) → first_exceeding_limit s.machine s.snapshot.levels s.snapshot.changes ≡ None →
    tick ≤ s.machine.last →
    IsVisit2 Rule s.machine s.tick s.snapshot silent tick (Err var) → Overflows Rule s tick var
overflows_later Rule s silent zero var within in_time visit = absurd (omega (arith, visit.is_next))
overflows_later Rule s silent (suc tick) var within in_time visit =
    let next : suc tick ≡ tick + 1 = omega arith in (
      silent,
      record { within = within; leads = visit.leads },
      omega (arith, visit.is_next),
      omega (arith, in_time),
      subst (λ t. IsSecondStep Rule s.machine t (last_second_snapshot s.snapshot silent) (Err var))
          next visit.is_step,
    )
