-- A run of a comparison: its source determines exactly one trace, or one reason why it has none.
use Rattle.qss_guarantees.proofs.Common
use Common.{ℕ, ◌+◌, ◌<◌, ◌∙◌, ◌≡◌, ◌≤◌, ◌⊎◌, accepted_fine, ap, ap₂, arith, Bool, cases_lt}
use Common.{Certificate, ComparisonStop, false, first_order, HasNoRunTrace, inl, inr, int_at}
use Common.{IsChecked, IsGivenRun, IsInScope, IsJudged, IsOwn, IsRunTrace, Machine, one-trace, refl}
use Common.{Refusal, RunSource, second_order, state_count, subst, suc, sym, Trace, traced, true}
use Common.{zero}
use Rattle.std.proofs.Common.{◌≤ℤ◌, below_more}
use Rattle.std.proofs.lemmas.Int.{ints}
use Rattle.std.specs.Prelude.{int_lt}
use Rattle.mu_num.proofs.Tests.{int_lt-true, int_lt-false}
use Rattle.qss_own_traces.specs.FirstRuns.{IsFirstTrace, IsFirstRefusal}
use Rattle.qss_own_traces.specs.SecondRuns.{IsSecondTrace, IsSecondRefusal}
use Rattle.qss_own_traces.proofs.OwnTraces.{some-first, one-first, first-apart, one-first-over}
use Rattle.qss_own_traces.proofs.OwnTraces.{some-second, one-second, second-apart, one-second-over}
use Rattle.qss_answers.specs.Answers.{Answer}
use Rattle.qss_answers.specs.Comparisons.{longest, HasQuanta, IsFirstAbove, Overflows}
use Rattle.qss_answers.specs.Comparisons.{IsTraceRefused}
use Rattle.qss_guarantees.proofs.OneTraceAnswer.{one_each, one_refusal}
use Rattle.qss_own_traces.specs.declared.own_trace_draft.TraceOver.TheVariants as overs
use Rattle.qss_answers.specs.declared.comparison_ending.ComparisonStop.TheVariants as stops
use Rattle.qss_answers.specs.declared.refusal.Refusal.TheVariants as refusal

-- ---- quanta

module _ (c : Certificate) (t : Trace) where
  quanta_below : (n : ℕ) → n ≤ t.n → ((j : ℕ) → j < n → int_at t.q j ≤ℤ int_at c.q j)
      ⊎ ((state : ℕ) × IsFirstAbove c t state)
  quanta_below zero h = inl (λ j l. absurd (omega arith))
  quanta_below (suc n) h =
      by (quanta_below n (omega arith)) (int_lt (int_at c.q n) (int_at t.q n)) refl
    where
      by : ((j : ℕ) → j < n → int_at t.q j ≤ℤ int_at c.q j) ⊎ ((state : ℕ) × IsFirstAbove c t state)
          → (b : Bool) → int_lt (int_at c.q n) (int_at t.q n) ≡ b
          → ((j : ℕ) → j < suc n → int_at t.q j ≤ℤ int_at c.q j)
          ⊎ ((state : ℕ) × IsFirstAbove c t state)
      by (inr found) b e = inr found
      by (inl before) true e =
          inr (
            n + 1,
            record {
              place = n;
              number = refl;
              inside = omega arith;
              above = int_lt-true
                  (int_at c.q n) (int_at t.q n) e;
              before = before;
            },
          )
      by (inl before) false e =
          inl (λ j l. below_more (λ k. int_at t.q k ≤ℤ int_at c.q k) n before
          (int_lt-false (int_at c.q n) (int_at t.q n) e) j (omega arith))

  same_above : (a b : ℕ) → IsFirstAbove c t a → IsFirstAbove c t b → a ≡ b
  same_above a b p q = by (cases_lt p.place q.place) (cases_lt q.place p.place)
    where
      by : (p.place < q.place) ⊎ (q.place ≤ p.place) → (q.place < p.place) ⊎ (p.place ≤ q.place)
          → a ≡ b
      by (inl l) h = let most =
          q.before p.place l in let above = p.above in absurd (omega (arith, ints, most, above))
      by (inr l) (inl h) = let most =
          p.before q.place h in let above = q.above in absurd (omega (arith, ints, most, above))
      by (inr l) (inr h) = omega (arith, p.number, q.number)

  not_above : (a : ℕ) → HasQuanta c t → IsFirstAbove c t a → ⊥
  not_above a has p = let most =
      has p.place p.inside in let above = p.above in absurd (omega (arith, ints, most, above))

-- ---- one trace

one_given : (m : Machine) (given : RunSource) (a b : Trace) → IsGivenRun m given a
    → IsGivenRun m given b → a ≡ b
one_given m first_order a b p q = one-first m a b p.1 q.1
one_given m second_order a b p q = one-second m a b p.1 q.1
one_given m (traced bytes) a b p q = one-trace (state_count m) bytes a b p.read.text q.read.text

-- a run that is given has a trace, where it is not refused, not too long and does not overflow
given_refused : (m : Machine) (given : RunSource) (t : Trace) (cause : Refusal)
    → IsGivenRun m given t → IsTraceRefused m given cause → ⊥
given_refused m first_order t cause p q = q
given_refused m second_order t cause p q = q
given_refused m (traced bytes) t cause p q = accepted_fine m bytes cause t q p

given_short : (m : Machine) (given : RunSource) (t : Trace) → IsGivenRun m given t → IsOwn given
    → longest < m.last → ⊥
given_short m first_order t p own long = omega (arith, p.0, long)
given_short m second_order t p own long = omega (arith, p.0, long)
given_short m (traced bytes) t p own long = own

given_ends : (m : Machine) (given : RunSource) (t : Trace) (tick var : ℕ) → IsGivenRun m given t
    → Overflows m given tick var → ⊥
given_ends m first_order t tick var p q = first-apart m t tick var p.1 q
given_ends m second_order t tick var p q = second-apart m t tick var p.1 q
given_ends m (traced bytes) t tick var p q = q

-- ---- one reason

same_refusal : (m : Machine) (given : RunSource) (a b : Refusal) → IsTraceRefused m given a
    → IsTraceRefused m given b → a ≡ b
same_refusal m first_order a b p q = absurd p
same_refusal m second_order a b p q = absurd p
same_refusal m (traced bytes) a b p q = one_refusal m bytes a b p q

text_own : (m : Machine) (given : RunSource) (cause : Refusal) → IsTraceRefused m given cause
    → IsOwn given → ⊥
text_own m first_order cause p own = p
text_own m second_order cause p own = p
text_own m (traced bytes) cause p own = own

text_over : (m : Machine) (given : RunSource) (cause : Refusal) (tick var : ℕ)
    → IsTraceRefused m given cause → Overflows m given tick var → ⊥
text_over m first_order cause tick var p q = p
text_over m second_order cause tick var p q = p
text_over m (traced bytes) cause tick var p q = q

same_over : (m : Machine) (given : RunSource) (tick var tick' var' : ℕ) → Overflows m given tick var
    → Overflows m given tick' var' → (tick ≡ tick') × (var ≡ var')
same_over m first_order tick var tick' var' p q = one-first-over m tick var tick' var' p q
same_over m second_order tick var tick' var' p q = one-second-over m tick var tick' var' p q
same_over m (traced bytes) tick var tick' var' p q = absurd p

module _ (m : Machine) (c : Certificate) (run : ℕ) (given : RunSource) where
  -- why there is no trace
  data Cause (stop : ComparisonStop) : Type 0 where
    refusing : (cause : Refusal) → stop ≡ stops.Refused cause → IsTraceRefused m given cause
        → Cause stop
    coarse : (state : ℕ) (t : Trace) → stop ≡ stops.Refused (refusal.Quantum run state)
        → IsGivenRun m given t → IsFirstAbove c t state → Cause stop
    lasting : stop ≡ stops.Refused (refusal.Long m.last) → IsOwn given → longest < m.last
        → Cause stop
    over : (tick var : ℕ) → stop ≡ stops.Over tick var → m.last ≤ longest
        → Overflows m given tick var → Cause stop

  cause_of : (stop : ComparisonStop) → HasNoRunTrace m c run given stop → Cause stop
  cause_of (stops.Refused why) (inl p) = refusing why refl p
  cause_of (stops.Refused why) (inr (inl (t, state, is, above, e))) =
      coarse state t (ap stops.Refused e) is above
  cause_of (stops.Refused why) (inr (inr (own, long, e))) = lasting (ap stops.Refused e) own long
  cause_of (stops.Over tick var) p = over tick var refl p.0 p.1
  cause_of stops.Memory p = absurd p

  same_cause : (a b : ComparisonStop) → Cause a → Cause b → a ≡ b
  same_cause a b (refusing x e p) (refusing y f q) = e
      ∙ ap stops.Refused (same_refusal m given x y p q) ∙ sym f
  same_cause a b (refusing x e p) (coarse state t f is q) = absurd (given_refused m given t x is p)
  same_cause a b (refusing x e p) (lasting f own long) = absurd (text_own m given x p own)
  same_cause a b (refusing x e p) (over tick var f short q) =
      absurd (text_over m given x tick var p q)
  same_cause a b (coarse state t e is p) (refusing y f q) = absurd (given_refused m given t y is q)
  same_cause a b (coarse state t e is p) (coarse state' t' f is' q) =
      let same = one_given m given t t' is is' in
      e ∙ ap (λ k. stops.Refused (refusal.Quantum run k)) (same_above c t' state state'
      (subst (λ (u : Trace). IsFirstAbove c u state) same p) q) ∙ sym f
  same_cause a b (coarse state t e is p) (lasting f own long) =
      absurd (given_short m given t is own long)
  same_cause a b (coarse state t e is p) (over tick var f short q) =
      absurd (given_ends m given t tick var is q)
  same_cause a b (lasting e own long) (refusing y f q) = absurd (text_own m given y q own)
  same_cause a b (lasting e own long) (coarse state t f is q) =
      absurd (given_short m given t is own long)
  same_cause a b (lasting e own long) (lasting f own' long') = e ∙ sym f
  same_cause a b (lasting e own long) (over tick var f short q) =
      absurd (omega (arith, long, short))
  same_cause a b (over tick var e short p) (refusing y f q) =
      absurd (text_over m given y tick var q p)
  same_cause a b (over tick var e short p) (coarse state t f is q) =
      absurd (given_ends m given t tick var is p)
  same_cause a b (over tick var e short p) (lasting f own long) =
      absurd (omega (arith, long, short))
  same_cause a b (over tick var e short p) (over tick' var' f short' q) =
      let same = same_over m given tick var tick' var' p q in
      e ∙ ap₂ (λ (k l : ℕ). stops.Over k l) same.0 same.1 ∙ sym f

  no_cause : (t : Trace) (stop : ComparisonStop) → IsRunTrace m c given t → Cause stop → ⊥
  no_cause t stop side (refusing x e p) = given_refused m given t x side.run p
  no_cause t stop side (coarse state u e is p) =
      not_above c t state side.quanta (subst (λ (v : Trace). IsFirstAbove c v state)
      (one_given m given u t is side.run) p)
  no_cause t stop side (lasting e own long) = given_short m given t side.run own long
  no_cause t stop side (over tick var e short p) = given_ends m given t tick var side.run p

-- ---- some trace, or some reason

abbrev IsSome : Machine → Certificate → ℕ → RunSource → Type 0
IsSome m c run given = ((t : Trace) × IsRunTrace m c given t)
    ⊎ ((stop : ComparisonStop) × HasNoRunTrace m c run given stop)

some_allowed : (m : Machine) (c : Certificate) (run : ℕ) (given : RunSource) (t : Trace)
    → IsGivenRun m given t → IsSome m c run given
some_allowed m c run given t is = by (quanta_below c t t.n (omega arith))
  where
    by : HasQuanta c t ⊎ ((state : ℕ) × IsFirstAbove c t state) → IsSome m c run given
    by (inl has) = inl (t, record { run = is; quanta = has })
    by (inr (state, above)) =
        inr (stops.Refused (refusal.Quantum run state), inr (inl (t, state, is, above, refl)))

some_side : (m : Machine) (c : Certificate) (run : ℕ) (given : RunSource) → IsInScope m
    → IsSome m c run given
some_side m c run first_order scope = by (cases_lt longest m.last)
  where
    of : m.last ≤ longest → ((t : Trace) × IsFirstTrace m t)
        ⊎ ((tick : ℕ) × (var : ℕ) × IsFirstRefusal m (overs.Over tick var))
        → IsSome m c run first_order
    of short (inl (t, is)) = some_allowed m c run first_order t (short, is)
    of short (inr (tick, var, past)) = inr (stops.Over tick var, (short, past))

    by : (longest < m.last) ⊎ (m.last ≤ longest) → IsSome m c run first_order
    by (inl long) = inr (stops.Refused (refusal.Long m.last), inr (inr (tt, long, refl)))
    by (inr short) = of short (some-first m scope.plain (record
        { some = scope.some; few = scope.few }) short)
some_side m c run second_order scope = by (cases_lt longest m.last)
  where
    of : m.last ≤ longest → ((t : Trace) × IsSecondTrace m t)
        ⊎ ((tick : ℕ) × (var : ℕ) × IsSecondRefusal m (overs.Over tick var))
        → IsSome m c run second_order
    of short (inl (t, is)) = some_allowed m c run second_order t (short, is)
    of short (inr (tick, var, past)) = inr (stops.Over tick var, (short, past))

    by : (longest < m.last) ⊎ (m.last ≤ longest) → IsSome m c run second_order
    by (inl long) = inr (stops.Refused (refusal.Long m.last), inr (inr (tt, long, refl)))
    by (inr short) = of short (some-second m (record { some = scope.some; few = scope.few }) short)
some_side m c run (traced bytes) scope =
    let answer = one_each.some_answer m bytes in by answer.0 answer.1
  where
    by : (answer : Answer) → IsChecked m bytes answer → IsSome m c run (traced bytes)
    by answer (inl (cause, p, e)) = inr (stops.Refused cause, inl p)
    by answer (inr (t, is, e)) = some_allowed m c run (traced bytes) t is

pub judged_side : (m : Machine) (c : Certificate) (run : ℕ) (given : RunSource) → IsInScope m
    → IsJudged (IsRunTrace m c given) (HasNoRunTrace m c run given)
judged_side m c run given scope = record {
  some = some_side m c run given scope;
  one = λ a b p q. one_given m given a b p.run q.run;
  one_stop = λ a b p q. same_cause m c run given a b (cause_of m c run given a p)
      (cause_of m c run given b q);
  apart = λ t stop side p. no_cause m c run given t stop side (cause_of m c run given stop p);
}
