-- The bound is the one that is found.
use Rattle.qss_states.proofs.Common.{ℕ, ◌≡◌, All, IsSafeBound, IsUpTo, Some, subst}
use Rattle.qss_states.proofs.Allowed.{one_bound, bound_safe}
use Rattle.qss_states.proofs.safe_bounds.start_row_bound.Goals as goal

pub returns-then-not-are_values_within-clause-none : goal.returns-then-not-are_values_within-clause-none
returns-then-not-are_values_within-clause-none c e bound found small small_d =
    let same : bound ≡ c.in-Some.bound = one_bound c.args.m.now bound c.in-Some.bound found c.in-Some.ensures in
    let yes = c.are_values_within.ensures.1 (subst (λ (b : ℕ). All (IsUpTo b) c.args.levels.now) same small) in
    let no = c.if-not-are_values_within.true in
    absurd (cc)

pub returns-then-not-are_values_within-2-clause-none : goal.returns-then-not-are_values_within-2-clause-none
returns-then-not-are_values_within-2-clause-none c e bound found small small_d =
    let same : bound ≡ c.in-Some.bound = one_bound c.args.m.now bound c.in-Some.bound found c.in-Some.ensures in
    let yes = c.are_values_within-2.ensures.1 (subst (λ (b : ℕ). All (IsUpTo b) c.args.d.now) same small_d) in
    let no = c.if-not-are_values_within-2.true in
    absurd (cc)

pub returns-clause-found : goal.returns-clause-found
returns-clause-found c bound e =
    let same : c.in-Some.bound ≡ bound = cc in
    subst (λ (b : ℕ). IsSafeBound c.args.m.now (Some b)) same c.in-Some.ensures

pub returns-clause-size_limit : goal.returns-clause-size_limit
returns-clause-size_limit c bound e =
    let same : c.in-Some.bound ≡ bound = cc in
    let found = subst (λ (b : ℕ). IsSafeBound c.args.m.now (Some b)) same c.in-Some.ensures in
    record {
      safe = bound_safe c.args.m.now bound found;
      small_levels = subst (λ (b : ℕ). All (IsUpTo b) c.args.levels.now) same (c.are_values_within.ensures.0 c.if-not-are_values_within.false);
      small_discretes = subst (λ (b : ℕ). All (IsUpTo b) c.args.d.now) same (c.are_values_within-2.ensures.0 c.if-not-are_values_within-2.false);
    }
