-- The numbers of a candidate are at most 2^126 in size, and its divisors are at least 1.
use Rattle.cert_propose.proofs.Common
use Common.{[], ℕ, ℤ, ◌*ℤ◌, ◌*◌, ◌+ℤ◌, ◌+◌, ◌<◌, ◌^◌, ◌∙◌, ◌≡◌, ◌≤ℤ◌, ◌≤◌, abs_of, ap, arith, Basin}
use Common.{basin_of, Bounds, bounds_of, candidate, ceiling_of, centre, centre_round, Ellipsoid}
use Common.{ellipsoid_of, exponent, form_matrix, form_round, get_or-map-range_with_len, int_max}
use Common.{ints, IsBound, IsNumber, IsSquareTable, IsVector, least, length, List, neg_ℤ, None}
use Common.{Numbers, Ok, on_diagonal, Option, option_and_then, option_map, pos, quotient_at, ranged}
use Common.{ranged_less, ranged_product, ranged_sizes, ranged_sum, refl, repeated, root_up_of}
use Common.{shifted, Some, subst, suc, sum_below, sym, System, Table, table, tabulate, unsigned_abs}
use Common.{Vector, vector, vector_by, weight, zero, zeros}
use Rattle.std.proofs.lemmas.Int.{int_max_is}
use Rattle.mu_num.specs.Rounding.{nearest_of}
use Rattle.cert_matrix.proofs.Order.{square-≥, mul-mono}
use Rattle.cert_matrix.proofs.Totals.{total-≥}
use Rattle.cert_propose.specs.declared.candidate_basin.Reach.{Reach}
use Rattle.cert_propose.specs.ProposalLimits.{ArePositive, AreBounds, AreKept, IsReach, IsBasin}
use Rattle.cert_propose.specs.ProposalLimits.{IsEllipsoid, AreFit}
use Rattle.cert_propose.specs.RangedSums.{products, differences, sums, rows_times, sizes_times}
use Rattle.cert_propose.specs.RangedSums.{product_of}
use Rattle.cert_propose.specs.Candidate.{raised, at_least_one, rate_of, remaining_decrease, doubled}
use Rattle.cert_propose.specs.Candidate.{over_sizes, beside_diagonal, decrease_of, falls_over}
use Rattle.cert_propose.specs.Candidate.{row_sizes, decrease_bounds, bounds_from, rest_slopes}
use Rattle.cert_propose.specs.Candidate.{nearest_each, turned, next_form, start_value, start_basin}
use Rattle.cert_propose.specs.Candidate.{roots_over, ceiling_each, gains_over, moves_of}
use Rattle.cert_propose.specs.Candidate.{centre_gains, reach_from, reach_of, sum_of, basin_round}
use Rattle.cert_propose.specs.Candidate.{grown_radius, pair_gains, after_step}
use Rattle.cert_propose.proofs.Collected.{collected-length, collected-at}
use Rattle.cert_propose.proofs.Small.{ranged-number, ranged_sizes-number, sum-number}
use Rattle.cert_propose.proofs.Small.{product-number, less-number, floor-number, ceiling-number}
use Rattle.cert_propose.proofs.Small.{ceiling-≥, max-of, least-of, vector-fits, table-fits}
use Rattle.cert_propose.proofs.Small.{tabulate-fits, zeros-fit, number-at}
use Rattle.cert_propose.proofs.Parts.{then-of, map-of}
use Rattle.cert_propose.proofs.Ranges.{kept}
use Rattle.cert_propose.proofs.Roots.{root-small}

-- ---- places of lists

pub at-place : (n k : ℕ) (f : Vector) → k < n → vector (tabulate n f) k ≡ f k
at-place n k f h = get_or-map-range_with_len f 0 n k k (pos 0) h (omega arith)

max-right : (x y : ℤ) → y ≤ℤ int_max x y
max-right x y = omega (arith, ints, int_max_is x y)

-- ---- the bounds

pub raised-fits : (n : ℕ) (zs : List ℤ) → ((k : ℕ) → k < n → IsNumber (vector zs k)) → IsVector n (raised n zs)
raised-fits n zs small = tabulate-fits n (λ i. at_least_one (vector zs i)) (λ k h. max-of IsNumber (vector zs k) (pos 1) (small k h) (omega arith))

pub raised-positive : (n : ℕ) (zs : List ℤ) → ArePositive n (vector (raised n zs))
raised-positive n zs k h = subst (λ (z : ℤ). pos 1 ≤ℤ z) (sym (at-place n k (λ i. at_least_one (vector zs i)) h)) (max-right (vector zs k) (pos 1))

falling-kept : (n : ℕ) (p0 : List ℤ) (pa : List (List ℤ)) (t sizes : List ℤ) (b : Bounds) → 1 ≤ n → n ≤ 16 → length pa ≡ n → IsVector n p0 → IsVector n t
    → decrease_bounds n (raised n p0) pa t sizes ≡ Some b → AreKept n b
falling-kept n p0 pa t sizes b some few abs_of p0-fits t-fits h = kept-by d m r
  where
    by : List ℤ → List ℤ → Bounds
    by doubles mu = record { pa = pa; p = raised n p0; lambda = rate_of n t doubles; mu = mu }

    d : (doubles : List ℤ) × (doubled n sizes ≡ Some doubles) × (option_map (by doubles) (remaining_decrease n t sizes (rate_of n t doubles)) ≡ Some b)
    d = then-of (λ doubles. option_map (by doubles) (remaining_decrease n t sizes (rate_of n t doubles))) (doubled n sizes) b h

    m : (mu : List ℤ) × (remaining_decrease n t sizes (rate_of n t d.0) ≡ Some mu) × (b ≡ by d.0 mu)
    m = map-of (by d.0) (remaining_decrease n t sizes (rate_of n t d.0)) b d.2

    r : (rests : List ℤ) × (differences n (vector t) (rate_of n t d.0) (vector sizes) ≡ Some rests) × (m.0 ≡ raised n rests)
    r = map-of (raised n) (differences n (vector t) (rate_of n t d.0) (vector sizes)) m.0 m.1

    kept-by : (d : (doubles : List ℤ) × (doubled n sizes ≡ Some doubles) × (option_map (by doubles) (remaining_decrease n t sizes (rate_of n t doubles)) ≡ Some b))
        → (m : (mu : List ℤ) × (remaining_decrease n t sizes (rate_of n t d.0) ≡ Some mu) × (b ≡ by d.0 mu))
        → (r : (rests : List ℤ) × (differences n (vector t) (rate_of n t d.0) (vector sizes) ≡ Some rests) × (m.0 ≡ raised n rests)) → AreKept n b
    kept-by (doubles, _, _) (mu, _, b-is) (rests, rests-is, mu-is) =
        let rests-fit = vector-fits n (λ i. ranged_less (vector t i) (rate_of n t doubles) (vector sizes i)) rests (λ k y l e. less-number (vector t k) (rate_of n t doubles) (vector sizes k) y e) rests-is in
        let quotient = λ (k : ℕ) (l : k < n). floor-number (vector t k) (at_least_one (vector doubles k)) (max-right (vector doubles k) (pos 1)) (number-at n k t t-fits l) in
        let lowest = least-of IsNumber n (quotient_at t doubles) (quotient 0 (omega arith)) quotient in
        let rate : IsNumber (rate_of n t doubles) = max-of IsNumber (least n (quotient_at t doubles)) (pos 1) lowest (omega arith) in
        let mu-fits : IsVector n mu = subst (IsVector n) (sym mu-is) (raised-fits n rests (λ k l. number-at n k rests rests-fit l)) in
        let mu-positive : ArePositive n (vector mu) = subst (λ (xs : List ℤ). ArePositive n (vector xs)) (sym mu-is) (raised-positive n rests) in
        subst (AreKept n) (sym b-is) (record {
          bounds = record { few = few; pa = abs_of; p = raised-positive n p0; mu = mu-positive; lambda = max-right (least n (quotient_at t doubles)) (pos 1) };
          p = raised-fits n p0 (λ k l. number-at n k p0 p0-fits l);
          mu = mu-fits;
          lambda = rate;
        })

over-fits : (n : ℕ) (rows : List (List ℤ)) (xs : List ℤ) → over_sizes n rows ≡ Some xs → IsVector n xs
over-fits n rows xs h =
    vector-fits n (λ i. ranged_sizes (table rows i i) n (beside_diagonal (table rows) i) (λ j. neg_ℤ (pos 1))) xs (λ k y l e.
    ranged_sizes-number (table rows k k) n (beside_diagonal (table rows) k) (λ j. neg_ℤ (pos 1)) y e) h

pub product-length : (n : ℕ) (x y : Table) (z : List (List ℤ)) → product_of n x y ≡ Some z → length z ≡ n
product-length n x y z h = collected-length n (λ i. vector_by n (λ j. ranged (pos 0) n (x i) (λ k. y k j))) z h

pub falls-length : (n : ℕ) (pa falls : List (List ℤ)) → decrease_of n pa ≡ Some falls → length falls ≡ n
falls-length n pa falls h = collected-length n (λ i. vector_by n (λ j. ranged_sum (neg_ℤ (table pa i j)) (neg_ℤ (table pa j i)))) falls h

pub bounds-kept : (m : System) (pm : List (List ℤ)) (b : Bounds) → 1 ≤ m.n → m.n ≤ 16 → bounds_of m pm ≡ Some b → AreKept m.n b
bounds-kept m pm b some few h =
    let p = then-of (λ p. option_and_then (bounds_from m.n pm p) (product_of m.n (table pm) m.coef)) (over_sizes m.n pm) b h in
    let pa = then-of (bounds_from m.n pm p.0) (product_of m.n (table pm) m.coef) b p.2 in
    let t = then-of (λ t. option_and_then (decrease_bounds m.n (raised m.n p.0) pa.0 t) (row_sizes m.n pm)) (falls_over m.n pa.0) b pa.2 in
    let falls = then-of (over_sizes m.n) (decrease_of m.n pa.0) t.0 t.1 in
    let sizes = then-of (decrease_bounds m.n (raised m.n p.0) pa.0 t.0) (row_sizes m.n pm) b t.2 in
    falling-kept m.n p.0 pa.0 t.0 sizes.0 b some few (product-length m.n (table pm) m.coef pa.0 pa.1)
    (over-fits m.n pm p.0 p.1) (over-fits m.n falls.0 t.0 falls.2) sizes.2

-- ---- the invariant set

bound-of : (z : ℤ) → IsNumber z → pos 0 ≤ℤ z → IsBound z
bound-of z small z≥ = record { from_zero = z≥; at_most = omega (arith, ints) }

pub number-of : (z : ℤ) → IsBound z → IsNumber z
number-of z h = omega (arith, ints, h)

pub ceiling-bound : (z d : ℤ) → IsBound z → pos 1 ≤ℤ d → IsBound (ceiling_of z d)
ceiling-bound z d bound d≥ = bound-of (ceiling_of z d) (ceiling-number z d d≥ (number-of z bound)) (ceiling-≥ z d d≥ bound.from_zero)

pub start-bound : (m : System) (x0 : Vector) (c : List ℤ) (pm : List (List ℤ)) (r : ℤ) → pos 1 ≤ℤ m.unit → start_basin m x0 c pm ≡ Some r → IsBound r
start-bound m x0 c pm r unit h =
    let v = map-of (λ v. int_max (ceiling_of v (m.unit *ℤ m.unit)) (pos 0)) (start_value m x0 c pm) r h in
    let y = then-of (λ y. option_and_then (λ z. ranged (pos 0) m.n (vector y) (vector z)) (rows_times m.n (vector []) (table pm) (vector y))) (differences m.n x0 m.unit (vector c)) v.0 v.1 in
    let z = then-of (λ z. ranged (pos 0) m.n (vector y.0) (vector z)) (rows_times m.n (vector []) (table pm) (vector y.0)) v.0 y.2 in
    let square : pos 1 ≤ℤ (m.unit *ℤ m.unit) = let s = mul-mono m.unit (pos 1) m.unit (omega (arith, ints)) unit in omega (arith, ints) in
    let value = ceiling-number v.0 (m.unit *ℤ m.unit) square (ranged-number (pos 0) m.n (vector y.0) (vector z.0) v.0 z.2) in
    let small = max-of IsNumber (ceiling_of v.0 (m.unit *ℤ m.unit)) (pos 0) value (omega arith) in
    subst IsBound (sym v.2) (bound-of (int_max (ceiling_of v.0 (m.unit *ℤ m.unit)) (pos 0)) small (max-right (ceiling_of v.0 (m.unit *ℤ m.unit)) (pos 0)))

sum-number-of : (n : ℕ) (sigma : List ℤ) (sum : ℤ) → sum_of n sigma ≡ Some sum → IsNumber sum
sum-number-of n sigma sum h = ranged-number (pos 0) n (vector sigma) (λ i. pos 1) sum h

pub round-bound : (m : System) (c : List ℤ) (pm : List (List ℤ)) (b : Bounds) (r r' : ℤ) → pos 1 ≤ℤ b.lambda → IsBound r → basin_round m c pm b r ≡ Some r' → IsBound r'
round-bound m c pm b r r' lambda low h =
    let reach = then-of (λ reach. option_map (λ sum. int_max (ceiling_of sum b.lambda) r) (sum_of m.n reach.sigma)) (reach_of m c pm b r) r' h in
    let sum = map-of (λ sum. int_max (ceiling_of sum b.lambda) r) (sum_of m.n reach.0.sigma) r' reach.2 in
    let value = ceiling-number sum.0 b.lambda lambda (sum-number-of m.n reach.0.sigma sum.0 sum.1) in
    let small = max-of IsNumber (ceiling_of sum.0 b.lambda) r value (number-of r low) in
    let high = max-right (ceiling_of sum.0 b.lambda) r in
    let from = low.from_zero in
    subst IsBound (sym sum.2) (bound-of (int_max (ceiling_of sum.0 b.lambda) r) small (omega (arith, ints, high, from)))

pub rounds-keep : {X : Type 0} (P : X → Type 0) (n : ℕ) (f : X → Option X) (x y : X) → ((a b : X) → P a → f a ≡ Some b → P b) → P x → repeated n f x ≡ Some y → P y
unfolding repeated
rounds-keep P zero f x y keeps p h = let e : x ≡ y = cc in subst P e p
rounds-keep P (suc n) f x y keeps p h = let next = then-of (repeated n f) (f x) y h in rounds-keep P n f next.0 y keeps (keeps x next.0 p next.1) next.2

pub roots-fit : (n : ℕ) (p : List ℤ) (z : ℤ) → ArePositive n (vector p) → IsBound z → IsVector n (roots_over n p z)
roots-fit n p z positive bound = tabulate-fits n (λ k. root_up_of (ceiling_of z (vector p k))) (λ k h.
    let c = ceiling-number z (vector p k) (positive k h) (number-of z bound) in
    let c≥ = ceiling-≥ z (vector p k) (positive k h) bound.from_zero in
    let root = root-small (ceiling_of z (vector p k)) (omega (arith, ints)) c≥ in
    omega arith)

pub gains-fit : (n : ℕ) (mu gains sigma : List ℤ) → ArePositive n (vector mu) → gains_over n mu gains ≡ Some sigma → IsVector n sigma
gains-fit n mu gains sigma positive h =
    let s = map-of (λ squares. ceiling_each n squares (vector mu)) (products n (vector gains) (vector gains)) sigma h in
    let squares = vector-fits n (λ i. ranged_product (vector gains i) (vector gains i)) s.0 (λ k y l e. product-number (vector gains k) (vector gains k) y e) s.1 in
    subst (IsVector n) (sym s.2) (tabulate-fits n (λ i. ceiling_of (vector s.0 i) (vector mu i)) (λ k l.
    ceiling-number (vector s.0 k) (vector mu k) (positive k l) (number-at n k s.0 squares l)))

-- what states add to the form is at least 0
pub gains-≥ : (n : ℕ) (mu gains sigma : List ℤ) → ArePositive n (vector mu) → gains_over n mu gains ≡ Some sigma → (k : ℕ) → k < n → pos 0 ≤ℤ vector sigma k
gains-≥ n mu gains sigma positive h k l =
    let s = map-of (λ squares. ceiling_each n squares (vector mu)) (products n (vector gains) (vector gains)) sigma h in
    let there = collected-at n k (λ i. ranged_product (vector gains i) (vector gains i)) s.0 (pos 0) s.1 l in
    let square = kept (unsigned_abs (vector gains k) * unsigned_abs (vector gains k)) (vector gains k *ℤ vector gains k) (vector s.0 k) there in
    let high : pos 0 ≤ℤ vector s.0 k = subst (λ (z : ℤ). pos 0 ≤ℤ z) (sym square.0) (square-≥ (vector gains k)) in
    let at : vector sigma k ≡ ceiling_of (vector s.0 k) (vector mu k) = ap (λ (xs : List ℤ). vector xs k) s.2 ∙ at-place n k (λ i. ceiling_of (vector s.0 i) (vector mu i)) l in
    subst (λ (z : ℤ). pos 0 ≤ℤ z) (sym at) (ceiling-≥ (vector s.0 k) (vector mu k) (positive k l) high)

pub sum-bound : (n : ℕ) (sigma : List ℤ) (sum : ℤ) → ((k : ℕ) → k < n → pos 0 ≤ℤ vector sigma k) → sum_of n sigma ≡ Some sum → IsBound sum
sum-bound n sigma sum each h =
    let value = kept (unsigned_abs (pos 0) + weight n (vector sigma) (λ i. pos 1)) (pos 0 +ℤ sum_below n (λ k. vector sigma k *ℤ pos 1)) sum h in
    let high = total-≥ n (λ k. vector sigma k *ℤ pos 1) (λ k l. let e = each k l in omega (arith, ints)) in
    let from : pos 0 ≤ℤ sum = subst (λ (z : ℤ). pos 0 ≤ℤ z) (sym value.0) (omega (arith, ints, high)) in
    bound-of sum (sum-number-of n sigma sum h) from

-- ---- the reach

moves-fit : (m : System) (rho z s : List ℤ) → pos 1 ≤ℤ m.unit → moves_of m rho z ≡ Some s → IsVector m.n s
moves-fit m rho z s unit h =
    let reaches = then-of (λ reaches. option_map (λ t. ceiling_each m.n t (λ j. m.unit)) (sizes_times m.n (vector rho) m.coef (vector reaches))) (sums m.n (vector z) m.quantum) s h in
    let t = map-of (λ t. ceiling_each m.n t (λ j. m.unit)) (sizes_times m.n (vector rho) m.coef (vector reaches.0)) s reaches.2 in
    let slopes = vector-fits m.n (λ i. ranged_sizes (abs_of (vector rho i)) m.n (m.coef i) (vector reaches.0)) t.0 (λ k y l e. ranged_sizes-number (abs_of (vector rho k)) m.n (m.coef k) (vector reaches.0) y e) t.1 in
    subst (IsVector m.n) (sym t.2) (tabulate-fits m.n (λ i. ceiling_of (vector t.0 i) m.unit) (λ k l. ceiling-number (vector t.0 k) m.unit unit (number-at m.n k t.0 slopes l)))

from-fits : (m : System) (pm : List (List ℤ)) (b : Bounds) (rho z : List ℤ) (x : Reach) → pos 1 ≤ℤ m.unit → AreBounds m.n b → IsVector m.n z → reach_from m pm b rho z ≡ Some x → IsReach m.n x
from-fits m pm b rho z x unit bounds z-fits h = by s w gains sigma
  where
    of : List ℤ → List ℤ → List ℤ → Reach
    of s w sigma = record { z = z; s = s; w = w; sigma = sigma }

    s : (s : List ℤ) × (moves_of m rho z ≡ Some s) × (option_and_then (λ w. option_and_then (λ gains. option_map (of s w) (gains_over m.n b.mu gains)) (centre_gains m.n pm b.pa rho w)) (sums m.n m.quantum (vector s)) ≡ Some x)
    s = then-of (λ s. option_and_then (λ w. option_and_then (λ gains. option_map (of s w) (gains_over m.n b.mu gains)) (centre_gains m.n pm b.pa rho w)) (sums m.n m.quantum (vector s))) (moves_of m rho z) x h

    w : (w : List ℤ) × (sums m.n m.quantum (vector s.0) ≡ Some w) × (option_and_then (λ gains. option_map (of s.0 w) (gains_over m.n b.mu gains)) (centre_gains m.n pm b.pa rho w) ≡ Some x)
    w = then-of (λ w. option_and_then (λ gains. option_map (of s.0 w) (gains_over m.n b.mu gains)) (centre_gains m.n pm b.pa rho w)) (sums m.n m.quantum (vector s.0)) x s.2

    gains : (gains : List ℤ) × (centre_gains m.n pm b.pa rho w.0 ≡ Some gains) × (option_map (of s.0 w.0) (gains_over m.n b.mu gains) ≡ Some x)
    gains = then-of (λ gains. option_map (of s.0 w.0) (gains_over m.n b.mu gains)) (centre_gains m.n pm b.pa rho w.0) x w.2

    sigma : (sigma : List ℤ) × (gains_over m.n b.mu gains.0 ≡ Some sigma) × (x ≡ of s.0 w.0 sigma)
    sigma = map-of (of s.0 w.0) (gains_over m.n b.mu gains.0) x gains.2

    by : (s : (s : List ℤ) × (moves_of m rho z ≡ Some s) × (option_and_then (λ w. option_and_then (λ gains. option_map (of s w) (gains_over m.n b.mu gains)) (centre_gains m.n pm b.pa rho w)) (sums m.n m.quantum (vector s)) ≡ Some x))
        → (w : (w : List ℤ) × (sums m.n m.quantum (vector s.0) ≡ Some w) × (option_and_then (λ gains. option_map (of s.0 w) (gains_over m.n b.mu gains)) (centre_gains m.n pm b.pa rho w) ≡ Some x))
        → (gains : (gains : List ℤ) × (centre_gains m.n pm b.pa rho w.0 ≡ Some gains) × (option_map (of s.0 w.0) (gains_over m.n b.mu gains) ≡ Some x))
        → (sigma : (sigma : List ℤ) × (gains_over m.n b.mu gains.0 ≡ Some sigma) × (x ≡ of s.0 w.0 sigma)) → IsReach m.n x
    by s w gains sigma = subst (IsReach m.n) (sym sigma.2) (record { z = z-fits; s = moves-fit m rho z s.0 unit s.1; sigma = gains-fit m.n b.mu gains.0 sigma.0 bounds.mu sigma.1 })

pub reach-fits : (m : System) (c : List ℤ) (pm : List (List ℤ)) (b : Bounds) (r : ℤ) (x : Reach) → pos 1 ≤ℤ m.unit → AreBounds m.n b → IsBound r → reach_of m c pm b r ≡ Some x → IsReach m.n x
reach-fits m c pm b r x unit bounds bound h =
    let rho = then-of (λ rho. reach_from m pm b rho (roots_over m.n b.p r)) (rest_slopes m c) x h in
    from-fits m pm b rho.0 (roots_over m.n b.p r) x unit bounds (roots-fit m.n b.p r bounds.p bound) rho.2

pub grown_radius-bound : (m : System) (c : List ℤ) (pm : List (List ℤ)) (b : Bounds) (first r : ℤ) → AreBounds m.n b → IsBound first → grown_radius m c pm b first ≡ Some r → IsBound r
grown_radius-bound m c pm b first r bounds bound h =
    rounds-keep IsBound 64 (basin_round m c pm b) first r (λ a a' low e. round-bound m c pm b a a' bounds.lambda low e) bound h

pub basin-fits : (m : System) (x0 : Vector) (c : List ℤ) (pm : List (List ℤ)) (b : Bounds) (x : Basin) → pos 1 ≤ℤ m.unit → AreBounds m.n b → basin_of m x0 c pm b ≡ Some x → IsBasin m.n x
basin-fits m x0 c pm b x unit bounds h =
    let r = then-of (λ r. option_map (basin_by r) (reach_of m c pm b r)) (option_and_then (grown_radius m c pm b) (start_basin m x0 c pm)) x h in
    let reach = map-of (basin_by r.0) (reach_of m c pm b r.0) x r.2 in
    let first = then-of (grown_radius m c pm b) (start_basin m x0 c pm) r.0 r.1 in
    let bound = grown_radius-bound m c pm b first.0 r.0 bounds (start-bound m x0 c pm first.0 unit first.1) first.2 in
    subst (IsBasin m.n) (sym reach.2) (record { r = bound; reach = reach-fits m c pm b r.0 reach.0 unit bounds bound reach.1 })
  where
    basin_by : ℤ → Reach → Basin
    basin_by r reach = record { r = r; reach = reach }

-- ---- the ellipsoid

pub ellipsoid-fits : (n : ℕ) (b : Bounds) (w : List ℤ) (x : Ellipsoid) → AreBounds n b → ellipsoid_of n b w ≡ Some x → IsEllipsoid n x
ellipsoid-fits n b w x bounds h =
    let gains = then-of (λ gains. option_and_then (λ sigma. option_map (of sigma) (sum_of n sigma)) (gains_over n b.mu gains)) (pair_gains n b.pa w) x h in
    let sigma = then-of (λ sigma. option_map (of sigma) (sum_of n sigma)) (gains_over n b.mu gains.0) x gains.2 in
    let sum = map-of (of sigma.0) (sum_of n sigma.0) x sigma.2 in
    let low = sum-bound n sigma.0 sum.0 (gains-≥ n b.mu gains.0 sigma.0 bounds.mu sigma.1) sum.1 in
    let small = ceiling-number sum.0 b.lambda bounds.lambda (number-of sum.0 low) in
    let bound = bound-of (ceiling_of sum.0 b.lambda) small (ceiling-≥ sum.0 b.lambda bounds.lambda low.from_zero) in
    subst (IsEllipsoid n) (sym sum.2) (record {
      cc_ = small;
      sigma = gains-fit n b.mu gains.0 sigma.0 bounds.mu sigma.1;
      e = roots-fit n b.p (ceiling_of sum.0 b.lambda) bounds.p bound;
    })
  where
    of : List ℤ → ℤ → Ellipsoid
    of sigma sum = record { cc = ceiling_of sum b.lambda; sigma = sigma; e = roots_over n b.p (ceiling_of sum b.lambda) }

-- ---- the candidate

centre-fits : (m : System) (q : ℕ) (c : List ℤ) → centre m q ≡ Some c → IsVector m.n c
centre-fits m q c h =
    rounds-keep (IsVector m.n) 4096 (centre_round m q) (tabulate m.n (λ i. pos 0)) c (λ a b fits e.
    let slopes = then-of (λ slopes. sums m.n (vector a) (vector (nearest_each m.n slopes (pos (2 ^ q))))) (rest_slopes m a) b e in
    vector-fits m.n (λ i. ranged_sum (vector a i) (vector (nearest_each m.n slopes.0 (pos (2 ^ q))) i)) b (λ k y l e.
    sum-number (vector a k) (vector (nearest_each m.n slopes.0 (pos (2 ^ q))) k) y e) slopes.2)
    (tabulate-fits m.n (λ i. pos 0) (λ k l. omega arith)) h

next-fits : (n : ℕ) (d : ℤ) (y p : List (List ℤ)) → next_form n d y ≡ Some p → IsSquareTable n p
next-fits n d y p h =
    table-fits n (λ i j. ranged_sum (on_diagonal (pos 1024) i j) (nearest_of (table y i j) d)) p (λ i j z e. sum-number (on_diagonal (pos 1024) i j) (nearest_of (table y i j) d) z e) h

round-fits : (n q : ℕ) (phi p p' : List (List ℤ)) → form_round n q phi p ≡ Some p' → IsSquareTable n p'
round-fits n q phi p p' h =
    let both = then-of (next_form n (pos (2 ^ (2 * q)))) (option_and_then (λ x. product_of n (table (turned n phi)) (table x)) (product_of n (table p) (table phi))) p' h in
    next-fits n (pos (2 ^ (2 * q))) both.0 p' both.2

-- the next form has as many rows
pub form-length : (n q : ℕ) (phi p p' : List (List ℤ)) → form_round n q phi p ≡ Some p' → length p' ≡ n
form-length n q phi p p' h = (round-fits n q phi p p' h).one_each

pub form-fits : (m : System) (q : ℕ) (pm : List (List ℤ)) → form_matrix m q ≡ Some pm → IsSquareTable m.n pm
form-fits m q pm h =
    rounds-keep (IsSquareTable m.n) 4096 (form_round m.n q (shifted m q)) (zeros m.n) pm (λ a b fits e. round-fits m.n q (shifted m q) a b e) (zeros-fit m.n) h

pub candidate-fits : (m : System) (x0 : Vector) (x : Numbers) → 1 ≤ m.n → m.n ≤ 16 → pos 1 ≤ℤ m.unit → candidate m x0 ≡ Ok x → AreFit m.n x
candidate-fits m x0 x some few unit h =
    by (centre m q) refl (form_matrix m q) refl h
  where
    q : ℕ
    q = exponent m.n m.coef

    of : List ℤ → List (List ℤ) → Bounds → Basin → Ellipsoid → Numbers
    of c pm b basin e = record { c = c; pm = pm; bounds = b; basin = basin; ellipsoid = e }

    last : (c : List ℤ) (pm : List (List ℤ)) (b : Bounds) (basin : Basin) → centre m q ≡ Some c → form_matrix m q ≡ Some pm → bounds_of m pm ≡ Some b → basin_of m x0 c pm b ≡ Some basin
        → (o : Option Ellipsoid) → ellipsoid_of m.n b basin.reach.w ≡ o → after_step 6 (λ e. Ok (of c pm b basin e)) o ≡ Ok x → AreFit m.n x
    last c pm b basin c-is pm-is b-is basin-is None e-is g = absurd (cc)
    last c pm b basin c-is pm-is b-is basin-is (Some e) e-is g =
        let same : of c pm b basin e ≡ x = cc in
        let kept = bounds-kept m pm b some few b-is in
        subst (AreFit m.n) same (record {
          c = centre-fits m q c c-is;
          pm = form-fits m q pm pm-is;
          bounds = kept;
          basin = basin-fits m x0 c pm b basin unit kept.bounds basin-is;
          ellipsoid = ellipsoid-fits m.n b basin.reach.w e kept.bounds e-is;
        })

    fifth : (c : List ℤ) (pm : List (List ℤ)) (b : Bounds) → centre m q ≡ Some c → form_matrix m q ≡ Some pm → bounds_of m pm ≡ Some b
        → (o : Option Basin) → basin_of m x0 c pm b ≡ o → after_step 5 (λ basin. after_step 6 (λ e. Ok (of c pm b basin e)) (ellipsoid_of m.n b basin.reach.w)) o ≡ Ok x → AreFit m.n x
    fifth c pm b c-is pm-is b-is None basin-is g = absurd (cc)
    fifth c pm b c-is pm-is b-is (Some basin) basin-is g = last c pm b basin c-is pm-is b-is basin-is (ellipsoid_of m.n b basin.reach.w) refl g

    fourth : (c : List ℤ) (pm : List (List ℤ)) → centre m q ≡ Some c → form_matrix m q ≡ Some pm → (o : Option Bounds) → bounds_of m pm ≡ o
        → after_step 4 (λ b. after_step 5 (λ basin. after_step 6 (λ e. Ok (of c pm b basin e)) (ellipsoid_of m.n b basin.reach.w)) (basin_of m x0 c pm b)) o ≡ Ok x → AreFit m.n x
    fourth c pm c-is pm-is None b-is g = absurd (cc)
    fourth c pm c-is pm-is (Some b) b-is g = fifth c pm b c-is pm-is b-is (basin_of m x0 c pm b) refl g

    by : (oc : Option (List ℤ)) → centre m q ≡ oc → (op : Option (List (List ℤ))) → form_matrix m q ≡ op
        → after_step 2 (λ c. after_step 3 (λ pm. after_step 4 (λ b. after_step 5 (λ basin. after_step 6 (λ e. Ok (of c pm b basin e)) (ellipsoid_of m.n b basin.reach.w)) (basin_of m x0 c pm b)) (bounds_of m pm)) op) oc ≡ Ok x
        → AreFit m.n x
    by None c-is op pm-is g = absurd (cc)
    by (Some c) c-is None pm-is g = absurd (cc)
    by (Some c) c-is (Some pm) pm-is g = fourth c pm c-is pm-is (bounds_of m pm) refl g
