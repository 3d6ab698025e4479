-- Finished forms are laid out as a machine requires.
use Rattle.mu_affine.proofs.Common
use Common.{ℕ, ◌*◌, ◌+◌, ◌<◌, ◌∙◌, ◌≡◌, ◌≤◌, All, ap, AreFinished, AreNamed, arith, Equal}
use Common.{ExactEntry, ExactForm, ExactProduct, Fraction, get_or, get_or-map, get_or_default}
use Common.{Greater, is_nonzero, IsCoefficient, IsFinished, IsRightSide, IsRising}
use Common.{IsStrictlyIncreasing, IsStrictlyIncreasing-from_sorted, IsStrictlySortedBy, length}
use Common.{length-map, Less, List, map, named, nat_cmp, none, Ordering, ordering_then, pair_cmp}
use Common.{paired, Place, ranked, refl, slice_get, Some, subst, sym, true, unwrap_or, value_at}
use Rattle.std.proofs.Math.Nat.{mul-le-mul_right}
use Rattle.std.proofs.lemmas.List.Elements.{All-from_recursion}
use Rattle.std.proofs.lemmas.Map.Keys.{Less-from_sorted}
use Rattle.mu_affine.proofs.RowForms.{IsKeyOrder, nat_order, pair_order, found, entry_at}
use Rattle.mu_affine.proofs.Turns.{map_twice}

-- what holds of each key whose value is not 0 holds of each entry of a finished list
keys_hold : {E K : Type 0} (R : K → K → Ordering) → IsKeyOrder R → (view : E → K × Fraction) (es : List E) (P : K → Type 0) → AreFinished R (map view es) →
    ((q : K) → is_nonzero (value_at R (map view es) q) ≡ true → P q) → All (λ e. P (view e).0) es
keys_hold R order view es P finished holds i d inside =
    let e = get_or es i d in
    let here : slice_get (map view es) i ≡ Some (view e) = entry_at view es i e inside (get_or_default es i d e inside) in
    let value : value_at R (map view es) (view e).0 ≡ (view e).1 = ap (λ o. unwrap_or o none) (found R order (map view es) i (view e) finished.rising here) in
    let long : i < length (map view es) = omega (arith, inside, length-map es view) in
    let own : IsCoefficient (get_or (map view es) i (view d)).1 = All-from_recursion (λ c. IsCoefficient c.1) (map view es) finished.each i (view d) long in
    let some : is_nonzero (view e).1 ≡ true = ap (λ c. is_nonzero c.1) (sym (get_or-map view es i d (view d) inside)) ∙ own.0 in
    holds (view e).0 (ap is_nonzero value ∙ some)

-- the number of a product by its state and its discrete variable
abbrev number_of : ℕ → ExactProduct → ℕ
number_of width e = e.state * width + e.discrete

abbrev key_of : ExactProduct → ℕ × ℕ
key_of e = (e.state, e.discrete)

-- the smaller of two pairs has the smaller number
pair_below : (width : ℕ) (a b : ExactProduct) → a.discrete < width → pair_cmp (key_of a) (key_of b) ≡ Less → number_of width a < number_of width b
pair_below width a b low h = by_states (nat_cmp a.state b.state) refl h
  where
    lower : a.state < b.state → number_of width a < number_of width b
    lower less = let scaled = mul-le-mul_right width (above a.state b.state less) in omega (arith, scaled, low)
      where
        above : (x y : ℕ) → x < y → x + 1 ≤ y
        above x y less = omega arith

    level : a.state ≡ b.state → a.discrete < b.discrete → number_of width a < number_of width b
    level same less = let scaled = ap (λ (x : ℕ). x * width) same in omega (arith, scaled, less)

    by_states : (r : Ordering) → nat_cmp a.state b.state ≡ r → ordering_then r (nat_cmp a.discrete b.discrete) ≡ Less → number_of width a < number_of width b
    by_states Less e h = lower (ranked a.state b.state Less (sym e))
    by_states Equal e h = level (ranked a.state b.state Equal (sym e)) (ranked a.discrete b.discrete Less (sym h))
    by_states Greater e h = absurd (cc)

-- pairs in order have rising numbers
pairs_rising : (width : ℕ) (es : List ExactProduct) → All (λ e. e.discrete < width) es → IsRising pair_cmp (map paired es) → IsStrictlyIncreasing (map (λ e. e.state * width + e.discrete) es)
pairs_rising width es low rising k within =
    let d : ExactProduct = record { state = 0; discrete = 0; coef = none } in
    let first = get_or es k d in
    let next = get_or es (k + 1) d in
    let inside : k + 1 < length es = omega (arith, within, length-map es (number_of width)) in
    let here : k < length es = omega arith in
    let long : k + 1 < length (map key_of es) = omega (arith, inside, length-map es key_of) in
    let keys : IsStrictlySortedBy pair_cmp (map key_of es) = subst (IsStrictlySortedBy pair_cmp) (map_twice paired (λ c. c.0) es) rising in
    let less : pair_cmp (key_of first) (key_of next) ≡ Less = rw (get_or-map key_of es k d (0, 0) here, get_or-map key_of es (k + 1) d (0, 0) inside) at
    (Less-from_sorted pair_cmp (map key_of es) k (k + 1) (0, 0) keys (omega arith) long) in
    rw (get_or-map (number_of width) es k d 0 here, get_or-map (number_of width) es (k + 1) d 0 inside) (pair_below width first next (low k d here) less)

-- the names of a finished form
names_of : (count : ℕ) (es : List ExactEntry) → AreFinished nat_cmp (map named es) → ((v : ℕ) → is_nonzero (value_at nat_cmp (map named es) v) ≡ true → v < count) → AreNamed count es
names_of count es finished low = record {
  rising = IsStrictlyIncreasing-from_sorted (map (λ (e : ExactEntry). e.var) es) (subst (IsStrictlySortedBy nat_cmp) (map_twice named (λ c. c.0) es) finished.rising);
  known = keys_hold nat_cmp nat_order named es (λ v. v < count) finished low;
}

-- where previous values are allowed
pub named_for : (p : Place) (form : ExactForm) → IsFinished p form → AreNamed (p.sizes.states + p.sizes.discretes + p.sizes.discretes) form.entries
named_for p form h = names_of (p.sizes.states + p.sizes.discretes + p.sizes.discretes) form.entries h.canonical.names (λ v some. (h.over.names v some).0)

-- in an equation
pub right_side_for : (p : Place) (form : ExactForm) → p.in_equation ≡ true → IsFinished p form → IsRightSide p.sizes.states p.sizes.discretes form
right_side_for p form equation h =
    let n = p.sizes.states in
    let g = p.sizes.discretes in
    let pairs = keys_hold pair_cmp pair_order paired form.products (λ q. (q.0 < n) × (n ≤ q.1) × (q.1 < n + g)) h.canonical.pairs (λ q some. (h.over.pairs q.0 q.1 some).0) in
    record {
      entries = names_of (n + g) form.entries h.canonical.names (λ v some. (h.over.names v some).1 equation);
      products = record {
        rising = pairs_rising (n + g) form.products (λ i d inside. (pairs i d inside).2) h.canonical.pairs.rising;
        of_states = λ i d inside. (pairs i d inside).0;
        of_discretes = λ i d inside. ((pairs i d inside).1, (pairs i d inside).2);
      };
    }
