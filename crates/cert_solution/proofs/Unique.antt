-- The initial value problem of a machine has one solution only.
use Rattle.cert_solution.proofs.Common
use Common.{ℕ, ℤ, ◌*ℤ◌, ◌*◌, ◌+ℤ◌, ◌+◌, ◌-ℤ◌, ◌<ℤ◌, ◌<◌, ◌^◌, ◌∙◌, ◌≡◌, ◌≤ℤ◌, ◌≤◌, abs_of, add-one}
use Common.{ap, approximation, arith, DifferByAtMost, difference, euler, euler_slope, euler_value}
use Common.{expand, Fraction, growth, int_at, ints, level_unit, List, Machine, mul->, mul-cancel}
use Common.{mul-le, mul-le-mul_left, mul-le-mul_right, mul-mono, mul-≥, one-le-pow, one-mul, pos}
use Common.{pow-le-pow_left, pow-suc, pow-zero, pow_pos, product, reciprocal, refl, scaled_slope}
use Common.{slope_rate, SolutionIsWithin, state_count, step_refinement, steps_for, stiffness, subst}
use Common.{suc, sum, sym, unit_of, whole, zero, zero-*ℤ}
use Rattle.mu_num.specs.Fraction.{IsSameValue}
use Rattle.cert_solution.specs.Solutions.{TimeFunction, approximate_slope}
use Rattle.cert_solution.specs.Solutions.{SolvesInitialValueProblem, SolutionIsUnique, solution}
use Rattle.cert_solution.proofs.Growth.{growth_positive, power_growth}
use Rattle.cert_solution.proofs.Within.{size-product, triangle, turned, wider}
use Rattle.cert_solution.proofs.Affine.{nat-≥}
use Rattle.cert_solution.proofs.Euler.{euler-zero, euler-suc, power_positive}
use Rattle.cert_solution.proofs.Slopes.{times_of, slopes, solutions_by_slopes}
use Rattle.cert_solution.proofs.Exact.{one_number, begins, steps_for-≥, euler_within}

-- ---- distances

-- a distance is the same from another fraction with the same value
same_value : (h x w y : Fraction) → 1 ≤ x.den → IsSameValue x w → DifferByAtMost h x y →
    DifferByAtMost h w y
same_value h x w y x> e k =
    whole-same x.num (pos x.den) w.num (pos w.den) y.num (pos y.den) h.num (pos h.den)
    (omega (arith, ints)) (nat-≥ w.den) e k
  where
    whole-same : (xn xd wn wd yn yd hn hd : ℤ) → pos 0 <ℤ xd → pos 0 ≤ℤ wd → xn *ℤ wd ≡ wn *ℤ xd
        → (abs_of (xn *ℤ yd -ℤ yn *ℤ xd) *ℤ hd) ≤ℤ (hn *ℤ (xd *ℤ yd)) →
        (abs_of (wn *ℤ yd -ℤ yn *ℤ wd) *ℤ hd) ≤ℤ (hn *ℤ (wd *ℤ yd))
    whole-same xn xd wn wd yn yd hn hd xd> wd≥ e k =
        let xd≥ : pos 0 ≤ℤ xd = omega (arith, ints) in
        let d : xd *ℤ (wn *ℤ yd -ℤ yn *ℤ wd) ≡ wd *ℤ (xn *ℤ yd -ℤ yn *ℤ xd) = spread xn xd wn wd yn
        yd e in
        let s = size-product xd (wn *ℤ yd -ℤ yn *ℤ wd) xd≥ ∙ ap (λ (z : ℤ). abs_of z) d ∙ sym
        (size-product wd (xn *ℤ yd -ℤ yn *ℤ xd) wd≥) in
        mul-cancel xd _ _ xd> (joined xd wd yd hn hd (abs_of (wn *ℤ yd -ℤ yn *ℤ wd))
        (abs_of (xn *ℤ yd -ℤ yn *ℤ xd)) s (mul-mono wd _ _ wd≥ k))
      where
        spread : (xn xd wn wd yn yd : ℤ) → xn *ℤ wd ≡ wn *ℤ xd → xd *ℤ (wn *ℤ yd -ℤ yn *ℤ wd) ≡ wd
            *ℤ (xn *ℤ yd -ℤ yn *ℤ xd)
        spread xn xd wn wd yn yd e =
            let k : (xn *ℤ wd) *ℤ yd ≡ (wn *ℤ xd) *ℤ yd = ap (λ (z : ℤ). z *ℤ yd) e in
            let k' = simp expand at k in
            simp expand (omega (arith, ints))

        joined : (xd wd yd hn hd z w : ℤ) → xd *ℤ z ≡ wd *ℤ w → (wd *ℤ (w *ℤ hd)) ≤ℤ
            (wd *ℤ (hn *ℤ (xd *ℤ yd)))
            → (xd *ℤ (z *ℤ hd)) ≤ℤ (xd *ℤ (hn *ℤ (wd *ℤ yd)))
        joined xd wd yd hn hd z w s m =
            let k : (xd *ℤ z) *ℤ hd ≡ (wd *ℤ w) *ℤ hd = ap (λ (x : ℤ). x *ℤ hd) s in
            let k' = simp expand at k in
            let m' = simp expand at m in
            simp expand (omega (arith, ints))

-- the distance f, and 1/n of the distance h
abbrev further : ℕ → Fraction → Fraction → Fraction
further n f h = record {
  num = (f.num *ℤ pos n) *ℤ pos h.den +ℤ h.num *ℤ pos f.den;
  den = n * f.den
      * h.den;
}

-- how far two numbers are apart that went on from b and x
advance : (n : ℕ) (f h x x' b a : Fraction) → 1 ≤ x.den → 1 ≤ b.den
    → DifferByAtMost f x b → DifferByAtMost h (times_of n (difference x' x))
    (times_of n (difference a b)) → DifferByAtMost (further n f h) x' a
advance n f h x x' b a x> b> near moved =
    whole-advance (pos n) x.num (pos x.den) x'.num (pos x'.den) b.num (pos b.den) a.num (pos a.den)
    f.num (pos f.den) h.num (pos h.den)
    (nat-≥ n) (omega (arith, ints)) (omega (arith, ints)) (nat-≥ x'.den) (nat-≥ a.den) (nat-≥ f.den)
    (nat-≥ h.den) near moved
  where
    whole-advance : (n xn xd wn wd bn bd an ad fn fd hn hd : ℤ) → pos 0 ≤ℤ n → pos 0 <ℤ xd → pos 0
        <ℤ bd → pos 0 ≤ℤ wd → pos 0 ≤ℤ ad → pos 0 ≤ℤ fd → pos 0 ≤ℤ hd
        → (abs_of (xn *ℤ bd -ℤ bn *ℤ xd) *ℤ fd) ≤ℤ (fn *ℤ (xd *ℤ bd))
        → (abs_of ((n *ℤ (wn *ℤ xd -ℤ xn *ℤ wd)) *ℤ (pos 1 *ℤ (ad *ℤ bd)) -ℤ
        (n *ℤ (an *ℤ bd -ℤ bn *ℤ ad)) *ℤ (pos 1 *ℤ (wd *ℤ xd))) *ℤ hd)
        ≤ℤ (hn *ℤ ((pos 1 *ℤ (wd *ℤ xd)) *ℤ (pos 1 *ℤ (ad *ℤ bd))))
        → (abs_of (wn *ℤ ad -ℤ an *ℤ wd) *ℤ ((n *ℤ fd) *ℤ hd)) ≤ℤ
        (((fn *ℤ n) *ℤ hd +ℤ hn *ℤ fd) *ℤ (wd *ℤ ad))
    whole-advance n xn xd wn wd bn bd an ad fn fd hn hd n≥ xd> bd> wd≥ ad≥ fd≥ hd≥ near moved =
        let t : ℤ = (n *ℤ (wn *ℤ xd -ℤ xn *ℤ wd)) *ℤ (pos 1 *ℤ (ad *ℤ bd)) -ℤ
        (n *ℤ (an *ℤ bd -ℤ bn *ℤ ad)) *ℤ (pos 1 *ℤ (wd *ℤ xd)) in
        let v : ℤ = xn *ℤ bd -ℤ bn *ℤ xd in
        let w : ℤ = wn *ℤ ad -ℤ an *ℤ wd in
        let c> = mul-> xd bd xd> bd> in
        let c≥ : pos 0 ≤ℤ (xd *ℤ bd) = omega (arith, ints) in
        let nc≥ = mul-≥ n (xd *ℤ bd) n≥ c≥ in
        let nd≥ = mul-≥ n (wd *ℤ ad) n≥ (mul-≥ wd ad wd≥ ad≥) in
        let e : (n *ℤ (xd *ℤ bd)) *ℤ w ≡ t +ℤ (n *ℤ (wd *ℤ ad)) *ℤ v = identity n xn xd wn wd bn bd
        an ad in
        let p = size-product (n *ℤ (xd *ℤ bd)) w nc≥ in
        let q = size-product (n *ℤ (wd *ℤ ad)) v nd≥ in
        let both : abs_of (t +ℤ (n *ℤ (wd *ℤ ad)) *ℤ v) ≤ℤ
        (abs_of t +ℤ abs_of ((n *ℤ (wd *ℤ ad)) *ℤ v)) = omega (arith, ints) in
        let s : ((n *ℤ (xd *ℤ bd)) *ℤ abs_of w) ≤ℤ (abs_of t +ℤ (n *ℤ (wd *ℤ ad)) *ℤ abs_of v) = rw
        (p, e, q) both in
        let a = mul-mono (fd *ℤ hd) _ _ (mul-≥ fd hd fd≥ hd≥) s in
        let b = mul-mono fd _ _ fd≥ moved in
        let c = mul-mono ((n *ℤ (wd *ℤ ad)) *ℤ hd) _ _ (mul-≥ (n *ℤ (wd *ℤ ad)) hd nd≥ hd≥) near in
        mul-cancel (xd *ℤ bd) _ _ c> (joined n xd wd bd ad fn fd hn hd (abs_of t) (abs_of v)
        (abs_of w) a b c)
      where
        identity : (n xn xd wn wd bn bd an ad : ℤ) → (n *ℤ (xd *ℤ bd)) *ℤ (wn *ℤ ad -ℤ an *ℤ wd)
            ≡ ((n *ℤ (wn *ℤ xd -ℤ xn *ℤ wd)) *ℤ (pos 1 *ℤ (ad *ℤ bd)) -ℤ
            (n *ℤ (an *ℤ bd -ℤ bn *ℤ ad)) *ℤ (pos 1 *ℤ (wd *ℤ xd))) +ℤ (n *ℤ (wd *ℤ ad)) *ℤ
            (xn *ℤ bd -ℤ bn *ℤ xd)
        identity n xn xd wn wd bn bd an ad = simp (one-mul, expand) (omega (arith, ints))

        joined : (n xd wd bd ad fn fd hn hd t v w : ℤ)
            → ((fd *ℤ hd) *ℤ ((n *ℤ (xd *ℤ bd)) *ℤ w)) ≤ℤ
            ((fd *ℤ hd) *ℤ (t +ℤ (n *ℤ (wd *ℤ ad)) *ℤ v))
            → (fd *ℤ (t *ℤ hd)) ≤ℤ (fd *ℤ (hn *ℤ ((pos 1 *ℤ (wd *ℤ xd)) *ℤ (pos 1 *ℤ (ad *ℤ bd)))))
            → (((n *ℤ (wd *ℤ ad)) *ℤ hd) *ℤ (v *ℤ fd)) ≤ℤ
            (((n *ℤ (wd *ℤ ad)) *ℤ hd) *ℤ (fn *ℤ (xd *ℤ bd)))
            → ((xd *ℤ bd) *ℤ (w *ℤ ((n *ℤ fd) *ℤ hd))) ≤ℤ
            ((xd *ℤ bd) *ℤ (((fn *ℤ n) *ℤ hd +ℤ hn *ℤ fd) *ℤ (wd *ℤ ad)))
        joined n xd wd bd ad fn fd hn hd t v w a b c =
            let a' = simp expand at a in
            let b' = simp (one-mul, expand) at b in
            let c' = simp expand at c in
            simp expand (omega (arith, ints))

-- ---- Euler's values and those of another solution

-- Euler's step is exact
euler_step : (m : Machine) (start : List ℤ) (n p j : ℕ) → j < state_count m
    → IsSameValue (euler_slope m start n p j) (times_of n
    (difference (euler_value m start n (suc p) j) (euler_value m start n p j)))
euler_step m start n p j h =
    exact (pos n) (level_unit m) (int_at (euler m start n p) j) (pos (step_refinement m n ^ p))
    (int_at (euler m start n (suc p)) j) (pos (step_refinement m n ^ suc p))
    (scaled_slope m (unit_of m * step_refinement m n ^ p) j (euler m start n p))
    (euler-suc m start n p j h) (ap pos (pow-suc (step_refinement m n) p))
  where
    exact : (n u x d x' d' s : ℤ) → x' ≡ (u *ℤ n) *ℤ x +ℤ s → d' ≡ d *ℤ (u *ℤ n)
        → s *ℤ (pos 1 *ℤ (d' *ℤ d)) ≡ (n *ℤ (x' *ℤ d -ℤ x *ℤ d')) *ℤ (u *ℤ d)
    exact n u x d x' d' s x-is d-is = rw (x-is, d-is) (simp (one-mul, expand) (omega (arith, ints)))

-- how far they may be apart after p steps of 1/n tick, where slopes differ by at most 1/e
abbrev apart : Machine → ℕ → ℕ → ℕ → Fraction
apart m e n p = record { num = pos (2 * (n + (stiffness m + 1)) ^ p); den = n ^ p * e }

-- how exactly the values of the other solution are taken
abbrev precision : ℕ → ℕ → ℕ → ℕ
precision n factor e = (2 * n + factor) * e

precision-≥ : (n factor e : ℕ) → 1 ≤ n → e ≤ precision n factor e
precision-≥ n factor e n≥ = let a = mul-le-mul_right e (some n factor n≥) in omega arith
  where
    some : (n factor : ℕ) → 1 ≤ n → 1 ≤ 2 * n + factor
    some n factor n≥ = omega arith

-- the distance grows by no more than this in a step
closes : (k k' l n e d d' : ℤ) → pos 0 ≤ℤ d → pos 0 ≤ℤ n → (pos 2 *ℤ d) ≤ℤ (k *ℤ e) → k' ≡ k *ℤ
    (n +ℤ (l +ℤ pos 1)) → d' ≡ d *ℤ n
    → (((k *ℤ n) *ℤ ((pos 1 *ℤ d) *ℤ e) +ℤ ((l *ℤ k) *ℤ e +ℤ pos 2 *ℤ (pos 1 *ℤ d)) *ℤ d) *ℤ d') ≤ℤ
    (k' *ℤ ((n *ℤ d) *ℤ ((pos 1 *ℤ d) *ℤ e)))
closes k k' l n e d d' d≥ n≥ less k-is d-is =
    let a = mul-mono ((d *ℤ d) *ℤ n) (pos 2 *ℤ d) (k *ℤ e) (mul-≥ (d *ℤ d) n (mul-≥ d d d≥ d≥) n≥)
    less in
    rw (k-is, d-is) (joined k l n e d a)
  where
    joined : (k l n e d : ℤ) → (((d *ℤ d) *ℤ n) *ℤ (pos 2 *ℤ d)) ≤ℤ (((d *ℤ d) *ℤ n) *ℤ (k *ℤ e))
        → (((k *ℤ n) *ℤ ((pos 1 *ℤ d) *ℤ e) +ℤ ((l *ℤ k) *ℤ e +ℤ pos 2 *ℤ (pos 1 *ℤ d)) *ℤ d) *ℤ
        (d *ℤ n))
        ≤ℤ ((k *ℤ (n +ℤ (l +ℤ pos 1))) *ℤ ((n *ℤ d) *ℤ ((pos 1 *ℤ d) *ℤ e)))
    joined k l n e d a =
        let a' = simp expand at a in
        simp (one-mul, expand) (omega (arith, ints))

-- the error of the equation is at most 1/e twice
rounded : (e s q : ℤ) → q ≡ s *ℤ e → ((pos 1 *ℤ (pos 1 *ℤ q) +ℤ (s *ℤ pos 1) *ℤ e) *ℤ e) ≤ℤ
    (pos 2 *ℤ (e *ℤ (pos 1 *ℤ q)))
rounded e s q q-is =
    let k : s *ℤ pos 1 ≡ s = omega (arith, ints) in
    rw (q-is, k) (simp (one-mul, expand) (omega (arith, ints)))

stay : (m : Machine) (start : List ℤ) (y : TimeFunction)
    (solves : SolvesInitialValueProblem m start y) (last e : ℕ) (e≥ : 1 ≤ e) (n : ℕ) →
    (solves.equation last e e≥).0 ≤ n → 1 ≤ n
    → (p j : ℕ) → p ≤ last * n → j < state_count m
    → DifferByAtMost (apart m e n p) (euler_value m start n p j)
    (approximation y n p (precision n (solves.equation last e e≥).1 e) j)
stay m start y solves last e e≥ n enough n≥ zero j p≤ h =
    let q : ℕ = precision n (solves.equation last e e≥).1 e in
    let q≤ = precision-≥ n (solves.equation last e e≥).1 e n≥ in
    let one = same_value (reciprocal q) (whole (int_at start j)) (euler_value m start n 0 j)
    (approximation y n 0 q j) (omega arith)
    (begin (int_at start j) (int_at (euler m start n 0) j) (pos (step_refinement m n ^ 0))
    (euler-zero m start n j h) (ap pos (pow-zero (step_refinement m n))))
    (turned (reciprocal q) (approximation y n 0 q j) (whole (int_at start j))
    (solves.begins n q j n≥ (omega arith) h)) in
    wider (reciprocal q) (apart m e n 0) (euler_value m start n 0 j) (approximation y n 0 q j)
    (omega arith) (small q n e q≤) one
  where
    begin : (s x d : ℤ) → x ≡ s → d ≡ pos 1 → s *ℤ d ≡ x *ℤ pos 1
    begin s x d x-is d-is = rw (x-is, d-is) refl

    small : (q n e : ℕ) → e ≤ q → (pos 1 *ℤ pos (n ^ 0 * e)) ≤ℤ
        (pos (2 * (n + (stiffness m + 1)) ^ 0) *ℤ pos q)
    small q n e h =
        let a : 1 * (n ^ 0 * e) ≤ 2 * (n + (stiffness m + 1)) ^ 0 * q = rw
        (pow-zero n, pow-zero (n + (stiffness m + 1))) (omega arith) in
        omega (arith, ints)
stay m start y solves last e e≥ n enough n≥ (suc p) j p≤ h =
    let factor : ℕ = (solves.equation last e e≥).1 in
    let l : ℕ = stiffness m in
    let q : ℕ = precision n factor e in
    let q≤ = precision-≥ n factor e n≥ in
    let q≥ : 1 ≤ q = omega arith in
    let f = apart m e n p in
    let x = euler_value m start n p j in
    let x' = euler_value m start n (suc p) j in
    let b = approximation y n p q j in
    let a = approximation y n (suc p) q j in
    let slope = approximate_slope m y n p q j in
    let slope' = euler_slope m start n p j in
    let x> = power_positive m n p n≥ in
    let b> = solves.positive n p q n≥ q≥ in
    let unit> : 1 ≤ unit_of m = omega (arith, pow_pos (m.p + m.k)) in
    let near : (k : ℕ) → k < state_count m → DifferByAtMost f (euler_value m start n p k)
    (approximation y n p q k) =
    λ k l. stay m start y solves last e e≥ n enough n≥ p k (omega arith) l in
    let one = slopes m f (step_refinement m n ^ p) (y.scale n p q) (euler m start n p)
    (y.states n p q) near j h in
    let slack : Fraction = sum (reciprocal e) (product (whole (pos (2 * n + factor)))
    (reciprocal q)) in
    let P : ℕ → Type 0 = λ t. DifferByAtMost slack
    (times_of n (difference (approximation y n t q j) b)) slope in
    let quotient : P (suc p) = subst P (add-one p)
    ((solves.equation last e e≥).2 n p q j enough n≥ q≥ (omega arith) h) in
    let step : Fraction = record { num = pos 2; den = e } in
    let two = wider slack step (times_of n (difference a b)) slope
    (mul-le 1 1 e (1 * q) e≥ (mul-le 1 1 1 q (omega arith) q≥))
    (rounded (pos e) (pos (2 * n + factor)) (pos q) refl) quotient in
    let three = triangle (times_of l f) step slope' slope (times_of n (difference a b))
    (mul-le 1 1 (unit_of m) (y.scale n p q) unit> b>) one
    (turned step (times_of n (difference a b)) slope two) in
    let four = same_value (sum (times_of l f) step) slope' (times_of n (difference x' x))
    (times_of n (difference a b))
    (mul-le 1 1 (unit_of m) (step_refinement m n ^ p) unit> x>) (euler_step m start n p j h) three
    in
    let five = advance n f (sum (times_of l f) step) x x' b a x> b> (near j h) four in
    let f> : 1 ≤ n ^ p * e = mul-le 1 1 (n ^ p) e (one-le-pow p n n≥) e≥ in
    let den> = mul-le 1 1 (n * (n ^ p * e)) (1 * (n ^ p * e) * e) (mul-le 1 1 n (n ^ p * e) n≥ f>)
    (mul-le 1 1 (1 * (n ^ p * e)) e (mul-le 1 1 1 (n ^ p * e) (omega arith) f>) e≥) in
    wider (further n f (sum (times_of l f) step)) (apart m e n (suc p)) x' a den>
    (closes (pos (2 * (n + (l + 1)) ^ p)) (pos (2 * (n + (l + 1)) ^ suc p)) (pos l) (pos n) (pos e)
    (pos (n ^ p * e)) (pos (n ^ suc p * e)) (nat-≥ (n ^ p * e)) (nat-≥ n)
    (less e n l p) (more n l p) (next e n p)) five
  where
    less : (e n l p : ℕ) → (pos 2 *ℤ pos (n ^ p * e)) ≤ℤ (pos (2 * (n + (l + 1)) ^ p) *ℤ pos e)
    less e n l p =
        let a = pow-le-pow_left {n = n} {m = n + (l + 1)} (omega arith) p in
        let b = mul-le-mul_left 2 (mul-le-mul_right e a) in
        let d : 2 * ((n + (l + 1)) ^ p * e) ≡ 2 * (n + (l + 1)) ^ p * e = grind arith in
        omega (arith, ints)

    more : (n l p : ℕ) → pos (2 * (n + (l + 1)) ^ suc p) ≡ pos (2 * (n + (l + 1)) ^ p) *ℤ
        (pos n +ℤ (pos l +ℤ pos 1))
    more n l p =
        let e : 2 * (n + (l + 1)) ^ suc p ≡ 2 * (n + (l + 1)) ^ p * (n + (l + 1)) = rw
        (pow-suc (n + (l + 1)) p) (grind arith) in
        ap pos e

    next : (e n p : ℕ) → pos (n ^ suc p * e) ≡ pos (n ^ p * e) *ℤ pos n
    next e n p =
        let d : n ^ suc p * e ≡ n ^ p * e * n = rw (pow-suc n p) (grind arith) in
        ap pos d

-- ---- uniqueness

-- slopes that differ by little make the distance small
small_apart : (m : Machine) (e n last p q : ℕ) → p ≤ last * n → 2 * growth (stiffness m + 1) last *
    q ≤ e
    → (pos (2 * (n + (stiffness m + 1)) ^ p) *ℤ pos q) ≤ℤ (pos 1 *ℤ pos (n ^ p * e))
small_apart m e n last p q p≤ e≥ =
    let g : ℕ = stiffness m + 1 in
    let a = mul-le-mul_left (2 * q) (power_growth n g last p p≤) in
    let b = mul-le-mul_left (n ^ p) e≥ in
    let d : 2 * (n + g) ^ p * q ≡ 2 * q * (n + g) ^ p = grind arith in
    let f : 2 * q * (growth g last * n ^ p) ≡ n ^ p * (2 * growth g last * q) = grind arith in
    let k : 2 * (n + g) ^ p * q ≤ n ^ p * e = omega arith in
    omega (arith, ints)

-- half of 1/q, and 1/s with s at least 2 q, and 1/t are at most 1/t and 1/q
halves : (q s t : ℕ) → 2 * q ≤ s → ((pos 1 *ℤ pos (s * t) +ℤ (pos 1 *ℤ pos t +ℤ pos 1 *ℤ pos s) *ℤ
    pos (2 * q)) *ℤ pos (t * q)) ≤ℤ ((pos 1 *ℤ pos q +ℤ pos 1 *ℤ pos t) *ℤ pos (2 * q * (s * t)))
halves q s t h =
    let a = mul-le-mul_left (q * (t * t)) h in
    let d = naturals q s t a in
    omega (arith, ints)
  where
    naturals : (q s t : ℕ) → q * (t * t) * (2 * q) ≤ q * (t * t) * s → (s * t + (t + s) * (2 * q)) *
        (t * q) ≤ (q + t) * (2 * q * (s * t))
    naturals q s t a =
        let e : (s * t + (t + s) * (2 * q)) * (t * q) ≡ q * (t * t) * s + q * (t * t) * (2 * q) + 2
        * (q * q * (s * t)) = grind arith in
        let f : (q + t) * (2 * q * (s * t)) ≡ 2 * (q * q * (s * t)) + 2 * (q * (t * t) * s) = grind
        arith in
        omega arith

pub only : (m : Machine) (start : List ℤ) (y : TimeFunction) → SolvesInitialValueProblem m start y →
    (grid place t j : ℕ) → 1 ≤ grid → 1 ≤ t → j < state_count m
    → SolutionIsWithin m start grid place j (reciprocal t) (approximation y grid place t j)
only m start y solves grid place t j grid≥ t≥ h q q≥ =
    let e : ℕ = 2 * growth (stiffness m + 1) place * (2 * q) in
    let e≤ : 2 * q ≤ e = grow (growth (stiffness m + 1) place) (2 * q)
    (growth_positive (stiffness m + 1) place) in
    let e≥ : 1 ≤ e = omega arith in
    let factor : ℕ = (solves.equation place e e≥).1 in (
      (solves.equation place e e≥).0 + 1,
      λ k enough.
          let n : ℕ = grid * k in
          let p : ℕ = place * k in
          let n≤ : k ≤ n = at_least grid k grid≥ in
          let n≥ : 1 ≤ n = omega arith in
          let s : ℕ = precision n factor e in
          let s≤ = precision-≥ n factor e n≥ in
          let s≥ : 1 ≤ s = omega arith in
          let x = euler_value m start n p j in
          let v = approximation y n p s j in
          let z = approximation y grid place t j in
          let p≤ : p ≤ place * n = mul-le-mul_left place n≤ in
          let f> : 1 ≤ n ^ p * e = mul-le 1 1 (n ^ p) e (one-le-pow p n n≥) e≥ in
          let one = wider (apart m e n p) (reciprocal (2 * q)) x v f>
          (small_apart m e n place p (2 * q) p≤ (omega arith))
          (stay m start y solves place e e≥ n (omega arith) n≥ p j p≤ h) in
          let two = solves.one_value n grid p place s t j n≥ grid≥ s≥ t≥ (moments place grid k) h in
          let v> = solves.positive n p s n≥ s≥ in
          let three = triangle (reciprocal (2 * q)) (sum (reciprocal s) (reciprocal t)) x v z v> one
          two in
          let den> = mul-le 1 1 (2 * q) (s * t) (omega arith) (mul-le 1 1 s t s≥ t≥) in
          wider (sum (reciprocal (2 * q)) (sum (reciprocal s) (reciprocal t)))
          (sum (reciprocal t) (reciprocal q)) x z den> (halves q s t (omega arith)) three,
    )
  where
    grow : (g x : ℕ) → 1 ≤ g → x ≤ 2 * g * x
    grow g x h =
        let a : 1 ≤ 2 * g = omega arith in
        let b = mul-le-mul_right x a in
        omega arith

    at_least : (grid k : ℕ) → 1 ≤ grid → k ≤ grid * k
    at_least grid k h = let a = mul-le-mul_right k h in omega arith

    moments : (place grid k : ℕ) → place * k * grid ≡ place * (grid * k)
    moments place grid k = grind arith

-- ---- existence

limit_solves : (m : Machine) (start : List ℤ) → SolvesInitialValueProblem m start (solution m start)
limit_solves m start = record {
  positive = λ grid place q grid≥ q≥. power_positive m (grid * steps_for m start place q)
      (place * steps_for m start place q) (mul-le 1 1 grid (steps_for m start place q) grid≥
      (steps_for-≥ m start place q));
  one_value = λ grid grid' place place' q q' j grid≥ grid'≥ q≥ q'≥ moment h.
      one_number m start grid grid' place place' j (reciprocal q) (reciprocal q')
      (approximation (solution m start) grid place q j)
      (approximation (solution m start) grid' place' q' j)
      grid≥ grid'≥ moment (euler_within m start grid place j q grid≥ h q≥)
      (euler_within m start grid' place' j q' grid'≥ h q'≥);
  begins = λ grid q j grid≥ q≥ h.
      let x = approximation (solution m start) grid 0 q j in
      let a = one_number m start grid grid 0 0 j (reciprocal q) (whole (pos 0)) x
      (whole (int_at start j)) grid≥ grid≥ refl
      (euler_within m start grid 0 j q grid≥ h q≥) (begins m start grid j h) in
      wider (sum (reciprocal q) (whole (pos 0))) (reciprocal q) x (whole (int_at start j))
      (omega arith) (no_more (pos q)) a;
  equation = λ last n n≥. (
    slope_rate m start last * n,
    stiffness m,
    λ grid place q j enough grid≥ q≥ place≤ h.
        let y = solution m start in
        let quotient = product (whole (pos grid))
        (difference (approximation y grid (place + 1) q j) (approximation y grid place q j)) in
        let inexact : Fraction = product (whole (pos (2 * grid + stiffness m))) (reciprocal q) in
        let step : Fraction = record { num = pos (slope_rate m start last); den = grid } in
        let a = solutions_by_slopes m start last grid place (y.scale grid place q) j
        (y.states grid place q) (approximation y grid (place + 1) q j) (reciprocal q)
        grid≥ q≥ place≤ h (λ i l. euler_within m start grid place i q grid≥ l q≥)
        (euler_within m start grid (place + 1) j q grid≥ h q≥) in
        wider (sum step inexact) (sum (reciprocal n) inexact) quotient
        (approximate_slope m y grid place q j)
        (mul-le 1 1 grid (1 * q) grid≥ (mul-le 1 1 1 q (omega arith) q≥))
        (fine (pos (slope_rate m start last)) (pos grid) (pos n) (pos q)
        (pos (2 * grid + stiffness m) *ℤ pos 1) (nat-≥ q) (omega (arith, ints))) a,
  );
}
  where
    fine : (r g n q s : ℤ) → pos 0 ≤ℤ q → (r *ℤ n) ≤ℤ g →
        ((r *ℤ (pos 1 *ℤ q) +ℤ s *ℤ g) *ℤ (n *ℤ (pos 1 *ℤ q))) ≤ℤ
        ((pos 1 *ℤ (pos 1 *ℤ q) +ℤ s *ℤ n) *ℤ (g *ℤ (pos 1 *ℤ q)))
    fine r g n q s q≥ h =
        let a = simp expand at (mul-mono (q *ℤ q) (r *ℤ n) g (mul-≥ q q q≥ q≥) h) in
        simp (one-mul, expand) (omega (arith, ints))

    no_more : (q : ℤ) → ((pos 1 *ℤ pos 1 +ℤ pos 0 *ℤ q) *ℤ q) ≤ℤ (pos 1 *ℤ (q *ℤ pos 1))
    no_more q =
        let e = ap (λ (z : ℤ). (pos 1 *ℤ pos 1 +ℤ z) *ℤ q) (zero-*ℤ q) in
        let f : (pos 1 *ℤ pos 1 +ℤ pos 0) *ℤ q ≡ q = omega (arith, ints) in
        let g : pos 1 *ℤ (q *ℤ pos 1) ≡ q = omega (arith, ints) in
        omega (arith, ints)

pub solutions_are_unique : SolutionIsUnique
solutions_are_unique = record {
  solves = limit_solves;
  only = only;
  equal = λ m start y y' solves solves' grid place q q' j grid≥ q≥ q'≥ h.
      one_number m start grid grid place place j (reciprocal q) (reciprocal q')
      (approximation y grid place q j) (approximation y' grid place q' j) grid≥ grid≥ refl
      (only m start y solves grid place q j grid≥ q≥ h)
      (only m start y' solves' grid place q' j grid≥ q'≥ h);
}
