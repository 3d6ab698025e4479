-- How a number moves along a parabola.
use Rattle.mu_num.proofs.Common
use Common.{ℕ, ℤ, ◌*ℤ◌, ◌+ℤ◌, ◌+◌, ◌-◌, ◌<ℤ◌, ◌<◌, ◌∙◌, ◌≡◌, ◌≤ℤ◌, ◌≤◌, ◌⊎◌, ap, arith, curve_at}
use Common.{inl, inr, ints, neg_ℤ, None, Option, pos, refl, Some, subst, suc, suc_ℤ-*ℤ}
use Common.{unsigned_abs, zero, zero-*ℤ}
use Rattle.mu_num.specs.Curves.{sum_to, IsFirstUpTo, FirstUpTo, IsFirstReaching, FirstReaching}
use Rattle.mu_num.proofs.Integers.{add-mul, mul-neg, mul-nonneg, mul-nonpos}

pub below_both : (x y z : ℤ) → x ≤ℤ y → y <ℤ z → x <ℤ z
below_both x y z h k = omega (arith, ints)

-- ---- one more step

sum_to-suc : (n : ℕ) → sum_to (suc n) ≡ sum_to n + n
sum_to-suc zero = refl
sum_to-suc (suc k) =
    let e : suc (suc k) - 1 ≡ suc k = omega arith in
    let f : suc k - 1 ≡ k = omega arith in
    rw (e, f) (omega arith)

bend_more : (a : ℤ) (n : ℕ) → pos (sum_to (suc n)) *ℤ a ≡ pos (sum_to n) *ℤ a +ℤ pos n *ℤ a
bend_more a n =
    let split : pos (sum_to (suc n)) ≡ pos (sum_to n) +ℤ pos n = omega (arith, ints, sum_to-suc n) in
    ap (λ z. z *ℤ a) split ∙ add-mul (pos (sum_to n)) (pos n) a

pub curve_more : (c b a : ℤ) (n : ℕ) → curve_at c b a (suc n) ≡ curve_at c b a n +ℤ (b +ℤ pos n *ℤ a)
curve_more c b a n = omega (arith, ints, suc_ℤ-*ℤ (pos n) b, bend_more a n)

pub curve_zero : (c b a : ℤ) → curve_at c b a 0 ≡ c
curve_zero c b a = omega (arith, ints, zero-*ℤ b, zero-*ℤ a)

-- ---- rising and falling

abbrev pub Rises : ℤ → ℤ → ℕ → ℕ → Type 0
Rises b a low high = (m : ℕ) → low ≤ m → m < high → pos 0 ≤ℤ (b +ℤ pos m *ℤ a)

abbrev pub Falls : ℤ → ℤ → ℕ → ℕ → Type 0
Falls b a low high = (m : ℕ) → low ≤ m → m < high → (b +ℤ pos m *ℤ a) ≤ℤ pos 0

rises_by : (c b a : ℤ) (low high i k : ℕ) → Rises b a low high → low ≤ i → i + k ≤ high → curve_at c b a i ≤ℤ curve_at c b a (i + k)
rises_by c b a low high i zero rises after within = let e : i + zero ≡ i = omega arith in rw e (omega (arith, ints))
rises_by c b a low high i (suc k) rises after within =
    let e : i + suc k ≡ suc (i + k) = omega arith in
    rw e (omega (arith, ints, curve_more c b a (i + k), rises_by c b a low high i k rises after (omega arith), rises (i + k) (omega arith) (omega arith)))

pub rises_to : (c b a : ℤ) (low high i j : ℕ) → Rises b a low high → low ≤ i → i ≤ j → j ≤ high → curve_at c b a i ≤ℤ curve_at c b a j
rises_to c b a low high i j rises after order within =
    let e : i + (j - i) ≡ j = omega arith in
    subst (λ n. curve_at c b a i ≤ℤ curve_at c b a n) e (rises_by c b a low high i (j - i) rises after (omega arith))

falls_by : (c b a : ℤ) (low high i k : ℕ) → Falls b a low high → low ≤ i → i + k ≤ high → curve_at c b a (i + k) ≤ℤ curve_at c b a i
falls_by c b a low high i zero falls after within = let e : i + zero ≡ i = omega arith in rw e (omega (arith, ints))
falls_by c b a low high i (suc k) falls after within =
    let e : i + suc k ≡ suc (i + k) = omega arith in
    rw e (omega (arith, ints, curve_more c b a (i + k), falls_by c b a low high i k falls after (omega arith), falls (i + k) (omega arith) (omega arith)))

pub falls_to : (c b a : ℤ) (low high i j : ℕ) → Falls b a low high → low ≤ i → i ≤ j → j ≤ high → curve_at c b a j ≤ℤ curve_at c b a i
falls_to c b a low high i j falls after order within =
    let e : i + (j - i) ≡ j = omega arith in
    subst (λ n. curve_at c b a n ≤ℤ curve_at c b a i) e (falls_by c b a low high i (j - i) falls after (omega arith))

-- ---- the opposite curve

pub curve_opposite : (c b a d e f : ℤ) (n : ℕ) → d ≡ neg_ℤ c → e ≡ neg_ℤ b → f ≡ neg_ℤ a → curve_at d e f n ≡ neg_ℤ (curve_at c b a n)
curve_opposite c b a d e f n of_c of_b of_a =
    let slope : pos n *ℤ e ≡ neg_ℤ (pos n *ℤ b) = ap (λ z. pos n *ℤ z) of_b ∙ mul-neg (pos n) b in
    let bend : pos (sum_to n) *ℤ f ≡ neg_ℤ (pos (sum_to n) *ℤ a) = ap (λ z. pos (sum_to n) *ℤ z) of_a ∙ mul-neg (pos (sum_to n)) a in
    omega (arith, ints, slope, bend, of_c)

pub falls_opposite : (b a e f : ℤ) (low high : ℕ) → e ≡ neg_ℤ b → f ≡ neg_ℤ a → Falls b a low high → Rises e f low high
falls_opposite b a e f low high of_b of_a falls m after before =
    let bend : pos m *ℤ f ≡ neg_ℤ (pos m *ℤ a) = ap (λ z. pos m *ℤ z) of_a ∙ mul-neg (pos m) a in
    omega (arith, ints, of_b, bend, falls m after before)

-- ---- where a curve turns

not_past : (x y : ℤ) → (y <ℤ x → ⊥) → x ≤ℤ y
not_past x y not = by_order (order x y)
  where
    order : (x y : ℤ) → (x ≤ℤ y) ⊎ (y <ℤ x)
    order x y = grind (arith, ints)

    by_order : (x ≤ℤ y) ⊎ (y <ℤ x) → x ≤ℤ y
    by_order (inl le) = le
    by_order (inr lt) = absurd (not lt)

pub before_turn : (b back : ℤ) (m : ℕ) → pos 0 ≤ℤ b → (0 < m → b <ℤ (pos m *ℤ back) → ⊥) → (pos m *ℤ back) ≤ℤ b
before_turn b back zero upward not = omega (arith, ints, zero-*ℤ back)
before_turn b back (suc m) upward not = not_past (pos (suc m) *ℤ back) b (not (omega arith))

more_back : (back : ℤ) (n k : ℕ) → pos 0 ≤ℤ back → (pos n *ℤ back) ≤ℤ (pos (n + k) *ℤ back)
more_back back n k up =
    let split : pos (n + k) ≡ pos n +ℤ pos k = omega (arith, ints) in
    omega (arith, ints, ap (λ z. z *ℤ back) split ∙ add-mul (pos n) (pos k) back, mul-nonneg k back up)

upward_back : (b back : ℤ) (n : ℕ) → pos 0 ≤ℤ b → b <ℤ (pos n *ℤ back) → pos 0 ≤ℤ back
upward_back b back n upward past = not_past (pos 0) back (λ down. omega (arith, ints, mul-nonpos n back (omega (arith, ints, down)), past, upward))

pub after_turn : (b back : ℤ) (n m : ℕ) → pos 0 ≤ℤ b → b <ℤ (pos n *ℤ back) → n ≤ m → b ≤ℤ (pos m *ℤ back)
after_turn b back n m upward past order =
    let e : n + (m - n) ≡ m = omega arith in
    let further : (pos n *ℤ back) ≤ℤ (pos m *ℤ back) = subst (λ k. (pos n *ℤ back) ≤ℤ (pos k *ℤ back)) e (more_back back n (m - n) (upward_back b back n upward past)) in
    omega (arith, ints, further, past)

-- in terms of the bend
opposite_bend : (a back : ℤ) (m : ℕ) → back ≡ neg_ℤ a → pos m *ℤ back ≡ neg_ℤ (pos m *ℤ a)
opposite_bend a back m of_a = ap (λ z. pos m *ℤ z) of_a ∙ mul-neg (pos m) a

pub rises_before : (b a back : ℤ) (turn : ℕ) → back ≡ neg_ℤ a → ((m : ℕ) → m < turn → (pos m *ℤ back) ≤ℤ b) → Rises b a 0 turn
rises_before b a back turn of_a h m low before = omega (arith, ints, h m before, opposite_bend a back m of_a)

pub falls_after : (b a back : ℤ) (turn reach : ℕ) → back ≡ neg_ℤ a → ((m : ℕ) → turn ≤ m → m < reach → b ≤ℤ (pos m *ℤ back)) → Falls b a turn reach
falls_after b a back turn reach of_a h m low before = omega (arith, ints, h m low before, opposite_bend a back m of_a)

-- ---- the first place

module _ (c b a bound : ℤ) (inside : pos (unsigned_abs c) <ℤ bound) (turn reach : ℕ) (order : turn ≤ reach)
    (rises : Rises b a 0 turn) (falls : Falls b a turn reach) where
  abbrev Left : ℕ → Type 0
  Left n = bound ≤ℤ pos (unsigned_abs (curve_at c b a n))

  -- up to the turn the curve is not below its start
  above_start : (m : ℕ) → m ≤ turn → c ≤ℤ curve_at c b a m
  above_start m low = omega (arith, ints, curve_zero c b a, rises_to c b a 0 turn 0 m rises (omega arith) (omega arith) low)

  -- nowhere it is above its turn
  below_turn : (m : ℕ) → m ≤ reach → curve_at c b a m ≤ℤ curve_at c b a turn
  below_turn m low = by_order (split m)
    where
      split : (m : ℕ) → (m ≤ turn) ⊎ (turn ≤ m)
      split m = grind arith

      by_order : (m ≤ turn) ⊎ (turn ≤ m) → curve_at c b a m ≤ℤ curve_at c b a turn
      by_order cases = elim cases [
        | inl before ↦ rises_to c b a 0 turn m turn rises (omega arith) before (omega arith)
        | inr after ↦ falls_to c b a turn reach turn m falls (omega arith) after low
      ]

  -- up to the turn it is within the bound on the lower side
  rising_inside : (m : ℕ) → m ≤ turn → curve_at c b a m <ℤ bound → Left m → ⊥
  rising_inside m low below left = omega (arith, ints, above_start m low, inside, below, left)

  -- the first place on the rising piece
  pub left_rising : (n : ℕ) → IsFirstReaching c b a bound 0 turn n → IsFirstUpTo Left reach n
  left_rising n first = record {
    later = first.later;
    in_reach = omega (arith, first.within);
    holds = omega (arith, ints, first.reached);
    first = λ m after before left. rising_inside m (omega (arith, first.within)) (first.before m (omega arith) before) left;
  }

  split : (m : ℕ) → (m ≤ turn) ⊎ (turn ≤ m)
  split m = grind arith

  module _ (d e f : ℤ) (of_c : d ≡ neg_ℤ c) (of_b : e ≡ neg_ℤ b) (of_a : f ≡ neg_ℤ a)
      (none : (m : ℕ) → 0 ≤ m → m ≤ turn → curve_at c b a m <ℤ bound) where
    below_all : (m : ℕ) → m ≤ reach → curve_at c b a m <ℤ bound
    below_all m low = omega (arith, ints, below_turn m low, none turn (omega arith) (omega arith))

    -- where the opposite curve is below the bound too, the curve has not left
    both_inside : (m : ℕ) → m ≤ reach → (turn ≤ m → curve_at d e f m <ℤ bound) → Left m → ⊥
    both_inside m low back left = by_order (split m)
      where
        by_order : (m ≤ turn) ⊎ (turn ≤ m) → ⊥
        by_order (inl rising) = rising_inside m rising (below_all m low) left
        by_order (inr falling) = omega (arith, ints, below_all m low, left, back falling, curve_opposite c b a d e f m of_c of_b of_a)

    -- the first place on the falling piece, by the opposite curve
    pub left_falling : (found : Option ℕ) → FirstReaching d e f bound turn reach found → FirstUpTo Left reach found
    left_falling None never = λ m later low left. both_inside m low (λ falling. never m falling low) left
    left_falling (Some n) first = record {
      later = omega (arith, first.later);
      in_reach = first.within;
      holds = omega (arith, ints, first.reached, curve_opposite c b a d e f n of_c of_b of_a);
      first = λ m after before left. both_inside m (omega (arith, first.within)) (λ falling. first.before m falling before) left;
    }

    -- it starts below the bound
    pub turn_below : curve_at d e f turn <ℤ bound
    turn_below = omega (arith, ints, above_start turn (omega arith), inside, curve_opposite c b a d e f turn of_c of_b of_a)

-- ---- a curve and its opposite leave at the same places

pub first_opposite : (c b a d e f bound : ℤ) (reach : ℕ) (found : Option ℕ) → d ≡ neg_ℤ c → e ≡ neg_ℤ b → f ≡ neg_ℤ a →
    FirstUpTo (λ n. bound ≤ℤ pos (unsigned_abs (curve_at d e f n))) reach found → FirstUpTo (λ n. bound ≤ℤ pos (unsigned_abs (curve_at c b a n))) reach found
first_opposite c b a d e f bound reach None of_c of_b of_a none =
    λ m later low left. none m later low (omega (arith, ints, left, curve_opposite c b a d e f m of_c of_b of_a))
first_opposite c b a d e f bound reach (Some n) of_c of_b of_a some = record {
  later = some.later;
  in_reach = some.in_reach;
  holds = omega (arith, ints, some.holds, curve_opposite c b a d e f n of_c of_b of_a);
  first = λ m after before left. some.first m after before (omega (arith, ints, left, curve_opposite c b a d e f m of_c of_b of_a));
}
