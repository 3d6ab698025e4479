-- Due ticks of states that an event step does not affect stay.
use Rattle.qss_order2.proofs.Common
use Common.{ℕ, ℤ, ◌%◌, ◌*ℤ◌, ◌+ℤ◌, ◌+◌, ◌-ℤ◌, ◌-◌, ◌<◌, ◌∙◌, ◌≡◌, ◌≤ℤ◌, ◌≤◌, ◌⊎◌, add-mul, ap}
use Common.{AreQuiet, arith, bend_at, Bool, curve_at, curve_more, curve_zero, due_at, eqb-false}
use Common.{false, floor_of, gap_after, HasDues, if-false, if◌then◌else◌, int_at, int_at-tabulate}
use Common.{ints, is_due, IsDue2, IsNextEvent, IsQuiet, IsWindow, level_unit, levels_after}
use Common.{limit_check_period, List, Machine, None, Option, pos, reach_of, refl, rise_at}
use Common.{second_snapshot_after, SecondSnapshot, Some, state_count, subst, suc, sym, unsigned_abs}
use Common.{until, zero}
use Rattle.mu_num.specs.Curves.{FirstUpTo}
use Rattle.qss_order2.specs.Stores.{KeepsDues}
use Rattle.qss_order2.proofs.EventFree.{gap_is}
use Rattle.qss_order2.proofs.Quiet.{rise_stays, same_bend}

-- a curve goes on along itself
pub curve_on : (c b a : ℤ) (h k : ℕ) → curve_at (curve_at c b a h) (b +ℤ pos h *ℤ a) a k ≡ curve_at
    c b a (h + k)
curve_on c b a h zero = let e : h + zero ≡ h = omega arith in curve_zero (curve_at c b a h)
    (b +ℤ pos h *ℤ a) a ∙ ap (curve_at c b a) (sym e)
curve_on c b a h (suc k) =
    let e : h + suc k ≡ suc (h + k) = omega arith in
    let split : pos (h + k) ≡ pos h +ℤ pos k = omega (arith, ints) in
    let both : pos (h + k) *ℤ a ≡ pos h *ℤ a +ℤ pos k *ℤ a = ap (λ z. z *ℤ a) split
    ∙ add-mul (pos h) (pos k) a in
    let one : curve_at (curve_at c b a h) (b +ℤ pos h *ℤ a) a (suc k) ≡ curve_at c b a
    (suc (h + k)) =
    omega (
      arith,
      ints,
      curve_more (curve_at c b a h) (b +ℤ pos h *ℤ a) a k,
      curve_on c b a h k,
      curve_more c b a (h + k),
      both,
    ) in
    one ∙ ap (curve_at c b a) (sym e)

-- a distance that is smaller by h
abbrev less : ℕ → Option ℕ → Option ℕ
less h None = None
less h (Some d) = Some (d - h)

-- the first place where something holds, seen from a later place before it
first_from : (P Q : ℕ → Type 0) (reach h : ℕ) (found : Option ℕ) → h < reach →
    FirstUpTo P reach found → ((k : ℕ) → Q k → P (h + k)) → ((k : ℕ) → P (h + k) → Q k) →
    ((d : ℕ) → found ≡ Some d → h < d) → FirstUpTo Q (reach - h) (less h found)
first_from P Q reach h None before first to from later =
    λ k some within q. first (h + k) (omega (arith, some)) (omega (arith, within, before)) (to k q)
first_from P Q reach h (Some d) before first to from later =
    let after = later d refl in
    let e : d ≡ h + (d - h) = omega (arith, after) in
    record {
      later = omega (arith, after);
      in_reach = omega (arith, first.in_reach);
      holds = from (d - h) (subst P e first.holds);
      first = λ k some low q. first.first (h + k) (omega (arith, some)) (omega (arith, low))
          (to k q);
    }

until_later : (tick h : ℕ) (due : Option ℕ) → less h (until tick due) ≡ until (tick + h) due
until_later tick h None = refl
until_later tick h (Some due) = ap (λ (n : ℕ). Some n) (omega arith)

-- the window is the same from a later tick in it
later_window : (tick last window h : ℕ) → IsWindow tick last (window - tick) → tick + h < window →
    IsWindow (tick + h) last (window - (tick + h))
later_window tick last window h is before =
    let e : tick + (window - tick) ≡ (tick + h) + (window - (tick + h)) = omega (arith, before) in
    record {
      some = omega (arith, before);
      few = omega (arith, is.few);
      in_time = omega (arith, is.in_time, before);
      no_look = same_span (tick % 65536) h (window - tick) ((tick + h) % 65536) (omega arith)
          (omega (arith, is.no_look)) (omega (arith, before)) (omega (arith, before));
      ends = subst (λ n. (n ≡ last) ⊎ (n % limit_check_period ≡ 0)) e is.ends;
    }
  where
    same_span : (r h reach s : ℕ) → (r + h < 65536 → s ≡ r + h) → r + reach ≤ 65536 → h < reach →
        window - (tick + h) ≡ reach - h → s + (window - (tick + h)) ≤ 65536
    same_span r h reach s is small less e = omega (
      arith,
      is (omega (arith, small, less)),
      small,
      less,
      e,
    )

module _ (m : Machine) (tick window ticks : ℕ) (w next : SecondSnapshot) (dues : List (Option ℕ))
    (left : ℕ → Bool) (has : HasDues m tick window w dues)
    (look : IsNextEvent m tick w (λ j. until tick (due_at dues j)) left ticks)
    (states : next.states ≡ (second_snapshot_after m w ticks).states)
    (levels : next.levels ≡ levels_after m w left ticks)
    (changes : (i : ℕ) → i < state_count m → left i ≡ false →
    int_at next.changes i ≡ int_at w.changes i) (before : tick + ticks < window) where
  module _ (j : ℕ) (h : j < state_count m) (quiet : IsQuiet m left j) where
    gap_stays : (k : ℕ) → gap_after m next j k ≡ gap_after m w j (ticks + k)
    gap_stays k =
        let x = int_at w.states j in
        let l = int_at w.levels j in
        let v = int_at w.changes j in
        let f = rise_at m j w.levels in
        let g = bend_at m j w.changes in
        let unit = level_unit m in
        let later = second_snapshot_after m w ticks in
        let of_x : int_at next.states j ≡ curve_at x f g ticks =
        ap (λ (xs : List ℤ). int_at xs j) states ∙ int_at-tabulate (state_count m)
        (λ j. curve_at (int_at w.states j) (rise_at m j w.levels) (bend_at m j w.changes) ticks)
        j h in
        let of_l : int_at next.levels j ≡ l +ℤ pos ticks *ℤ v =
        ap (λ (xs : List ℤ). int_at xs j) levels
        ∙ int_at-tabulate (state_count m) (λ i. if left i then floor_of (int_at later.states i)
        (level_unit m) else int_at later.levels i) j h
        ∙ if-false (left j) (floor_of (int_at later.states j) (level_unit m))
        (int_at later.levels j) quiet.stays
        ∙ int_at-tabulate (state_count m) (λ i. int_at w.levels i +ℤ pos ticks *ℤ int_at w.changes
        i) j h in
        let of_v : int_at next.changes j ≡ v = changes j h quiet.stays in
        let of_f : rise_at m j next.levels ≡ f +ℤ pos ticks *ℤ g = ap (rise_at m j) levels
        ∙ rise_stays m left j quiet w ticks in
        let of_g : bend_at m j next.changes ≡ g =
        same_bend m left j quiet next.changes w.changes changes in
        let start : int_at next.states j -ℤ unit *ℤ int_at next.levels j ≡ curve_at (x -ℤ unit *ℤ l)
        (f -ℤ unit *ℤ v) g ticks = rw (of_x, of_l) (gap_is x f g l v unit ticks) in
        let step : rise_at m j next.levels -ℤ unit *ℤ int_at next.changes j ≡ (f -ℤ unit *ℤ v)
        +ℤ pos ticks *ℤ g =
        ap (λ z. rise_at m j next.levels -ℤ unit *ℤ z) of_v ∙ ap (λ z. z -ℤ unit *ℤ v) of_f
        ∙ swapped f (pos ticks *ℤ g) (unit *ℤ v) in
        same_curve start step of_g k ∙ curve_on (x -ℤ unit *ℤ l) (f -ℤ unit *ℤ v) g ticks k
      where
        same_curve : {c b a d e f : ℤ} → c ≡ d → b ≡ e → a ≡ f → (k : ℕ) →
            curve_at c b a k ≡ curve_at d e f k
        same_curve of_c of_b of_a k = rw (of_c, of_b, of_a) refl

        swapped : (a b c : ℤ) → (a +ℤ b) -ℤ c ≡ (a -ℤ c) +ℤ b
        swapped a b c = omega (arith, ints)

    due_after : (d : ℕ) → until tick (due_at dues j) ≡ Some d → ticks < d
    due_after d e = strictly ticks d (look.none_before j d h e)
        (eqb-false d ticks (sym (ap (λ (o : Option ℕ). is_due o ticks) e) ∙ sym (look.flags j h)
        ∙ quiet.stays))
      where
        strictly : (a b : ℕ) → a ≤ b → (b ≡ a → ⊥) → a < b
        strictly a b le ne = grind arith

    due_stays : IsDue2 m next (window - (tick + ticks)) j (until (tick + ticks) (due_at dues j))
    due_stays =
        let e : (window - tick) - ticks ≡ window - (tick + ticks) = omega arith in
        let there = first_from (λ k. reach_of m j ≤ℤ pos (unsigned_abs (gap_after m w j k)))
        (λ k. reach_of m j ≤ℤ pos (unsigned_abs (gap_after m next j k))) (window - tick) ticks
        (until tick (due_at dues j))
        (omega (arith, before)) (has.each j h)
        (λ k q. subst (λ z. reach_of m j ≤ℤ pos (unsigned_abs z)) (gap_stays k) q) (λ k p.
        subst (λ z. reach_of m j ≤ℤ pos (unsigned_abs z)) (sym (gap_stays k)) p) due_after in
        subst (λ n. IsDue2 m next n j (until (tick + ticks) (due_at dues j))) e
        (subst (IsDue2 m next ((window - tick) - ticks) j) (until_later tick ticks (due_at dues j))
        there)

  -- the states that are not marked keep their due ticks
  pub dues_kept : (affected : ℕ → Bool) → AreQuiet m left affected → KeepsDues m (tick + ticks)
      window next affected dues
  dues_kept affected quiet = record {
    is_window = later_window tick m.last window ticks has.is_window before;
    quiet = λ j h not. due_stays j h (quiet j h not);
  }
