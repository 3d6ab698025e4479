-- Forms are affine along lines.
use Rattle.qss_events.proofs.Common
use Common.{[], ℕ, ℤ, ◌*ℤ◌, ◌*◌, ◌++◌, ◌+ℤ◌, ◌+◌, ◌-◌, ◌<◌, ◌^◌, ◌∙◌, ◌∷◌, ◌≡◌, ◌≤◌, ap, arith}
use Common.{cases_lt, inl, inr, int_at, int_at-tabulate, ints, length, length-map-range_with_len}
use Common.{level_unit, List, Machine, map, pos, slope_at, Snapshot, state_at, state_count}
use Common.{states_after, sym, tabulate, value_of, zero-*ℤ}
use Rattle.std.proofs.Math.IntN.{*ℤ_comm, *ℤ-zero, pos-*ℤ-pos}
use Rattle.std.proofs.lemmas.List.{get_or_past, get_or_append_left, get_or-append_right}
use Rattle.mu_num.proofs.Integers.{mul-add, mul_assoc}
use Rattle.qss_machine.specs.declared.machine_parts.Entry.{Entry}
use Rattle.qss_machine.specs.declared.machine_parts.Form.{Form}
use Rattle.mu_num.specs.IndexedSums.{sum_over}
use Rattle.qss_machine.specs.Slopes.{weighted_sum}
use Rattle.qss_machine.specs.Machines.{speed_of, inputs}
use Rattle.qss_machine.proofs.SumLaws.{weighted_sum-entries}
use Rattle.qss_events.specs.Schedules.{slopes_of}

-- a line at its own tick
pub line_here : (tick : ℕ) (x slope level : ℤ) → state_at (record { tick = tick; x = x; slope = slope; level = level }) tick ≡ x
line_here tick x slope level =
    let e : tick - tick ≡ 0 = omega arith in
    ap (λ (n : ℕ). x +ℤ pos n *ℤ slope) e ∙ omega (arith, ints, zero-*ℤ slope)

-- a coefficient times a value that moves
pub term_line : (c a k b : ℤ) → c *ℤ (a +ℤ k *ℤ b) ≡ c *ℤ a +ℤ k *ℤ (c *ℤ b)
term_line c a k b =
    mul-add c a (k *ℤ b)
    ∙ ap (λ z. c *ℤ a +ℤ z) (sym (mul_assoc c k b) ∙ ap (λ z. z *ℤ b) (*ℤ_comm c k) ∙ mul_assoc k c b)

pub sum_line : (entries : List Entry) (k : ℤ) (a b c : ℕ → ℤ) → ((var : ℕ) → c var ≡ a var +ℤ k *ℤ b var) →
    sum_over (λ entry. entry.coef *ℤ c entry.var) entries
    ≡ sum_over (λ entry. entry.coef *ℤ a entry.var) entries +ℤ k *ℤ sum_over (λ entry. entry.coef *ℤ b entry.var) entries
sum_line [] k a b c same = omega (arith, ints, *ℤ-zero k)
sum_line (entry ∷ entries) k a b c same =
    omega (
      arith,
      ints,
      ap (λ z. entry.coef *ℤ z) (same entry.var),
      term_line entry.coef (a entry.var) k (b entry.var),
      sum_line entries k a b c same,
      mul-add k (entry.coef *ℤ b entry.var) (sum_over (λ entry. entry.coef *ℤ b entry.var) entries),
    )

-- values of which the first ones move
append_line : (n : ℕ) (xs rest : List ℤ) (rise : ℕ → ℤ) (k : ℤ) → length xs ≡ n → (var : ℕ) →
    int_at (tabulate n (λ j. int_at xs j +ℤ k *ℤ rise j) ++ rest) var ≡ int_at (xs ++ rest) var +ℤ k *ℤ int_at (tabulate n rise) var
append_line n xs rest rise k e var = elim (cases_lt var n) [ inl below ↦ inside below | inr past ↦ outside past ]
  where
    moved : List ℤ
    moved = tabulate n (λ j. int_at xs j +ℤ k *ℤ rise j)

    many : length moved ≡ n
    many = length-map-range_with_len (λ j. int_at xs j +ℤ k *ℤ rise j) 0 n

    inside : var < n → int_at (moved ++ rest) var ≡ int_at (xs ++ rest) var +ℤ k *ℤ int_at (tabulate n rise) var
    inside below =
        get_or_append_left moved rest (pos 0) var (omega (arith, many, below))
        ∙ int_at-tabulate n (λ j. int_at xs j +ℤ k *ℤ rise j) var below
        ∙ ap (λ z. z +ℤ k *ℤ rise var) (sym (get_or_append_left xs rest (pos 0) var (omega (arith, e, below))))
        ∙ ap (λ z. int_at (xs ++ rest) var +ℤ k *ℤ z) (sym (int_at-tabulate n rise var below))

    outside : n ≤ var → int_at (moved ++ rest) var ≡ int_at (xs ++ rest) var +ℤ k *ℤ int_at (tabulate n rise) var
    outside past =
        let zero_rise : int_at (tabulate n rise) var ≡ pos 0 = get_or_past (tabulate n rise) var (pos 0) (omega (arith, length-map-range_with_len rise 0 n, past)) in
        let none : k *ℤ int_at (tabulate n rise) var ≡ pos 0 = ap (λ z. k *ℤ z) zero_rise ∙ *ℤ-zero k in
        let left : int_at (moved ++ rest) var ≡ int_at rest (var - n) =
        get_or-append_right moved rest n var (pos 0) many past in
        let right : int_at (xs ++ rest) var ≡ int_at rest (var - n) =
        get_or-append_right xs rest n var (pos 0) e past in
        omega (arith, ints, none, left, right)

-- the time of a later tick
pub time_line : (c : ℤ) (tick k u : ℕ) → c *ℤ pos ((tick + k) * u) ≡ c *ℤ pos (tick * u) +ℤ pos k *ℤ (c *ℤ pos u)
time_line c tick k u =
    let split : pos ((tick + k) * u) ≡ pos (tick * u) +ℤ pos k *ℤ pos u = omega (arith, ints, pos-*ℤ-pos k u) in
    ap (λ z. c *ℤ z) split ∙ term_line c (pos (tick * u)) (pos k) (pos u)

-- a form's value goes on at its speed while the states go on at their slopes
pub value_line : (m : Machine) (form : Form) (tick : ℕ) (w : Snapshot) (k : ℕ) → length w.states ≡ state_count m →
    value_of m form (states_after m w k) w.discretes w.discretes (tick + k) ≡ value_of m form w.states w.discretes w.discretes tick +ℤ pos k *ℤ speed_of m form (slopes_of m w)
value_line m form tick w k e =
    let rest : List ℤ = map (λ d. d *ℤ level_unit m) w.discretes ++ map (λ d. d *ℤ level_unit m) w.discretes in
    let before = inputs m w.states w.discretes w.discretes in
    let after = inputs m (states_after m w k) w.discretes w.discretes in
    let sum : weighted_sum form.entries after ≡ weighted_sum form.entries before +ℤ pos k *ℤ weighted_sum form.entries (slopes_of m w) =
    weighted_sum-entries form.entries after
    ∙ sum_line form.entries (pos k) (int_at before) (int_at (slopes_of m w)) (int_at after)
    (append_line (state_count m) w.states rest (λ j. slope_at m j w.levels w.discretes) (pos k) e)
    ∙ ap (λ z. z +ℤ pos k *ℤ sum_over (λ entry. entry.coef *ℤ int_at (slopes_of m w) entry.var) form.entries) (sym (weighted_sum-entries form.entries before))
    ∙ ap (λ z. weighted_sum form.entries before +ℤ pos k *ℤ z) (sym (weighted_sum-entries form.entries (slopes_of m w))) in
    omega (
      arith,
      ints,
      sum,
      time_line form.time tick k (2 ^ (m.f + m.p)),
      mul-add (pos k) (weighted_sum form.entries (slopes_of m w)) (form.time *ℤ pos (2 ^ (m.f + m.p))),
    )
