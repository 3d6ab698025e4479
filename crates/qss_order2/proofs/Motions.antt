-- Places, and the motion of all states that they give at a tick.
use Rattle.qss_order2.proofs.Common
use Common.{ℕ, ℤ, ◌*ℤ◌, ◌+ℤ◌, ◌+◌, ◌-◌, ◌<◌, ◌∙◌, ◌≡◌, ◌≤ℤ◌, ◌≤◌, abs_of, add-mul, ap}
use Common.{AreMovableUntil, arith, bend_at, cases_Bool, curve_at, curve_zero, false, HasLists, inl}
use Common.{inr, int_at, int_at-tabulate, ints, is_listed, IsAdvanced, IsSized, IsSmallPlace}
use Common.{IsWithin, length, length-map-range_with_len, level_on, levels_on, List, Machine, Motion}
use Common.{motion_at, MotionAt, Moves, not, Option, Place, place_at, place_in, place_there, pos}
use Common.{refl, rise_at, rise_on, rises_on, second_snapshot_after, snapshot_of, Some, state_count}
use Common.{state_on, states_on, subst, sym, tabulate, true, zero-*ℤ}
use Rattle.qss_order2.specs.Places.{CanMove}
use Rattle.qss_order2.specs.Stores.{CanAdvance, rise_there, AreLevelsBoundedUntil}
use Rattle.qss_order2.specs.Stores.{AreLevelSlopesBounded}
use Rattle.qss_order2.proofs.Bounds.{state_small, level_within, rise_small, rise_is, bend_small}
use Rattle.qss_order2.proofs.Bounds.{bend_is, change_small}
use Rattle.qss_order2.proofs.BoundedLines.{same_bound}
use Rattle.qss_order2.proofs.Shifts.{curve_on}
use Rattle.qss_order2.proofs.Tables.{same_table}

-- ---- a place at its own tick

none_left : (a b : ℕ) → a ≡ b → b - a ≡ 0
none_left a b e = omega (arith, e)

pub here_state : (p : Place) (r a : ℤ) (tick : ℕ) → p.since ≡ tick → state_on p r a tick ≡ p.state
here_state p r a tick e = ap (curve_at p.state r a) (none_left p.since tick e)
    ∙ curve_zero p.state r a

pub here_line : (x v : ℤ) (since tick : ℕ) → since ≡ tick → x +ℤ pos (tick - since) *ℤ v ≡ x
here_line x v since tick e = ap (λ (k : ℕ). x +ℤ pos k *ℤ v) (none_left since tick e)
    ∙ omega (arith, ints, zero-*ℤ v)

pub here_level : (p : Place) (v : ℤ) (tick : ℕ) → p.since ≡ tick → level_on p v tick ≡ p.level
here_level p v tick e = here_line p.level v p.since tick e

pub here_place : (p : Place) (v r a : ℤ) (tick : ℕ) → p.since ≡ tick → place_at p v r a tick ≡ p
here_place p v r a tick e = rw (here_state p r a tick e, here_level p v tick e, sym e)

-- ---- the lists

pub at_states : (n : ℕ) (places : List Place) (rises bends : List ℤ) (tick j : ℕ) → j < n →
    int_at (states_on n places rises bends tick) j ≡ state_on (place_in places j) (int_at rises j)
    (int_at bends j) tick
unfolding states_on
at_states n places rises bends tick j h = int_at-tabulate n (λ j. state_on (place_in places j)
    (int_at rises j) (int_at bends j) tick) j h

pub at_levels : (n : ℕ) (places : List Place) (changes : List ℤ) (tick j : ℕ) → j < n →
    int_at (levels_on n places changes tick) j ≡ level_on (place_in places j) (int_at changes j)
    tick
unfolding levels_on
at_levels n places changes tick j h = int_at-tabulate n (λ j. level_on (place_in places j)
    (int_at changes j) tick) j h

pub at_rises : (n : ℕ) (places : List Place) (rises bends : List ℤ) (tick j : ℕ) → j < n →
    int_at (rises_on n places rises bends tick) j ≡ int_at rises j +ℤ pos
    (tick - (place_in places j).since) *ℤ int_at bends j
unfolding rises_on
at_rises n places rises bends tick j h = int_at-tabulate n (λ j. int_at rises j +ℤ pos
    (tick - (place_in places j).since) *ℤ int_at bends j) j h

pub many_states : (n : ℕ) (places : List Place) (rises bends : List ℤ) (tick : ℕ) →
    length (states_on n places rises bends tick) ≡ n
unfolding states_on
many_states n places rises bends tick = length-map-range_with_len (λ j. state_on (place_in places j)
    (int_at rises j) (int_at bends j) tick) 0 n

pub many_levels : (n : ℕ) (places : List Place) (changes : List ℤ) (tick : ℕ) →
    length (levels_on n places changes tick) ≡ n
unfolding levels_on
many_levels n places changes tick = length-map-range_with_len (λ j. level_on (place_in places j)
    (int_at changes j) tick) 0 n

pub many_rises : (n : ℕ) (places : List Place) (rises bends : List ℤ) (tick : ℕ) →
    length (rises_on n places rises bends tick) ≡ n
unfolding rises_on
many_rises n places rises bends tick = length-map-range_with_len (λ j. int_at rises j +ℤ pos
    (tick - (place_in places j).since) *ℤ int_at bends j) 0 n

-- lists that have these values
pub states_are : (n : ℕ) (places : List Place) (rises bends : List ℤ) (tick : ℕ) (f : ℕ → ℤ) →
    ((j : ℕ) → j < n → state_on (place_in places j) (int_at rises j) (int_at bends j) tick ≡ f j) →
    states_on n places rises bends tick ≡ tabulate n f
unfolding states_on
states_are n places rises bends tick f same = same_table n _ f same

pub levels_are : (n : ℕ) (places : List Place) (changes : List ℤ) (tick : ℕ) (f : ℕ → ℤ) →
    ((j : ℕ) → j < n → level_on (place_in places j) (int_at changes j) tick ≡ f j) →
    levels_on n places changes tick ≡ tabulate n f
unfolding levels_on
levels_are n places changes tick f same = same_table n _ f same

pub rises_are : (n : ℕ) (places : List Place) (rises bends : List ℤ) (tick : ℕ) (f : ℕ → ℤ) →
    ((j : ℕ) → j < n → int_at rises j +ℤ pos (tick - (place_in places j).since) *ℤ int_at bends j ≡
    f j) → rises_on n places rises bends tick ≡ tabulate n f
unfolding rises_on
rises_are n places rises bends tick f same = same_table n _ f same

-- ---- later ticks

pub line_later : (x v : ℤ) (since tick k : ℕ) → since ≤ tick → x +ℤ pos ((tick + k) - since) *ℤ v ≡
    (x +ℤ pos (tick - since) *ℤ v) +ℤ pos k *ℤ v
line_later x v since tick k past =
    let e : (tick + k) - since ≡ (tick - since) + k = omega (arith, past) in
    let split : pos ((tick - since) + k) ≡ pos (tick - since) +ℤ pos k = omega (arith, ints) in
    let both : pos ((tick + k) - since) *ℤ v ≡ pos (tick - since) *ℤ v +ℤ pos k *ℤ v =
    ap (λ (d : ℕ). pos d *ℤ v) e ∙ ap (λ z. z *ℤ v) split ∙ add-mul (pos (tick - since)) (pos k)
    v in
    omega (arith, ints, both)

pub state_later : (p : Place) (r a : ℤ) (tick k : ℕ) → p.since ≤ tick →
    state_on p r a (tick + k) ≡ curve_at (state_on p r a tick) (r +ℤ pos (tick - p.since) *ℤ a) a k
state_later p r a tick k past =
    let e : (tick + k) - p.since ≡ (tick - p.since) + k = omega (arith, past) in
    ap (curve_at p.state r a) e ∙ sym (curve_on p.state r a (tick - p.since) k)

module _ (m : Machine) (q : Motion) (tick : ℕ) (moves : Moves m (motion_at m q tick)) where
  abbrev n : ℕ
  n = state_count m

  abbrev v : MotionAt
  v = motion_at m q tick

  abbrev place : ℕ → Place
  place j = place_in q.places.items j

  state_v : (j : ℕ) → j < n → int_at v.states j ≡ state_on (place j) (int_at q.rises.items j)
      (int_at q.bends.items j) tick
  state_v j h = at_states n q.places.items q.rises.items q.bends.items tick j h

  level_v : (j : ℕ) → j < n → int_at v.levels j ≡ level_on (place j) (int_at q.changes.items j) tick
  level_v j h = at_levels n q.places.items q.changes.items tick j h

  rise_v : (j : ℕ) → j < n → int_at q.rises.items j +ℤ pos (tick - (place j).since)
      *ℤ int_at q.bends.items j ≡ rise_at m j v.levels
  rise_v j h = sym (at_rises n q.places.items q.rises.items q.bends.items tick j h)
      ∙ rise_is m v moves j h

  pub bend_v : (j : ℕ) → j < n → int_at q.bends.items j ≡ bend_at m j q.changes.items
  bend_v j h = bend_is m v moves j h

  -- states and levels go on along parabolas and lines
  pub states_later : (k j : ℕ) → j < n → (place j).since ≤ tick →
      state_on (place j) (int_at q.rises.items j) (int_at q.bends.items j) (tick + k) ≡ int_at
      (second_snapshot_after m (snapshot_of v) k).states j
  states_later k j h past =
      rw (
        state_later (place j) (int_at q.rises.items j) (int_at q.bends.items j) tick k past,
        ← state_v j h,
        rise_v j h,
        bend_v j h,
      ) (sym (int_at-tabulate n (λ j. curve_at
      (int_at v.states j) (rise_at m j v.levels) (bend_at m j v.changes) k) j h))

  pub levels_later : (k j : ℕ) → j < n → (place j).since ≤ tick →
      level_on (place j) (int_at q.changes.items j) (tick + k) ≡ int_at (second_snapshot_after m
      (snapshot_of v) k).levels j
  levels_later k j h past =
      line_later (place j).level (int_at q.changes.items j) (place j).since tick k past
      ∙ ap (λ z. z +ℤ pos k *ℤ int_at q.changes.items j) (sym (level_v j h))
      ∙ sym (int_at-tabulate n (λ i. int_at v.levels i +ℤ pos k *ℤ int_at v.changes i) j h)

  pub rises_later : (k j : ℕ) → j < n → (place j).since ≤ tick →
      int_at q.rises.items j +ℤ pos ((tick + k) - (place j).since) *ℤ int_at q.bends.items j ≡
      rise_at m j v.levels +ℤ pos k *ℤ bend_at m j v.changes
  rises_later k j h past =
      rw (
        line_later (int_at q.rises.items j) (int_at q.bends.items j) (place j).since tick k past,
        rise_v j h,
        bend_v j h,
      ) refl

  -- a state whose place is of the tick
  module _ (j : ℕ) (h : j < n) (here : (place j).since ≡ tick) where
    pub state_here : (place j).state ≡ int_at v.states j
    state_here = sym (state_v j h ∙ here_state (place j) (int_at q.rises.items j)
        (int_at q.bends.items j) tick here)

    pub level_here : (place j).level ≡ int_at v.levels j
    level_here = sym (level_v j h ∙ here_level (place j) (int_at q.changes.items j) tick here)

    pub rise_here : int_at q.rises.items j ≡ int_at v.rises j
    rise_here = sym (at_rises n q.places.items q.rises.items q.bends.items tick j h
        ∙ here_line (int_at q.rises.items j) (int_at q.bends.items j) (place j).since tick here)

    pub small_here : IsSmallPlace (place j)
    small_here = record {
      state = rw state_here (state_small m v moves j h);
      level = rw level_here (level_within m v.levels v.changes moves.within j);
    }

    pub small_rise_here : IsWithin 94 (int_at q.rises.items j)
    small_rise_here = subst (IsWithin 94) (sym rise_here) (rise_small m v moves j h)

  -- where all places are of the tick, or each is or was small before
  pub movable : (window : ℕ) → ((j : ℕ) → j < n → (place j).since ≤ tick) →
      ((j : ℕ) → j < n → window ≤ (place j).since + 65536) →
      ((j : ℕ) → j < n → IsSmallPlace (place j) × IsWithin 94 (int_at q.rises.items j)) →
      AreMovableUntil n tick window q.places.items q.changes.items q.rises.items q.bends.items
  movable window past near small = record {
    past = past;
    near = near;
    small = λ j h. (small j h).0;
    small_changes = λ j h. change_small m v moves j h;
    small_rises = λ j h. (small j h).1;
    small_bends = λ j h. bend_small m v moves j h;
  }

-- what is on the way may be moved
pub can_move : {m : Machine} {q : Motion} {tick window : ℕ} → HasLists m q →
    AreMovableUntil (state_count m) tick window q.places.items q.changes.items q.rises.items
    q.bends.items → (next : ℕ) → tick ≤ next → next ≤ window →
    CanMove (state_count m) next q.places.items q.changes.items q.rises.items q.bends.items
can_move lists way next later within = record {
  as_many_changes = lists.changes;
  as_many_rises = lists.rises;
  as_many_bends = lists.bends;
  past = λ j h. omega (arith, way.past j h, later);
  near = λ j h. omega (arith, way.near j h, within);
  small = λ j h before. way.small j h;
  small_changes = way.small_changes;
  small_rises = λ j h before. way.small_rises j h;
  small_bends = way.small_bends;
}

-- and is on the way to an earlier end of a window
pub still_movable : {n tick window : ℕ} {places : List Place} {changes rises bends : List ℤ} →
    AreMovableUntil n tick window places changes rises bends → (next end : ℕ) → tick ≤ next →
    end ≤ window → AreMovableUntil n next end places changes rises bends
still_movable way next end later within = record {
  past = λ j h. omega (arith, way.past j h, later);
  near = λ j h. omega (arith, way.near j h, within);
  small = way.small;
  small_changes = way.small_changes;
  small_rises = way.small_rises;
  small_bends = way.small_bends;
}

-- some states have moved to a tick, with their slopes
module _ {tick : ℕ} {done : List ℕ} {old now : Motion} (is : IsAdvanced tick done old now) where
  at_tick : (j : ℕ) → is_listed done j ≡ true → (place_in now.places.items j).since ≡ tick
  at_tick j e = ap (λ (p : Place). p.since) (is.places.each j e)

  as_before : (j : ℕ) → is_listed done j ≡ false → (place_in now.places.items j).since ≡
      (place_in old.places.items j).since
  as_before j e = ap (λ (p : Place). p.since) (is.places.others j e)

  -- a place that is moved again is the first place, moved
  pub moved_once : (j : ℕ) → place_there tick now j ≡ place_there tick old j
  moved_once j = elim (cases_Bool (is_listed done j)) [
    | inl e ↦ here_place (place_in now.places.items j) (int_at now.changes.items j)
        (int_at now.rises.items j) (int_at now.bends.items j) tick (at_tick j e)
        ∙ is.places.each j e
    | inr e ↦ rw (is.places.others j e, is.rises.others j e, is.changes, is.bends) refl
  ]

  -- and so is its slope
  pub risen_once : (j : ℕ) → rise_there tick now j ≡ rise_there tick old j
  risen_once j = elim (cases_Bool (is_listed done j)) [
    | inl e ↦ here_line (int_at now.rises.items j) (int_at now.bends.items j)
        (place_in now.places.items j).since tick (at_tick j e) ∙ is.rises.each j e
    | inr e ↦ rw (is.places.others j e, is.rises.others j e, is.bends) refl
  ]

  -- the others can still be moved
  pub still_moves : CanAdvance tick old → CanAdvance tick now
  still_moves can =
      let n = length old.places.items in
      let moves : CanMove n tick now.places.items old.changes.items now.rises.items old.bends.items
      =
      record {
        as_many_changes = can.as_many_changes;
        as_many_rises = is.rises.as_many ∙ can.as_many_rises;
        as_many_bends = can.as_many_bends;
        past = λ j h. elim (cases_Bool (is_listed done j)) [
          | inl e ↦ omega (arith, at_tick j e)
          | inr e ↦ omega (arith, as_before j e, can.past j h)
        ];
        near = λ j h. elim (cases_Bool (is_listed done j)) [
          | inl e ↦ omega (arith, at_tick j e)
          | inr e ↦ omega (arith, as_before j e, can.near j h)
        ];
        small = λ j h low. elim (cases_Bool (is_listed done j)) [
          | inl e ↦ absurd (omega (arith, at_tick j e, low))
          | inr e ↦ rw (is.places.others j e) (can.small j h (omega (arith, as_before j e, low)))
        ];
        small_changes = can.small_changes;
        small_rises = λ j h low. elim (cases_Bool (is_listed done j)) [
          | inl e ↦ absurd (omega (arith, at_tick j e, low))
          | inr e ↦ rw (is.rises.others j e) (can.small_rises j h (omega (
            arith,
            as_before j e,
            low,
          )))
        ];
        small_bends = can.small_bends;
      } in
      rw (is.places.as_many, is.changes, is.bends) moves

pub sized_at : (m : Machine) (q : Motion) (tick : ℕ) → HasLists m q → IsSized m (motion_at m q tick)
sized_at m q tick lists = record {
  states = many_states (state_count m) q.places.items q.rises.items q.bends.items tick;
  levels = many_levels (state_count m) q.places.items q.changes.items tick;
  changes = lists.changes;
  rises = many_rises (state_count m) q.places.items q.rises.items q.bends.items tick;
  bends = lists.bends;
}

-- where all are at a tick
module _ (m : Machine) (q : Motion) (tick : ℕ) (ps : List Place) (rs : List ℤ)
    (each : (j : ℕ) → j < state_count m → place_in ps j ≡ place_there tick q j) where
  since_all : (j : ℕ) → j < state_count m → (place_in ps j).since ≡ tick
  since_all j h = ap (λ (p : Place). p.since) (each j h)

  pub levels_all : levels_on (state_count m) ps q.changes.items tick ≡ (motion_at m q tick).levels
  unfolding levels_on
  levels_all = same_table (state_count m) (λ j. level_on (place_in ps j) (int_at q.changes.items j)
      tick) _
      (λ j h. here_level (place_in ps j) (int_at q.changes.items j) tick (since_all j h)
      ∙ ap (λ (p : Place). p.level) (each j h))

  pub states_all : states_on (state_count m) ps rs q.bends.items tick ≡ (motion_at m q tick).states
  unfolding states_on
  states_all = same_table (state_count m) (λ j. state_on (place_in ps j) (int_at rs j)
      (int_at q.bends.items j) tick) _
      (λ j h. here_state (place_in ps j) (int_at rs j) (int_at q.bends.items j) tick (since_all j h)
      ∙ ap (λ (p : Place). p.state) (each j h))

  pub rises_all : ((j : ℕ) → j < state_count m → int_at rs j ≡ rise_on (place_in q.places.items j)
      (int_at q.rises.items j) (int_at q.bends.items j) tick) →
      rises_on (state_count m) ps rs q.bends.items tick ≡ (motion_at m q tick).rises
  unfolding rises_on
  rises_all own = same_table (state_count m) (λ j. rise_on (place_in ps j) (int_at rs j)
      (int_at q.bends.items j) tick) _
      (λ j h. here_line (int_at rs j) (int_at q.bends.items j) (place_in ps j).since tick
      (since_all j h) ∙ own j h)

-- moving some states to a tick does not change the levels there
pub moved_levels : (n tick : ℕ) (q : Motion) (ps : List Place) (affected : List ℕ) →
    ((j : ℕ) → is_listed affected j ≡ true → place_in ps j ≡ place_there tick q j) →
    ((j : ℕ) → is_listed affected j ≡ false → place_in ps j ≡ place_in q.places.items j) →
    levels_on n ps q.changes.items tick ≡ levels_on n q.places.items q.changes.items tick
unfolding levels_on
moved_levels n tick q ps affected there stayed =
    same_table n (λ j. level_on (place_in ps j) (int_at q.changes.items j) tick) _
    (λ j h. elim (cases_Bool (is_listed affected j)) [
      | inl e ↦ here_level (place_in ps j) (int_at q.changes.items j) tick
          (ap (λ (p : Place). p.since) (there j e)) ∙ ap (λ (p : Place). p.level) (there j e)
      | inr not ↦ ap (λ (p : Place). level_on p (int_at q.changes.items j) tick) (stayed j not)
    ])

pub same_motion : (a b : MotionAt) → a.states ≡ b.states → a.levels ≡ b.levels →
    a.changes ≡ b.changes → a.rises ≡ b.rises → a.bends ≡ b.bends → a ≡ b
same_motion a b states levels changes rises bends = rw (states, levels, changes, rises, bends)

-- levels within a bound, some of which were new at a tick
pub bounded_on : (n : ℕ) (old new : List Place) (vs ws : List ℤ) (left : List ℕ) (tick t end end2 :
    ℕ)
    (safe safe2 : Option ℤ) (bound : ℤ) → safe ≡ Some bound → safe2 ≡ safe → tick ≤ t → end2 ≡ end →
    AreLevelsBoundedUntil n old vs tick end safe → ((j u : ℕ) → is_listed left j ≡ true → t ≤ u → u
    ≤ end2 →
    abs_of (level_on (place_in new j) (int_at ws j) u) ≤ℤ bound) →
    ((j u : ℕ) → j < n → is_listed left j ≡ false → t ≤ u → level_on (place_in new j) (int_at ws j)
    u ≡ level_on (place_in old j) (int_at vs j) u) → AreLevelsBoundedUntil n new ws t end2 safe2
bounded_on n old new vs ws left tick t end end2 safe safe2 bound is same later ends before fresh
    along = (
      bound,
      same ∙ is,
      λ j u h low high. elim (cases_Bool (is_listed left j)) [
        | inl leaves ↦ fresh j u leaves low high
        | inr stays ↦
            let bounds : before.0 ≡ bound = same_bound before.0 bound (sym before.1 ∙ is) in
            subst (λ z. abs_of z ≤ℤ bound) (sym (along j u h stays low))
            (subst (λ b. abs_of (level_on (place_in old j) (int_at vs j) u) ≤ℤ b) bounds
            (before.2 j u h (omega (arith, low, later)) (omega (arith, high, ends))))
      ],
    )

-- level slopes within a bound, some of which are new
pub slopes_bounded : (n : ℕ) (vs ws : List ℤ) (left : List ℕ) (safe safe2 : Option ℤ) (bound : ℤ) →
    safe ≡ Some bound → safe2 ≡ safe → AreLevelSlopesBounded n vs safe →
    ((j : ℕ) → is_listed left j ≡ true → abs_of (int_at ws j) ≤ℤ bound) →
    ((j : ℕ) → j < n → is_listed left j ≡ false → int_at ws j ≡ int_at vs j) →
    AreLevelSlopesBounded n ws safe2
slopes_bounded n vs ws left safe safe2 bound is same before fresh kept = (
  bound,
  same ∙ is,
  λ j h. elim (cases_Bool (is_listed left j)) [
    | inl leaves ↦ fresh j leaves
    | inr stays ↦
        let bounds : before.0 ≡ bound = same_bound before.0 bound (sym before.1 ∙ is) in
        subst (λ z. abs_of z ≤ℤ bound) (sym (kept j h stays))
        (subst (λ b. abs_of (int_at vs j) ≤ℤ b) bounds (before.2 j h))
  ],
)
